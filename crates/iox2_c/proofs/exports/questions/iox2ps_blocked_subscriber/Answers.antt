use Rattle.iox2_c.proofs.ChannelSteps.{knows}
use Rattle.iox2_c.proofs.exports.questions.iox2ps_blocked_subscriber.Goals as goal

pub returns-in-Some-clause-tells : goal.returns-in-Some-clause-tells
returns-in-Some-clause-tells c = λ ok.
    knows _ _ c.in-Some.service.now c.in-Some.ensures.value (c.blocker.ensures.live ok, c.blocker.ensures.tells ok)
