use Rattle.std.proofs.Common.{refl}
use Rattle.iox2_c.proofs.BecomesSteps.{becomes}
use Rattle.iox2_c.proofs.exports.publishers.iox2ps_publisher_close.Goals as goal

pub returns-in-Some-clause-closed : goal.returns-in-Some-clause-closed
returns-in-Some-clause-closed c = λ ok.
    becomes _ _ _ c.in-Some.service.now c.close.new.service c.in-Some.ensures.value refl (c.close.ensures.closed ok)
