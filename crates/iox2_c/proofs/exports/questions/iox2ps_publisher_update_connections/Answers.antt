use Rattle.std.proofs.Common.{refl}
use Rattle.iox2_c.proofs.BecomesSteps.{becomes}
use Rattle.iox2_c.proofs.exports.questions.iox2ps_publisher_update_connections.Goals as goal

pub returns-in-Some-clause-updates : goal.returns-in-Some-clause-updates
returns-in-Some-clause-updates c = λ ended. let done = c.update_publisher.ensures.updates ended in (
  done.0,
  done.1,
  becomes _ _ _ c.in-Some.service.now c.update_publisher.new.service c.in-Some.ensures.value refl done.2,
)
