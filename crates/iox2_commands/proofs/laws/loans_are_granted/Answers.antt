use Rattle.iox2_commands.proofs.EnoughRuns.{loans_are_granted}
use Rattle.iox2_commands.specs.Laws.{tested_environment}
use Rattle.iox2_commands.proofs.laws.loans_are_granted.Goals as goal

pub returns : goal.returns
returns g c = λ may_refuse_memory backpressure degradation.
    loans_are_granted (tested_environment may_refuse_memory backpressure degradation)
