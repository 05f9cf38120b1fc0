use Rattle.iox2_commands.proofs.Lift.{lift}
use Rattle.iox2_commands.specs.Laws.{tested_environment}
use Rattle.iox2_commands.proofs.laws.steps_lift.Goals as goal

pub returns : goal.returns
returns g c =
    λ may_refuse_memory backpressure degradation default_value default_header old new handles command o moves m s shown.
    lift (tested_environment may_refuse_memory backpressure degradation) default_value default_header old new handles
    command o moves m s shown
