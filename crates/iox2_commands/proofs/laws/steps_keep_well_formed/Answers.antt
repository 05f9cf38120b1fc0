use Rattle.iox2_commands.proofs.StepLaws.{IsSound, step_sound}
use Rattle.iox2_commands.specs.Laws.{tested_environment}
use Rattle.iox2_commands.proofs.laws.steps_keep_well_formed.Goals as goal

pub returns : goal.returns
returns g c = λ may_refuse_memory backpressure degradation default_value default_header m s handles command o w step.
    let sound : IsSound s o = step_sound (tested_environment may_refuse_memory backpressure degradation) default_value
    default_header m s handles w command o step in
    (sound.well_formed, sound.advances)
