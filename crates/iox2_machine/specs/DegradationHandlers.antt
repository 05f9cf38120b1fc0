-- What a port's handler of refused connections may answer.
use Rattle.std.specs.Prelude.{◌≡◌}
use Rattle.iox2_machine.specs.declared.degradation.DegradationAction.{DegradationAction}
use Rattle.iox2_machine.specs.declared.degradation.DegradationCause.{DegradationCause}
use Rattle.iox2_machine.specs.declared.degradation.DegradationInfo.{DegradationInfo}
use Rattle.iox2_machine.specs.declared.degradation_handler.DegradationHandler.{DegradationHandler}
use Rattle.iox2_machine.specs.declared.degradation_handler.DegradationHandler.TheVariants.{Fixed, Custom}

-- What a handler may answer, where `allows` says it of what the caller gave.
abbrev pub MayDegrade : {G : Type 0} → (G → DegradationCause → DegradationInfo → DegradationAction → Type 0)
    → DegradationHandler G → DegradationCause → DegradationInfo → DegradationAction → Type 0
MayDegrade allows (Fixed action) cause info answer = answer ≡ action
MayDegrade allows (Custom g) cause info answer = allows g cause info answer
