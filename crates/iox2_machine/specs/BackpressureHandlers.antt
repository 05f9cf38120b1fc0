-- What a publisher's handler of full buffers may answer.
use Rattle.std.specs.Prelude.{◌≡◌}
use Rattle.iox2_machine.specs.declared.backpressure.BackpressureAction.{BackpressureAction}
use Rattle.iox2_machine.specs.declared.backpressure.BackpressureInfo.{BackpressureInfo}
use Rattle.iox2_machine.specs.declared.backpressure_handler.BackpressureHandler.{BackpressureHandler}
use Rattle.iox2_machine.specs.declared.backpressure_handler.BackpressureHandler.TheVariants.{Fixed, Custom}

-- What a handler may answer, where `allows` says it of what the caller gave.
abbrev pub MayAnswer : {F : Type 0} → (F → BackpressureInfo → BackpressureAction → Type 0) → BackpressureHandler F
    → BackpressureInfo → BackpressureAction → Type 0
MayAnswer allows (Fixed action) info answer = answer ≡ action
MayAnswer allows (Custom f) info answer = allows f info answer
