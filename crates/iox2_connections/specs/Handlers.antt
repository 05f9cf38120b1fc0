-- What a publisher's handler answers, in its own words and in the machine's.
use Rattle.std.specs.declared.option.Option.{Option}
use Rattle.std.specs.Option.{option_map}
use Rattle.std.specs.declared.option.Option.TheVariants.{None, Some}
use Rattle.iox2_machine.specs.machine.Records.{Handler, Environment}
use Rattle.iox2_machine.specs.machine.Records as machine
use Rattle.iox2_machine.specs.BackpressureHandlers.{MayAnswer}
use Rattle.iox2_machine.specs.declared.backpressure.BackpressureAction.{BackpressureAction}
use Rattle.iox2_machine.specs.declared.backpressure.BackpressureInfo.{BackpressureInfo}
use Rattle.iox2_machine.specs.declared.backpressure_handler.BackpressureHandler.{BackpressureHandler}
use Rattle.iox2_machine.specs.declared.backpressure_handler.BackpressureHandler.TheVariants.{Fixed, Custom}

module _ {F : Type 0} where
  -- The machine's mark of a handler.
  abbrev pub mark_of : BackpressureHandler F → Handler BackpressureAction
  mark_of (Fixed action) = machine.Fixed action
  mark_of (Custom f) = machine.Custom

  -- The machine's mark of a handler that may be missing.
  abbrev pub marks_of : Option (BackpressureHandler F) → Option (Handler BackpressureAction)
  marks_of handler = option_map mark_of handler

  -- What a handler that may be missing may answer.
  abbrev pub AnswersAllowed : (F → BackpressureInfo → BackpressureAction → Type 0) → Option (BackpressureHandler F)
      → BackpressureInfo → BackpressureAction → Type 0
  AnswersAllowed allows None info answer = ⊥
  AnswersAllowed allows (Some handler) info answer = MayAnswer allows handler info answer

  -- Each box answers as this handler may.
  abbrev pub asked : (F → BackpressureInfo → BackpressureAction → Type 0) → Option (BackpressureHandler F) → Environment
  asked allows handler = record {
    may_refuse_memory = Unit {0};
    backpressure_answers = λ port info action. AnswersAllowed allows handler info action;
    degradation_answers = λ port cause info action. ⊥;
  }
