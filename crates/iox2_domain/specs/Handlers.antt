-- What answers for a port: at a full buffer, and where it can't make a connection.
use Rattle.std.specs.Prelude.{◌≡◌, ℕ, Bool, true, false, List}
use Rattle.std.specs.declared.option.Option.{Option}
use Rattle.std.specs.declared.option.Option.TheVariants.{None, Some}
use Rattle.std.specs.Option.{option_map}
use Rattle.iox2_machine.specs.machine.Records.{Handler, Fixed, Custom}
use Rattle.iox2_machine.specs.declared.backpressure_handler.BackpressureHandler.{BackpressureHandler}
use Rattle.iox2_machine.specs.declared.backpressure_handler.BackpressureHandler.TheVariants as handler
use Rattle.iox2_domain.specs.declared.boxes.PortBox.{PortBox}
use Rattle.iox2_domain.specs.declared.handlers.AskedBox.{AskedBox}
use Rattle.iox2_domain.specs.declared.handlers.HandlerMark.{HandlerMark}
use Rattle.iox2_domain.specs.declared.handlers.HandlerMark.TheVariants as mark
use Rattle.iox2_machine.specs.declared.backpressure.BackpressureAction.{BackpressureAction}
use Rattle.iox2_machine.specs.declared.backpressure.BackpressureAction.TheVariants.{FollowBackpressureyStrategy, Retry}
use Rattle.iox2_machine.specs.declared.backpressure.BackpressureAction.TheVariants.{DiscardData, DiscardDataAndFail}
use Rattle.iox2_machine.specs.declared.degradation.DegradationAction.{DegradationAction}
use Rattle.iox2_machine.specs.declared.degradation.DegradationAction.TheVariants.{Ignore, Warn, DegradeAndFail}

-- The handler that always gives this answer, where there is one.
abbrev pub fixed_handler : Option BackpressureAction → Option (Handler BackpressureAction)
fixed_handler answer = option_map {U = Handler BackpressureAction} (λ action. Fixed action) answer

-- What a port has for a handler, as the machine knows it.
abbrev pub handler_of : {Action : Type 0} → HandlerMark Action → Handler Action
handler_of (mark.Fixed action) = Fixed action
handler_of mark.Custom = Custom

-- The handler that there is, if any, as the machine knows it.
abbrev pub handler_if_any : Option (HandlerMark BackpressureAction) → Option (Handler BackpressureAction)
handler_if_any has = option_map {U = Handler BackpressureAction} handler_of has

-- Where the handler is asked, it asks the box of the publisher with the id.
abbrev pub AsksFor : {F G : Type 0} → (id : ℕ) → List (PortBox F G) → Option (BackpressureHandler (AskedBox F G))
    → Type 0
AsksFor id boxes None = Unit {0}
AsksFor id boxes (Some (handler.Fixed action)) = Unit {0}
AsksFor id boxes (Some (handler.Custom asked)) = (asked.id ≡ id) × (asked.boxes.now.boxes ≡ boxes)

-- The action fails the send.
abbrev pub is_failing : BackpressureAction → Bool
is_failing FollowBackpressureyStrategy = false
is_failing Retry = false
is_failing DiscardData = false
is_failing DiscardDataAndFail = true

-- The handler may fail a send: that is its answer, or it is a box.
abbrev pub may_fail : Option (Handler BackpressureAction) → Bool
may_fail None = false
may_fail (Some (Fixed action)) = is_failing action
may_fail (Some Custom) = true

-- The answer fails the update.
abbrev pub fails_update : DegradationAction → Bool
fails_update Ignore = false
fails_update Warn = false
fails_update DegradeAndFail = true

-- The handler may fail an update: that is its answer, or it is a box.
abbrev pub may_fail_update : Handler DegradationAction → Bool
may_fail_update (Fixed action) = fails_update action
may_fail_update Custom = true
