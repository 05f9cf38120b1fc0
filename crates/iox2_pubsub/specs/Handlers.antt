-- What a factory is told of a publisher's handler, and what it means for sends.
use Rattle.std.specs.Prelude.{Bool, true, not, ◌&&◌, ◌||◌}
use Rattle.std.specs.declared.option.Option.{Option}
use Rattle.std.specs.declared.option.Option.TheVariants.{None, Some}
use Rattle.iox2_machine.specs.machine.Delivery.{by_action, by_strategy, is_blocking}
use Rattle.iox2_machine.specs.machine.Records.{Handler}
use Rattle.iox2_machine.specs.machine.Records as machine
use Rattle.iox2_machine.specs.declared.backpressure.BackpressureAction.{BackpressureAction}
use Rattle.iox2_machine.specs.declared.backpressure.BackpressureStrategy.{BackpressureStrategy}
use Rattle.iox2_machine.specs.declared.degradation.DegradationAction.{DegradationAction}
use Rattle.iox2_domain.specs.Handlers.{may_fail, may_fail_update}

-- A send may wait for a full receiver: the strategy says so, or a handler that always gives the same answer, or there
-- is a box.
abbrev pub may_wait : BackpressureStrategy → Option (Handler BackpressureAction) → Bool
may_wait strategy None = is_blocking (by_strategy strategy)
may_wait strategy (Some (machine.Fixed action)) = is_blocking (by_action strategy action)
may_wait strategy (Some machine.Custom) = true

-- No send of a publisher is blocked or failed by a handler: none is blocked now, none fails without a connection, and
-- the service overflows, or else none waits or fails at a full receiver.
abbrev pub is_never_hindered : (overflow is_blocked : Bool) → BackpressureStrategy → Option (Handler BackpressureAction)
    → Handler DegradationAction → Bool
is_never_hindered overflow is_blocked strategy handler degradation =
    not (is_blocked || may_fail_update degradation) && (overflow || not (may_wait strategy handler || may_fail handler))
