use Rattle.std.proofs.Common.{◌≡◌, ℕ, ◌<◌}
use Rattle.iox2_pubsub.specs.declared.subscriber.Subscriber.{Subscriber}
use Rattle.iox2_request_response.specs.Slots.{HasIdle}
use Rattle.iox2_request_response.proofs.slots.take_idle.Given as goal

abbrev pub invariant-loop-index : goal.invariant-loop-index
invariant-loop-index l =
    (l.slots.items ≡ l.fn.slots.items)
    × ((k : ℕ) → k < l.index → (subscriber : Subscriber) → HasIdle l.fn.slots.items k subscriber → ⊥)
