-- A client's list of subscribers, and what is taken out of it and put back.
use Rattle.std.specs.Prelude.{◌≡◌, ◌<◌, ℕ, List, [], ◌∷◌, length, map, MatchOption, slice_index_or, slice_set}
use Rattle.std.specs.declared.option.Option.{Option}
use Rattle.iox2_pubsub.specs.Handles.{subscriber_id}
use Rattle.iox2_pubsub.specs.Live.{Item, subscriber_ports}
use Rattle.iox2_pubsub.specs.declared.subscriber.Subscriber.{Subscriber}
use Rattle.iox2_request_response.specs.declared.slots.Slot.{Slot}
use Rattle.iox2_request_response.specs.declared.slots.Slot.TheVariants.{Idle, InUse}

-- The id of the slot's subscriber, which is idle, or which a request has.
abbrev pub slot_id : Slot → ℕ
slot_id (Idle subscriber) = subscriber_id subscriber
slot_id (InUse id) = id

-- The ids of all subscribers.
abbrev pub slot_ids : List Slot → List ℕ
slot_ids slots = map slot_id slots

-- The ids of the idle ones.
abbrev pub idle_ids : List Slot → List ℕ
idle_ids [] = []
idle_ids (Idle subscriber ∷ slots) = subscriber_id subscriber ∷ idle_ids slots
idle_ids (InUse id ∷ slots) = idle_ids slots

-- The idle subscribers.
abbrev pub idle_ports : List Slot → Item
idle_ports slots = subscriber_ports (idle_ids slots)

-- The subscriber stands at this index, and is idle.
abbrev pub HasIdle : List Slot → (index : ℕ) → Subscriber → Type 0
HasIdle slots index subscriber = slice_index_or slots index (InUse 0) ≡ Idle subscriber

-- All slots are in use.
abbrev pub AllInUse : List Slot → Type 0
AllInUse slots = (index : ℕ) (subscriber : Subscriber) → HasIdle slots index subscriber → ⊥

-- No id stands in the list twice.
abbrev pub AreDistinctIdle : List ℕ → Type 0
AreDistinctIdle ids = (index other : ℕ) → index < length ids → other < length ids
    → slice_index_or ids index 0 ≡ slice_index_or ids other 0 → index ≡ other

-- A request has the subscriber with this id, whose place is at this index.
pub record IsPlaceInUse (slots : List Slot) (index id : ℕ) : Type 0 where
  pub there : index < length slots
  pub in_use : slice_index_or slots index (InUse 0) ≡ InUse id

-- An idle subscriber was taken out, from this index, or there is none.
abbrev pub IsIdleTakenOut : (old : List Slot) → Option (ℕ × Subscriber) → (new : List Slot) → Type 0
IsIdleTakenOut old result new =
    MatchOption result ((new ≡ old) × AllInUse old)
    (λ it. (it.0 < length old) × HasIdle old it.0 it.1 × (new ≡ slice_set old it.0 (InUse (subscriber_id it.1))))
