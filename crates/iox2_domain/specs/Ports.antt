-- What contracts inside this crate see of a publisher and a subscriber: keys of connections and numbers of slots.
use Rattle.std.specs.Prelude.{ℕ, Bool, true, max, List, []}
use Rattle.std.specs.declared.option.Option.{Option}
use Rattle.circular_buffer.specs.Buffer.{Buffer}
use Rattle.iox2_machine.specs.machine.Records.{Handler}
use Rattle.iox2_machine.specs.declared.allocation.AllocationStrategy.{AllocationStrategy}
use Rattle.iox2_machine.specs.declared.backpressure.BackpressureAction.{BackpressureAction}
use Rattle.iox2_machine.specs.declared.backpressure.BackpressureStrategy.{BackpressureStrategy}
use Rattle.iox2_machine.specs.declared.degradation.DegradationAction.{DegradationAction}
use Rattle.iox2_domain.specs.declared.publisher_state.BlockedDelivery.{BlockedDelivery}

pub record PublisherFields : Type 0 where
  pub id : ℕ
  pub place : ℕ
  pub book : ℕ  -- the key of its book
  pub max_loaned_samples : ℕ
  pub slots : ℕ  -- of each of its segments
  pub strategy : BackpressureStrategy
  pub backpressure_handler : Option (Handler BackpressureAction)
  pub degradation_handler : Handler DegradationAction
  pub allocation : AllocationStrategy
  pub initial_max_slice_len : ℕ
  pub longest_granted : ℕ
  pub segments : ℕ
  pub segment_start : ℕ  -- the first slot of its current segment, which is the last
  pub segment_length : ℕ  -- the length for which that segment was made
  pub loans : List ℕ  -- the slots of the loans that are out
  pub loan_room : ℕ  -- that many fit with no allocation
  pub history : Buffer ℕ  -- the slots of the last messages sent
  pub keys : List (Option ℕ)  -- by the subscriber's place, the keys of its connections
  pub key_room : ℕ  -- that many fit with no allocation
  pub is_due : Bool
  pub blocked : Option BlockedDelivery

pub record SubscriberFields : Type 0 where
  pub id : ℕ
  pub place : ℕ
  pub is_open : Bool
  pub buffer : ℕ
  pub degradation_handler : Handler DegradationAction
  pub keys : List (Option ℕ)  -- by the publisher's place, the keys of its connections
  pub key_room : ℕ  -- that many fit with no allocation
  pub expired : List ℕ  -- the keys of its connections with departed publishers, in order of entry
  pub expired_room : ℕ  -- that many fit with no allocation
  pub is_due : Bool

-- How many elements each slot of a segment of that length has room for: as many, and one at least.
abbrev pub slot_length : (segment_length : ℕ) → ℕ
slot_length segment_length = max 1 segment_length

-- A subscriber that was just made, with this handler of degradations, and with room for `key_room` connections and
-- `expired_room` expired ones.
abbrev pub entering : (id place buffer : ℕ) → Handler DegradationAction → (key_room expired_room : ℕ) → SubscriberFields
entering id place buffer handler key_room expired_room = record {
  id = id;
  place = place;
  is_open = true;
  buffer = buffer;
  degradation_handler = handler;
  keys = [];
  key_room = key_room;
  expired = [];
  expired_room = expired_room;
  is_due = true;
}
