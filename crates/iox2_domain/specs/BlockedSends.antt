-- A blocked send goes on: its message is delivered to the receivers that remain.
use Rattle.std.specs.Prelude.{◌≡◌, ℕ, ◌≤◌, List, length, slice_set, slice_index_or}
use Rattle.std.specs.declared.option.Option.TheVariants.{None, Some}
use Rattle.std.specs.declared.time.Duration.{Duration}
use Rattle.slab.specs.Slab.{get, with_value}
use Rattle.iox2_slots.specs.SlotBook.{Book}
use Rattle.iox2_machine.specs.machine.Numbers.{without}
use Rattle.iox2_machine.specs.machine.Records.{Entry, Environment, BlockedSend}
use Rattle.iox2_machine.specs.machine.Sends.{Retry, GiveUp, SendResult}
use Rattle.iox2_connections.specs.Counters.{with_counters, one_holder_less}
use Rattle.iox2_connections.specs.Mailboxes.{sender_ends}
use Rattle.iox2_connections.specs.declared.sender.Progress.{Progress}
use Rattle.iox2_connections.specs.declared.sender.DeliveryOutcome.{DeliveryOutcome}
use Rattle.iox2_domain.specs.declared.publisher_state.BlockedDelivery.{BlockedDelivery}
use Rattle.iox2_domain.specs.Ports.{PublisherFields}
use Rattle.iox2_domain.specs.Kept.{state_of, entries_of}
use Rattle.iox2_domain.specs.Fields.{Fields, kept_of, number_in_slot, within_reach, blocked_send}
use Rattle.iox2_domain.specs.Invariant.{IsDomain}
use Rattle.iox2_domain.specs.KeptPlaces.{KeepsPlaces}
use Rattle.iox2_domain.specs.Deliveries.{DeliversFrom}

-- The publisher after a delivery that had been blocked: the loan is out no more, or it waits for a receiver again.
abbrev pub with_outcome : DeliveryOutcome → BlockedDelivery → PublisherFields → PublisherFields
with_outcome (DeliveryOutcome.Complete count has_failed) b x =
    record x { loans = without b.slot x.loans; blocked = None }
with_outcome (DeliveryOutcome.Suspended progress) b x = record x { blocked = Some (record b { progress = progress }) }

-- The counters then: the loan was one holder.
abbrev pub counters_after : DeliveryOutcome → (slot : ℕ) → List ℕ → List ℕ
counters_after (DeliveryOutcome.Complete count has_failed) slot holders = one_holder_less slot holders
counters_after (DeliveryOutcome.Suspended progress) slot holders = holders

-- The blocked delivery of the publisher x may be taken up there: at its place or a later one, with no more receivers
-- counted.
pub record CanGoOn (x : PublisherFields) (b : BlockedDelivery) (start : Progress) : Type 0 where
  pub later : (b.progress).place ≤ start.place
  pub within : start.place ≤ length (within_reach b x.keys)
  pub counted : start.count ≤ start.place

-- The blocked delivery of the publisher x, which stands at that place, was taken up there, with this outcome.
pub record GoesOn {T U : Type 0} (environment : Environment) (old : Fields T U) (place : ℕ) (x : PublisherFields)
    (b : BlockedDelivery)
    (start : Progress) (elapsed : Duration) (outcome : DeliveryOutcome) (new : Fields T U) : Type 0 where
  pub delivered : Fields T U
  pub delivers : DeliversFrom environment old x b.channel (within_reach b x.keys) b.slot start elapsed outcome delivered
  pub book : Book
  pub stands : get delivered.books x.book ≡ Some book
  pub ended : new ≡ record delivered {
    publishers = slice_set delivered.publishers place (Some (with_outcome outcome b x));
    books = with_value delivered.books x.book (with_counters book (counters_after outcome b.slot book.holders));
  }

-- A delivery of the publisher at the place is blocked.
pub record HasBlocked {T U : Type 0} (f : Fields T U) (place : ℕ) : Type 0 where
  pub publisher : PublisherFields
  pub stands : slice_index_or f.publishers place None ≡ Some publisher
  pub blocked : BlockedDelivery
  pub waits : publisher.blocked ≡ Some blocked

-- The blocked send of the publisher x, as the machine knows it.
abbrev pub waiting_send : {T U : Type 0} → Fields T U → PublisherFields → BlockedDelivery → BlockedSend
waiting_send f x b = blocked_send (number_in_slot f.books x.id) (sender_ends f.connections x.keys) b

-- The blocked send of the publisher x was tried again, with this result. No entry is newly kept.
pub record RetriesAs {T U : Type 0} (environment : Environment) (old new : Fields T U) (x : PublisherFields)
    (b : BlockedDelivery) (elapsed : Duration) (result : SendResult) : Type 0 where
  pub agrees : IsDomain new
  pub retries : Retry environment (state_of (kept_of old)) x.id (waiting_send old x b) elapsed
      (state_of (kept_of new)) result
  pub entries : (m : ℕ) (entry : Entry T U) → entries_of (kept_of new) m ≡ Some entry
      → entries_of (kept_of old) m ≡ Some entry
  pub places : KeepsPlaces old new

-- The blocked send of the publisher x was given up at the receiver that it waits for, with this result. No entry is
-- newly kept.
pub record GivesUpAs {T U : Type 0} (environment : Environment) (old new : Fields T U) (x : PublisherFields)
    (b : BlockedDelivery) (result : SendResult) : Type 0 where
  pub agrees : IsDomain new
  pub gives_up : GiveUp environment (state_of (kept_of old)) x.id (waiting_send old x b) (state_of (kept_of new)) result
  pub entries : (m : ℕ) (entry : Entry T U) → entries_of (kept_of new) m ≡ Some entry
      → entries_of (kept_of old) m ≡ Some entry
  pub places : KeepsPlaces old new
