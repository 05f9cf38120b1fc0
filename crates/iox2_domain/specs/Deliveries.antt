-- A publisher's message is delivered, and its send ends.
use Rattle.std.specs.Prelude.{◌≡◌, ℕ, ◌≤◌, false, if◌then◌else◌, drop, List, [], ◌∷◌, ◌++◌, length, map, nat_lt}
use Rattle.std.specs.Prelude.{slice_get, slice_set}
use Rattle.std.specs.declared.option.Option.{Option}
use Rattle.std.specs.declared.option.Option.TheVariants.{None, Some}
use Rattle.std.specs.Option.{option_map}
use Rattle.slab.specs.Slab.{Slab, get, with_value}
use Rattle.circular_buffer.specs.Buffer.{Buffer, buffer, keep_last}
use Rattle.iox2_machine.specs.machine.Delivery.{Deliver, no_time}
use Rattle.iox2_connections.specs.Link.{Link}
use Rattle.iox2_machine.specs.machine.Numbers.{without}
use Rattle.iox2_machine.specs.machine.Records.{Environment}
use Rattle.iox2_machine.specs.machine.Sends.{SendResult, Delivered_to, Blocked_send, Send_error}
use Rattle.iox2_machine.specs.declared.errors.SendError.TheVariants.{UnableToDeliver}
use Rattle.iox2_slots.specs.SlotBook.{Book, holders_at}
use Rattle.iox2_slots.specs.declared.slots.mark.SlotMark.TheVariants.{Sent}
use Rattle.iox2_connections.specs.Counters.{HoldsItself, GrowsAlone, times, with_counters, one_holder_less}
use Rattle.iox2_connections.specs.Counters.{one_holder_more}
use Rattle.iox2_connections.specs.Deliveries.{begun, end_of}
use Rattle.iox2_connections.specs.declared.sender.Progress.{Progress}
use Rattle.iox2_connections.specs.declared.sender.DeliveryOutcome.{DeliveryOutcome}
use Rattle.iox2_connections.specs.Mailboxes.{mailboxes_of, sender_ends}
use Rattle.std.specs.declared.time.Duration.{Duration}
use Rattle.iox2_connections.specs.Receivers.{taking_buffers}
use Rattle.iox2_connections.specs.Recounts.{Recounts}
use Rattle.iox2_domain.specs.Ports.{PublisherFields}
use Rattle.iox2_domain.specs.Fields.{Fields}
use Rattle.iox2_domain.specs.Invariant.{details_of}

-- The slot of the publisher x went into that channel at these keys of its own, from the start on, with this outcome.
-- Connections and counters changed together, and nothing else did.
pub record DeliversFrom {T U : Type 0} (environment : Environment) (old : Fields T U) (x : PublisherFields)
    (channel : ℕ) (keys : List (Option ℕ)) (slot : ℕ) (start : Progress) (elapsed : Duration)
    (outcome : DeliveryOutcome) (new : Fields T U) : Type 0 where
  pub book : Book
  pub stands : get old.books x.book ≡ Some book
  pub holders : List ℕ
  pub connections : Slab Link
  pub delivered : new ≡ record old
      { connections = connections; books = with_value old.books x.book (with_counters book holders) }
  pub recounts : Recounts x.id book.holders old.connections holders connections
  pub alone : GrowsAlone slot book.holders holders
  pub delivers : (number : ℕ → ℕ → ℕ)
      → Deliver environment old.config x.id x.strategy x.backpressure_handler
      (taking_buffers old.connections x.id channel (map (option_map details_of) old.subscribers)) (number x.id slot)
      channel start.retries elapsed start.place (drop start.place (sender_ends old.connections keys)) start.count
      start.has_failed (mailboxes_of number old.connections x.id)
      (end_of (number x.id slot) channel (sender_ends old.connections keys) outcome)
      (mailboxes_of number connections x.id)

-- The publisher without the loan in the slot.
abbrev pub with_loan_out : (slot : ℕ) → PublisherFields → PublisherFields
with_loan_out slot x = record x { loans = without slot x.loans }

-- The history with the slot as its last, without its oldest where there would be more slots than fit.
abbrev pub pushed : Buffer ℕ → (slot : ℕ) → Buffer ℕ
pushed history slot = buffer (keep_last history.capacity (history.items ++ slot ∷ [])) history.capacity

-- The slot that leaves the history for this one, if any. It is this one itself where no history is kept.
abbrev pub leaving : Buffer ℕ → (slot : ℕ) → Option ℕ
leaving history slot =
    if nat_lt (length history.items) history.capacity then None else slice_get (history.items ++ slot ∷ []) 0

-- The book with the slot's message sent.
abbrev pub with_sent : (slot : ℕ) → Book → Book
with_sent slot book = record book { marks = slice_set book.marks slot Sent }

-- The book with one holder less of the slot that left, if one did.
abbrev pub with_left : Option ℕ → Book → Book
with_left None book = book
with_left (Some oldest) book = with_counters book (one_holder_less oldest book.holders)

-- The publisher whose slot was delivered with this outcome: it is out no more, or it waits for a receiver.
abbrev pub with_delivered : DeliveryOutcome → (slot : ℕ) → PublisherFields → PublisherFields
with_delivered (DeliveryOutcome.Complete count has_failed) slot x = with_loan_out slot x
with_delivered (DeliveryOutcome.Suspended progress) slot x =
    record x { blocked = Some (record { slot = slot; channel = 0; is_alone = false; progress = progress }) }

-- Its book, in which a slot that is out still has one holder more for the history that is to have it.
abbrev pub with_history_holder : DeliveryOutcome → (slot : ℕ) → Book → Book
with_history_holder (DeliveryOutcome.Complete count has_failed) slot book = book
with_history_holder (DeliveryOutcome.Suspended progress) slot book =
    with_counters book (one_holder_more slot book.holders)

-- The publisher after a send of the slot with this outcome.
abbrev pub sender_after : DeliveryOutcome → (slot : ℕ) → PublisherFields → PublisherFields
sender_after outcome slot x = record (with_delivered outcome slot x) { history = pushed x.history slot }

-- Its book then.
abbrev pub book_after : DeliveryOutcome → (slot : ℕ) → PublisherFields → Book → Book
book_after outcome slot x book =
    with_left (leaving x.history slot) (with_sent slot (with_history_holder outcome slot book))

-- The fields then.
abbrev pub with_send : {T U : Type 0} → DeliveryOutcome → Fields T U → (place : ℕ) → PublisherFields → (slot : ℕ) → Book
    → Fields T U
with_send outcome f place x slot book = record f {
  publishers = slice_set f.publishers place (Some (sender_after outcome slot x));
  books = with_value f.books x.book (book_after outcome slot x book);
}

-- What the machine's send returns.
abbrev pub result_of_delivery : DeliveryOutcome → SendResult
result_of_delivery (DeliveryOutcome.Complete count has_failed) =
    if has_failed then Send_error UnableToDeliver else Delivered_to count
result_of_delivery (DeliveryOutcome.Suspended progress) = Blocked_send

-- The slot is a loan of the publisher x: it stands once among its loans, and the publisher itself is its one holder.
pub record CanSend {T U : Type 0} (f : Fields T U) (x : PublisherFields) (slot : ℕ) : Type 0 where
  pub book : Book
  pub stands : get f.books x.book ≡ Some book
  pub own : HoldsItself x.id slot book.holders f.connections.slots
  pub alone : holders_at book slot ≡ 1
  pub once : times slot x.loans ≤ 1

-- The slot of the publisher x, which stands at that place, went to its receivers with this outcome, and the send ended
-- or is blocked.
pub record SendsSlot {T U : Type 0} (environment : Environment) (old : Fields T U) (place : ℕ) (x : PublisherFields)
    (slot : ℕ) (outcome : DeliveryOutcome) (new : Fields T U) : Type 0 where
  pub delivered : Fields T U
  pub delivers : DeliversFrom environment old x 0 x.keys slot begun no_time outcome delivered
  pub book : Book
  pub stands : get delivered.books x.book ≡ Some book
  pub ended : new ≡ with_send outcome delivered place x slot book
