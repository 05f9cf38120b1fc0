-- A loan is sent to one connection of its publisher.
use Rattle.std.specs.Prelude.{◌≡◌, ◌≢◌, ◌⊎◌, ℕ, true, slice_set}
use Rattle.std.specs.declared.option.Option.TheVariants.{Some}
use Rattle.slab.specs.Slab.{with_value}
use Rattle.iox2_slots.specs.SlotBook.{Book}
use Rattle.iox2_machine.specs.machine.Loans.{entry_of}
use Rattle.iox2_machine.specs.machine.Records.{Entry, Environment, Loan}
use Rattle.iox2_machine.specs.machine.Sends.{SendResult, Send_error, SendToConnection}
use Rattle.iox2_machine.specs.declared.errors.SendError.{SendError}
use Rattle.iox2_machine.specs.declared.errors.SendError.TheVariants.{UnableToDeliver}
use Rattle.iox2_connections.specs.Deliveries.{begun}
use Rattle.iox2_connections.specs.declared.sender.Progress.{Progress}
use Rattle.iox2_domain.specs.declared.publisher_state.BlockedDelivery.{BlockedDelivery}
use Rattle.iox2_domain.specs.Deliveries.{with_sent}
use Rattle.iox2_domain.specs.Fields.{Fields, kept_of}
use Rattle.iox2_domain.specs.Invariant.{IsDomain}
use Rattle.iox2_domain.specs.KeptPlaces.{KeepsPlaces}
use Rattle.iox2_domain.specs.Kept.{state_of, entries_of}
use Rattle.iox2_domain.specs.Ports.{PublisherFields}

-- The receiver at that place wasn't asked yet.
abbrev pub begun_at : (connection : ℕ) → Progress
begun_at connection = record begun { place = connection }

-- The delivery of the slot into that channel of the connection at that place, which waits there before anybody was
-- asked.
abbrev pub begun_delivery : (slot channel connection : ℕ) → BlockedDelivery
begun_delivery slot channel connection =
    record { slot = slot; channel = channel; is_alone = true; progress = begun_at connection }

-- The fields after the publisher x, which stands at that place, has begun this delivery: its slot is a message, for
-- which x waits.
abbrev pub with_begun : {T U : Type 0} → Fields T U → (place : ℕ) → PublisherFields → BlockedDelivery → Book
    → Fields T U
with_begun f place x b book = record f {
  publishers = slice_set f.publishers place (Some (record x { blocked = Some b }));
  books = with_value f.books x.book (with_sent b.slot book);
}

-- The loan n was sent into that channel of the connection at that place, with this result. Its entry may be newly kept,
-- and no other is.
pub record SendsKeptLoanTo {T U : Type 0} (environment : Environment) (old new : Fields T U) (n channel connection : ℕ)
    (result : SendResult) : Type 0 where
  pub loan : Loan T U
  pub out : (state_of (kept_of old)).loans n ≡ Some loan
  pub agrees : IsDomain new
  pub sends : SendToConnection environment (state_of (kept_of old)) n loan channel connection
      (state_of (kept_of new)) result
  pub entries : (m : ℕ) (entry : Entry T U) → entries_of (kept_of new) m ≡ Some entry
      → ((m ≡ n) × (entry ≡ entry_of loan)) ⊎ (entries_of (kept_of old) m ≡ Some entry)
  pub places : KeepsPlaces old new
  -- After an error no entry is newly kept, except if a handler failed the send.
  pub lost : (error : SendError) → error ≢ UnableToDeliver → result ≡ Send_error error → (m : ℕ) (entry : Entry T U)
      → entries_of (kept_of new) m ≡ Some entry → entries_of (kept_of old) m ≡ Some entry
