-- A loan is sent.
use Rattle.std.specs.Prelude.{◌≡◌, ◌≢◌, ◌⊎◌, ℕ, false, slice_index_or}
use Rattle.std.specs.declared.option.Option.TheVariants.{None, Some}
use Rattle.iox2_machine.specs.machine.Loans.{entry_of}
use Rattle.iox2_machine.specs.machine.Numbers.{put_at}
use Rattle.iox2_machine.specs.machine.Records.{Entry, Loan, Publisher, Environment}
use Rattle.iox2_machine.specs.machine.Sends.{SendResult, Send, Send_error}
use Rattle.iox2_machine.specs.declared.errors.ConnectionFailure.{ConnectionFailure}
use Rattle.iox2_machine.specs.declared.errors.SendError.{SendError}
use Rattle.iox2_machine.specs.declared.errors.SendError.TheVariants.{UnableToDeliver}
use Rattle.iox2_connections.specs.LookUp.{look_up}
use Rattle.iox2_domain.specs.Handlers.{may_fail}
use Rattle.iox2_domain.specs.Kept.{state_of, entries_of}
use Rattle.iox2_domain.specs.Fields.{Fields, kept_of}
use Rattle.iox2_domain.specs.Connects.{UpdatesKeptPublisher}
use Rattle.iox2_domain.specs.Invariant.{IsDomain, is_publisher}
use Rattle.iox2_domain.specs.KeptPlaces.{KeepsPlaces}
use Rattle.iox2_domain.specs.LoanSlots.{LiesInSlot}
use Rattle.iox2_domain.specs.Ports.{PublisherFields}

-- The publisher p stands at the place and is updated, and its loan n lies in the slot.
pub record IsReadyToSend {T U : Type 0} (environment : Environment) (old new : Fields T U)
    (p n place slot : ℕ) : Type 0 where
  pub publisher : PublisherFields
  pub stands : slice_index_or old.publishers place None ≡ Some publisher
  pub is_its : publisher.id ≡ p
  pub updated : UpdatesKeptPublisher environment old place publisher new None
  pub key : ℕ
  pub lies : LiesInSlot new p n key slot

-- The publisher p stands at the place, and its update fails so.
pub record IsNotUpdated {T U : Type 0} (environment : Environment) (old new : Fields T U) (p place : ℕ)
    (failure : ConnectionFailure) : Type 0 where
  pub publisher : PublisherFields
  pub stands : slice_index_or old.publishers place None ≡ Some publisher
  pub is_its : publisher.id ≡ p
  pub updated : UpdatesKeptPublisher environment old place publisher new (Some failure)

-- The publisher p is gone, and nothing was changed.
pub record IsLeftLoan {T U : Type 0} (old new : Fields T U) (p : ℕ) : Type 0 where
  pub is_gone : look_up (is_publisher p) old.publishers ≡ None
  pub same : new ≡ old

-- The loan n was sent, with this result, and it is in its user's hands no more. Its entry may be newly kept, and no
-- other is.
pub record SendsKeptLoan {T U : Type 0} (environment : Environment) (old new : Fields T U) (n : ℕ)
    (result : SendResult) : Type 0 where
  pub loan : Loan T U
  pub out : (state_of (kept_of old)).loans n ≡ Some loan
  pub agrees : IsDomain new
  pub sends : Send environment (state_of (kept_of old)) n loan (state_of (kept_of new)) result
  pub loans : (state_of (kept_of new)).loans ≡ put_at (state_of (kept_of old)).loans n None
  pub entries : (m : ℕ) (entry : Entry T U) → entries_of (kept_of new) m ≡ Some entry
      → ((m ≡ n) × (entry ≡ entry_of loan)) ⊎ (entries_of (kept_of old) m ≡ Some entry)
  pub places : KeepsPlaces old new
  -- After an error no entry is newly kept, except if the message was sent and a handler failed the send.
  pub lost : (error : SendError) → error ≢ UnableToDeliver → result ≡ Send_error error → (m : ℕ) (entry : Entry T U)
      → entries_of (kept_of new) m ≡ Some entry → entries_of (kept_of old) m ≡ Some entry
  -- A handler that fails no send fails none.
  pub unfailed : ((x : Publisher) → (state_of (kept_of old)).publishers loan.publisher ≡ Some x
      → may_fail x.backpressure_handler ≡ false) → result ≡ Send_error UnableToDeliver → ⊥
