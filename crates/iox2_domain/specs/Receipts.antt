-- The outcome of a receive.
use Rattle.std.specs.Prelude.{◌≡◌, ℕ, slice_get, Contains, MatchOption}
use Rattle.std.specs.declared.option.Option.{Option}
use Rattle.std.specs.declared.option.Option.TheVariants.{None, Some}
use Rattle.std.specs.declared.result.Result.{Result}
use Rattle.std.specs.declared.result.Result.TheVariants.{Ok, Err}
use Rattle.slab.specs.Slab.{Slab, get}
use Rattle.iox2_connections.specs.Link.{Link}
use Rattle.iox2_machine.specs.machine.Records.{Environment}
use Rattle.iox2_slots.specs.SlotBook.{Book}
use Rattle.iox2_machine.specs.machine.State.{State}
use Rattle.iox2_machine.specs.machine.Receives.{ReceiveResult, Got_sample, No_sample, Receive_error, TakeSample}
use Rattle.iox2_machine.specs.machine.Receives.{Receive}
use Rattle.iox2_machine.specs.declared.errors.ReceiveError.{ReceiveError}
use Rattle.iox2_connections.specs.declared.receiver.Taken.{Taken}
use Rattle.iox2_domain.specs.Kept.{state_of}
use Rattle.iox2_domain.specs.Fields.{Fields, kept_of, number_in_slot}
use Rattle.iox2_domain.specs.Reaches.{Reaches}
use Rattle.iox2_domain.specs.declared.sample_slots.Receipt.{Receipt}

-- The machine's result where a call returns this.
abbrev pub receive_result : Result (Option Receipt) ReceiveError → ReceiveResult
receive_result (Ok None) = No_sample
receive_result (Ok (Some receipt)) = Got_sample receipt.publisher receipt.sample.number
receive_result (Err e) = Receive_error e

-- The receipt of a message that was taken: the sample is named and lies as the message does, and has the number of its
-- slot.
pub record IsReceiptFor (books : Slab Book) (taken : Taken) (receipt : Receipt) : Type 0 where
  pub book : Book
  pub has_book : get books (taken.home).book ≡ Some book
  pub number_is : slice_get book.numbers taken.slot ≡ Some receipt.sample.number
  pub publisher_is : receipt.publisher ≡ (taken.home).publisher
  pub subscriber_is : receipt.sample.subscriber ≡ (taken.home).subscriber
  pub connection_is : receipt.sample.connection ≡ taken.connection
  pub book_is : receipt.sample.book ≡ (taken.home).book
  pub slot_is : receipt.sample.slot ≡ taken.slot

module _ {T U : Type 0} where
  -- The sample of the receipt is the subscriber q's. The connection that it names stands between the receipt's
  -- publisher and q, the book is that publisher's, and the slot that it names is borrowed there and has its number.
  pub record LiesAt (f : Fields T U) (q : ℕ) (receipt : Receipt) : Type 0 where
    pub connection : Link
    pub stands : get f.connections receipt.sample.connection ≡ Some connection
    pub publisher_is : connection.home.publisher ≡ receipt.publisher
    pub subscriber_is : connection.home.subscriber ≡ q
    pub its : receipt.sample.subscriber ≡ q
    pub book_is : receipt.sample.book ≡ connection.home.book
    pub borrowed : Contains connection.borrowed receipt.sample.slot
    pub number_is : receipt.sample.number ≡ number_in_slot f.books connection.home.publisher receipt.sample.slot

  -- The same of what a call returns.
  abbrev pub LiesIfAny : Fields T U → (q : ℕ) → Result (Option Receipt) ReceiveError → Type 0
  LiesIfAny f q (Ok None) = Unit {0}
  LiesIfAny f q (Ok (Some receipt)) = LiesAt f q receipt
  LiesIfAny f q (Err e) = Unit {0}

  -- The subscriber q takes what it may receive, as the machine does, and it lies where it is said.
  abbrev pub TakesAs : (old : Fields T U) (q : ℕ) → Result (Option Receipt) ReceiveError → (new : Fields T U) → Type 0
  TakesAs old q result new =
      (s' : State T U) × Reaches old new s'
      × MatchOption ((state_of (kept_of old)).subscribers q) ⊥
      (λ y. TakeSample (state_of (kept_of old)) q y s' (receive_result result))
      × LiesIfAny new q result

  -- The subscriber q receives, as the machine does, and what it receives lies where it is said.
  abbrev pub ReceivesAs : (environment : Environment) (old : Fields T U) (q : ℕ) → Result (Option Receipt) ReceiveError
      → (new : Fields T U) → Type 0
  ReceivesAs environment old q result new =
      (s' : State T U) × Reaches old new s' × Receive environment (state_of (kept_of old)) q s' (receive_result result)
      × LiesIfAny new q result
