-- A send, by its outcome.
use Rattle.std.specs.Prelude.{ℕ, Bool, true, false, List, ◌≡◌, ◌≢◌, ◌⊎◌, IfOk, IsOk}
use Rattle.std.specs.declared.option.Option.TheVariants.{Some}
use Rattle.std.specs.declared.result.Result.{Result}
use Rattle.std.specs.declared.result.Result.TheVariants.{Ok, Err}
use Rattle.iox2_machine.specs.machine.Loans.{entry_of}
use Rattle.iox2_machine.specs.machine.Numbers.{put_at}
use Rattle.iox2_machine.specs.machine.Records.{Environment, Loan}
use Rattle.iox2_machine.specs.machine.Sends.{SendResult, Delivered_to, Blocked_send, Send_error, Send, SendToConnection}
use Rattle.iox2_machine.specs.machine.State.{State, Messages}
use Rattle.iox2_machine.specs.declared.errors.ConnectionFailure.{ConnectionFailure}
use Rattle.iox2_machine.specs.declared.errors.SendError.{SendError}
use Rattle.iox2_machine.specs.declared.errors.LoanError.{LoanError}
use Rattle.iox2_machine.specs.declared.errors.SendError.TheVariants.{ConnectionBrokenSinceSenderNoLongerExists}
use Rattle.iox2_machine.specs.declared.errors.SendError.TheVariants.{ConnectionError, UnableToDeliver}
use Rattle.iox2_machine.specs.declared.errors.SendError.TheVariants.{LoanError as Not_lent}
use Rattle.iox2_machine.specs.declared.key.Key.{Key}
use Rattle.iox2_domain.specs.Kept.{Kept}
use Rattle.iox2_pubsub.specs.declared.send_outcome.SendOutcome.{SendOutcome}
use Rattle.iox2_pubsub.specs.declared.send_outcome.SendOutcome.TheVariants.{Delivered, Blocked}
use Rattle.iox2_pubsub.specs.declared.blocked_send.BlockedSend.{BlockedSend}
use Rattle.iox2_pubsub.specs.declared.sample_mut.SampleMut.{SampleMut}
use Rattle.iox2_pubsub.specs.declared.publisher.Publisher.{Publisher}
use Rattle.iox2_pubsub.specs.declared.subscriber.Subscriber.{Subscriber}
use Rattle.iox2_pubsub.specs.Handles.{written_lender}
use Rattle.iox2_pubsub.specs.Live.{Item, A_sent_loan, A_sent_copy, HasLender, IsBlockedSend, IsLoanKey, IsServed}
use Rattle.iox2_pubsub.specs.Live.{NeverFails, NeverWaits, OthersSend, StaysBut, UpToDateStay, WaitsAsBefore}
use Rattle.iox2_pubsub.specs.Live.{blocked_key, written_key}
use Rattle.iox2_pubsub.specs.BorrowsLeft.{BorrowsLeftStay}
use Rattle.iox2_pubsub.specs.LoansLeft.{HasOneMoreLeft, LoansLeftStay}

-- The machine's result of a send.
abbrev pub sent_result : SendOutcome → SendResult
sent_result (Delivered count) = Delivered_to count
sent_result (Blocked blocked) = Blocked_send

-- The message reached all receivers.
abbrev pub IsDelivered : SendOutcome → Type 0
IsDelivered (Delivered count) = Unit {0}
IsDelivered (Blocked blocked) = ⊥

-- If the send is blocked, this is so of it.
abbrev pub IfBlocked : SendOutcome → (BlockedSend → Type 0) → Type 0
IfBlocked (Delivered count) P = Unit {0}
IfBlocked (Blocked blocked) P = P blocked

-- The send is blocked.
abbrev pub is_blocked_send : Result SendOutcome SendError → Bool
is_blocked_send (Ok (Blocked blocked)) = true
is_blocked_send _ = false

-- What a send of the loan spends: the loan, and if it is blocked, that its publisher isn't.
abbrev pub spent_by_send : SampleMut → Result SendOutcome SendError → Item
spent_by_send loan result = A_sent_loan loan.loan.number loan.loan.publisher (is_blocked_send result)

-- What a copy that the publisher sends spends: if it is blocked, that the publisher isn't.
abbrev pub spent_by_copy : Publisher → Result SendOutcome SendError → Item
spent_by_copy publisher result = A_sent_copy publisher.id (is_blocked_send result)

-- The machine's result of a send that may fail.
abbrev pub result_of_send : Result SendOutcome SendError → SendResult
result_of_send (Ok outcome) = sent_result outcome
result_of_send (Err error) = Send_error error

-- The loan n was sent where handlers answer so, with this outcome or error.
abbrev pub Sends : {T U : Type 0} → Environment → State T U → (n : ℕ) → Loan T U → Result SendOutcome SendError
    → State T U → Type 0
Sends environment s n l result s' = Send environment s n l s' (result_of_send result)

-- The messages after a send of the loan n, which is one of them from then on. After an error it is none, except if a
-- handler failed the send.
abbrev pub messages_after_send : {T U : Type 0} → Messages T U → (n : ℕ) → Loan T U → Result SendOutcome SendError
    → Messages T U
messages_after_send m n l (Ok outcome) = put_at m n (Some (entry_of l))
messages_after_send m n l (Err UnableToDeliver) = put_at m n (Some (entry_of l))
messages_after_send m n l (Err error) = m

-- A handler of the publisher fails a send so: at some subscriber, whose buffer is full, or before the message is sent
-- to any, where the publisher can't make a connection.
abbrev pub IsOfHandler : SendError → Type 0
IsOfHandler error = (error ≡ UnableToDeliver) ⊎ ((failure : ConnectionFailure) × (error ≡ ConnectionError failure))

-- After such an error of a send the subscriber was served, if a handler failed it at a full buffer. Any other error
-- came before the message was sent, and nothing moved for the subscriber.
abbrev pub AfterError : {T U F G : Type 0} → (old new : Kept T U F G) → (publisher : ℕ) → Subscriber → List T
    → SendError → Type 0
AfterError old new publisher subscriber values error =
    (error ≡ UnableToDeliver → IsServed old new publisher subscriber values)
    × (error ≢ UnableToDeliver → WaitsAsBefore old new subscriber)

-- The loan n was sent into the channel of the connection at that place where handlers answer so, with this outcome or
-- error.
abbrev pub SendsToConnection : {T U : Type 0} → Environment → State T U → (n : ℕ) → Loan T U → (channel connection : ℕ)
    → Result SendOutcome SendError → State T U → Type 0
SendsToConnection environment s n l channel connection result s' =
    SendToConnection environment s n l channel connection s' (result_of_send result)

module _ {T U F G : Type 0} (domain : Kept T U F G) where
  -- Why a send of the loan with this key fails: its publisher is gone, or a handler of it fails the send.
  unfoldable pub FailsSend : Key → SendError → Type 0
  FailsSend key error =
      ((error ≡ ConnectionBrokenSinceSenderNoLongerExists) × (HasLender domain key → ⊥))
      ⊎ (IsOfHandler error × (NeverFails domain key.port → ⊥))

  -- Why a send of the loan with this key to one connection fails: its publisher is gone, or a handler of it fails the
  -- send.
  unfoldable pub FailsDelivery : Key → SendError → Type 0
  FailsDelivery key error =
      ((error ≡ ConnectionBrokenSinceSenderNoLongerExists) × (HasLender domain key → ⊥))
      ⊎ ((error ≡ UnableToDeliver) × (NeverFails domain key.port → ⊥))

  -- Why the publisher's copy isn't sent: it isn't lent, for this reason, or a handler fails its send.
  unfoldable pub FailsCopy : Publisher → SendError → Type 0
  FailsCopy publisher error =
      ((reason : LoanError) × (error ≡ Not_lent reason)) ⊎ (IsOfHandler error × (NeverFails domain publisher.id → ⊥))

module _ {T U F G : Type 0} where
  -- A send consumed the loan, with this outcome or error. It succeeds if the publisher is there and no handler fails
  -- it; it isn't blocked if the publisher never waits, and else is blocked under the loan's key. What other publishers
  -- sent waits as it did, and when the send has ended the publisher has one loan more left.
  pub record SpendsLoan (loan : SampleMut) (result : Result SendOutcome SendError)
      (old new : Kept T U F G) : Type 0 where
    pub ok : HasLender old (written_key loan) → NeverFails old (written_lender loan) → IsOk result
    pub delivered : NeverWaits old (written_key loan) → IfOk result IsDelivered
    pub blocked : IfOk result
        (λ outcome. IfBlocked outcome (λ blocked. IsBlockedSend new blocked × (blocked_key blocked ≡ written_key loan)))
    pub spent : IsLoanKey new (written_key loan) → ⊥
    pub others : OthersSend (written_lender loan) old new
    pub up_to_date : UpToDateStay old new
    pub loans_left : LoansLeftStay old new
    pub borrows_left : BorrowsLeftStay old new
    pub given_back : IfOk result IsDelivered → HasOneMoreLeft (written_lender loan) old new
    pub stays : StaysBut (spent_by_send loan result) old new
