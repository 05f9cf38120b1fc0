-- Which step of the machine a call made.
use Rattle.std.specs.Prelude.{ℕ, Bool, List, true, length, ◌≡◌, ◌⊎◌, IsTrue, MatchResult}
use Rattle.std.specs.declared.option.Option.TheVariants.{None, Some}
use Rattle.std.specs.declared.result.Result.{Result}
use Rattle.std.specs.declared.result.Result.TheVariants.{Err, Ok}
use Rattle.std.specs.declared.time.Duration.{Duration}
use Rattle.core.specs.Duration.{as_nanos}
use Rattle.iox2_machine.specs.declared.backpressure.BackpressureAction.TheVariants.{DiscardData}
use Rattle.iox2_machine.specs.declared.degradation.DegradationAction.TheVariants.{Ignore}
use Rattle.iox2_machine.specs.declared.errors.ConnectionFailure.{ConnectionFailure}
use Rattle.iox2_machine.specs.declared.errors.LoanError.{LoanError}
use Rattle.iox2_machine.specs.declared.errors.PublisherCreateError.{PublisherCreateError}
use Rattle.iox2_machine.specs.declared.errors.SendError.{SendError}
use Rattle.iox2_machine.specs.declared.errors.SendError.TheVariants.{LoanError as Not_lent}
use Rattle.iox2_machine.specs.declared.errors.SubscriberCreateError.{SubscriberCreateError}
use Rattle.iox2_machine.specs.declared.key.Key.{Key}
use Rattle.iox2_machine.specs.machine.Loans.{loan_discarded}
use Rattle.iox2_machine.specs.machine.Mailbox.{is_borrowed}
use Rattle.iox2_machine.specs.machine.Ports.{CreatePublisher, CreateSubscriber, buffer_for, publisher_closed}
use Rattle.iox2_machine.specs.machine.Ports.{subscriber_closed}
use Rattle.iox2_machine.specs.machine.PublisherUpdate.{UpdatePublisher}
use Rattle.iox2_machine.specs.machine.Receives.{Got_sample, Receive, ReceiveResult}
use Rattle.iox2_machine.specs.machine.Records.{BlockedSend, Environment, Loan, Publisher, PublisherSettings, Subscriber}
use Rattle.iox2_machine.specs.machine.Records.{SubscriberSettings}
use Rattle.iox2_machine.specs.machine.Releases.{released}
use Rattle.iox2_machine.specs.machine.Sends.{GiveUp, Retry}
use Rattle.iox2_machine.specs.machine.SingleCalls.{WriteAllFrom}
use Rattle.iox2_machine.specs.machine.SubscriberUpdate.{UpdateSubscriber}
use Rattle.iox2_machine.specs.machine.State.{Messages, State}
use Rattle.iox2_domain.specs.Boxes.{answers_of}
use Rattle.iox2_domain.specs.Lending.{LoanCall}
use Rattle.iox2_domain.specs.Shows.{Shows}
use Rattle.iox2_pubsub.specs.Live.{IsSampleKey}
use Rattle.iox2_pubsub.specs.QuestionCalls.{IsAnswered}
use Rattle.iox2_pubsub.specs.SendCalls.{Sends, messages_after_send, result_of_send}
use Rattle.iox2_pubsub.specs.Slices.{SampleHasValues}
use Rattle.iox2_pubsub.specs.UpdateCalls.{returned_failure}
use Rattle.iox2_pubsub.specs.WrittenLoans.{DefaultSliceCall}
use Rattle.iox2_pubsub.specs.declared.send_outcome.SendOutcome.{SendOutcome}
use Rattle.iox2_c.specs.Numbers.{wide}
use Rattle.iox2_c.specs.Serving.{KeptBytes}
use Rattle.iox2_c.specs.declared.numbers.SubscriberNumbers.{SubscriberNumbers}

-- A state of a service of bytes.
abbrev pub BytesState : Type 0
BytesState = State ℕ (Unit {0})

-- What the boxes of a domain's publishers answer. There are no such boxes.
abbrev pub publishers_answer : KeptBytes → Environment
publishers_answer domain = answers_of (λ handler info action. action ≡ DiscardData)
    (λ handler cause info action. action ≡ Ignore) (domain.boxes).publishers

-- The same of its subscribers.
abbrev pub subscribers_answer : KeptBytes → Environment
subscribers_answer domain = answers_of (λ handler info action. action ≡ DiscardData)
    (λ handler cause info action. action ≡ Ignore) (domain.boxes).subscribers

module _ (old new : KeptBytes) where
  -- From each state that the domain showed there is such a step to one that it shows now, and the messages are the
  -- same.
  abbrev pub StepsTo : (BytesState → BytesState → Type 0) → Type 0
  StepsTo Step =
      (m : Messages ℕ (Unit {0})) (s : BytesState) → Shows old m s → (s' : BytesState) × Shows new m s' × Step s s'

  -- A publisher with these settings was asked for: it has this id, the counter's next, or is refused for this reason.
  abbrev pub CreatesPublisher : PublisherSettings → Result ℕ PublisherCreateError → Type 0
  CreatesPublisher given made = StepsTo (λ s s'. MatchResult made
      (λ id. (id ≡ s.next_port) × CreatePublisher (publishers_answer new) s given s' None)
      (λ error. CreatePublisher (publishers_answer new) s given s' (Some error)))

  -- A subscriber with these settings was: these are its numbers, with its buffer, or it is refused for this reason.
  abbrev pub CreatesSubscriber : SubscriberSettings → Result SubscriberNumbers SubscriberCreateError → Type 0
  CreatesSubscriber given made = StepsTo (λ s s'. MatchResult made
      (λ it. (wide it.id ≡ s.next_port) × (it.buffer_size ≡ buffer_for given)
      × CreateSubscriber (subscribers_answer new) s given s' None)
      (λ error. CreateSubscriber (subscribers_answer new) s given s' (Some error)))

  -- The publisher with this id was asked for that many bytes, all unwritten, with this answer.
  abbrev pub LendsUnwritten : (publisher len : ℕ) → Result (Unit {0}) LoanError → Type 0
  LendsUnwritten publisher len answer = StepsTo (λ s s'. LoanCall (λ header. Unit {0}) true len s publisher answer s')

  -- The loan with this number was written: it has these bytes, as many as it is long.
  abbrev pub Writes : (number : ℕ) → List ℕ → Type 0
  Writes number bytes =
      (m : Messages ℕ (Unit {0})) (s : BytesState) → Shows old m s
      → (l : Loan ℕ (Unit {0})) × (s.loans number ≡ Some l) × (s' : BytesState) × WriteAllFrom s number l bytes s'
      × Shows new m s'

  -- The publisher with this id was asked for that many bytes, each of them 0, with this answer.
  abbrev pub Lends : (publisher len : ℕ) → Result (Unit {0}) LoanError → Type 0
  Lends publisher len answer =
      StepsTo (λ s s'. DefaultSliceCall (λ byte. byte ≡ 0) (λ header. Unit {0}) len s publisher answer s')

  -- The publisher with this id was asked for that many bytes, whatever they are, with this answer.
  abbrev pub LendsUninit : (publisher len : ℕ) → Result (Unit {0}) LoanError → Type 0
  LendsUninit publisher len answer =
      StepsTo (λ s s'. DefaultSliceCall (λ byte. Unit {0}) (λ header. Unit {0}) len s publisher answer s')

  -- The loan with this number was given back unsent.
  abbrev pub Discards : (number : ℕ) → Type 0
  Discards number =
      (m : Messages ℕ (Unit {0})) (s : BytesState) (l : Loan ℕ (Unit {0})) → Shows old m s → s.loans number ≡ Some l
      → Shows new m (loan_discarded s number l)

  -- The loan with this number was sent, with this outcome or error.
  abbrev pub SendsNumbered : (number : ℕ) → Result SendOutcome SendError → Type 0
  SendsNumbered number sent =
      (m : Messages ℕ (Unit {0})) (s : BytesState) (l : Loan ℕ (Unit {0})) → Shows old m s → s.loans number ≡ Some l
      → (s' : BytesState) × Shows new (messages_after_send m number l sent) s'
      × Sends (publishers_answer old) s number l sent s'

  -- The blocked send of the publisher with this id was tried again that many nanoseconds after it was blocked, with
  -- this outcome or error.
  pub record BlockedSendRetries (publisher nanoseconds : ℕ) (sent : Result SendOutcome SendError) : Type 0 where
    pub elapsed : Duration
    pub time : as_nanos elapsed ≡ nanoseconds
    pub step : (m : Messages ℕ (Unit {0})) (s : BytesState) (x : Publisher) (b : BlockedSend) → Shows old m s
        → s.publishers publisher ≡ Some x → x.blocked ≡ Some b
        → (s' : BytesState) × Shows new m s'
        × Retry (publishers_answer old) s publisher b elapsed s' (result_of_send sent)

  -- The subscriber for which it waited was given up.
  abbrev pub BlockedSendGivesUp : (publisher : ℕ) → Result SendOutcome SendError → Type 0
  BlockedSendGivesUp publisher sent =
      (m : Messages ℕ (Unit {0})) (s : BytesState) (x : Publisher) (b : BlockedSend) → Shows old m s
      → s.publishers publisher ≡ Some x → x.blocked ≡ Some b
      → (s' : BytesState) × Shows new m s' × GiveUp (publishers_answer old) s publisher b s' (result_of_send sent)

  -- The subscriber with this id received, with this result.
  abbrev pub SubscriberReceives : (subscriber : ℕ) → ReceiveResult → Type 0
  SubscriberReceives subscriber result = StepsTo (λ s s'. Receive (subscribers_answer old) s subscriber s' result)

  -- The message with this number was given back by the subscriber with this id, whomever it was borrowed from.
  abbrev pub SubscriberReleases : (subscriber number : ℕ) → Type 0
  SubscriberReleases subscriber number =
      (m : Messages ℕ (Unit {0})) (s : BytesState) → Shows old m s → (publisher : ℕ)
      → IsTrue (is_borrowed number (s.mailboxes publisher subscriber))
      → (s' : BytesState) × Shows new m s' × (s' ≡ released s publisher subscriber number)

  -- The publisher with this id was closed.
  abbrev pub ClosesPublisher : (publisher : ℕ) → Type 0
  ClosesPublisher publisher =
      (m : Messages ℕ (Unit {0})) (s : BytesState) (x : Publisher) → Shows old m s → s.publishers publisher ≡ Some x
      → Shows new m (publisher_closed s publisher x)

  -- The subscriber with this id was closed.
  abbrev pub ClosesSubscriber : (subscriber : ℕ) → Type 0
  ClosesSubscriber subscriber =
      (m : Messages ℕ (Unit {0})) (s : BytesState) (y : Subscriber) → Shows old m s → s.subscribers subscriber ≡ Some y
      → Shows new m (subscriber_closed s subscriber y)

  -- The subscriber with this id was asked whether a message waits, with this answer or the failure of its update.
  abbrev pub Asks : (subscriber : ℕ) → Result Bool ConnectionFailure → Type 0
  Asks subscriber answer = StepsTo (λ s s'. IsAnswered (subscribers_answer old) s subscriber answer s')

  -- The publisher with this id was updated, with this failure if any.
  abbrev pub PublisherUpdates : (publisher : ℕ) → Result (Unit {0}) ConnectionFailure → Type 0
  PublisherUpdates publisher updated =
      StepsTo (λ s s'. UpdatePublisher (publishers_answer old) s publisher s' (returned_failure updated))

  -- The subscriber with this id was.
  abbrev pub SubscriberUpdates : (subscriber : ℕ) → Result (Unit {0}) ConnectionFailure → Type 0
  SubscriberUpdates subscriber updated =
      StepsTo (λ s s'. UpdateSubscriber (subscribers_answer old) s subscriber s' (returned_failure updated))

module _ (old new : KeptBytes) where
  -- The publisher with this id lent a loan as long as these bytes, which were written there, and the loan was sent,
  -- with this outcome or error. After the first of these steps the domain was `lent`, and after the second `written`.
  pub record SendsWritten (publisher : ℕ) (bytes : List ℕ) (sent : Result SendOutcome SendError) : Type 0 where
    pub lent : KeptBytes
    pub written : KeptBytes
    pub lends : LendsUnwritten old lent publisher (length bytes) (Ok tt)
    pub writes : Writes lent written old.next_message bytes
    pub sends : SendsNumbered written new old.next_message sent

  -- A copy of these bytes was sent by the publisher with this id, or it lent nothing, for the reason that the error
  -- names.
  abbrev pub SendsBytes : (publisher : ℕ) (bytes : List ℕ) → Result SendOutcome SendError → Type 0
  SendsBytes publisher bytes sent =
      SendsWritten publisher bytes sent
      ⊎ ((reason : LoanError) × (sent ≡ Err (Not_lent reason))
      × LendsUnwritten old new publisher (length bytes) (Err reason))

  -- The sample with this key, of this publisher, was received; it has these bytes; and it was given back. Before that
  -- the domain was
  -- `received`.
  pub record ReceivesCopy (key : Key) (origin : ℕ) (bytes : List ℕ) : Type 0 where
    pub received : KeptBytes
    pub receives : SubscriberReceives old received key.port (Got_sample origin key.message)
    pub live : IsSampleKey received key
    pub reads : SampleHasValues received key bytes
    pub releases : SubscriberReleases received new key.port key.message
