-- What a call by numbers returns, and what it did then.
use Rattle.std.specs.Prelude.{ℕ, List, length, nat_eq, ◌≡◌, ◌≢◌, ◌<◌, ◌≤◌, ◌⊎◌, IfOk}
use Rattle.std.specs.declared.result.Result.{Result}
use Rattle.std.specs.declared.result.Result.TheVariants.{Err, Ok}
use Rattle.iox2_machine.specs.declared.errors.LoanError.{LoanError}
use Rattle.iox2_machine.specs.declared.errors.ReceiveError.{ReceiveError}
use Rattle.iox2_machine.specs.declared.errors.SendError.{SendError}
use Rattle.iox2_machine.specs.machine.Receives.{Got_sample, No_sample, Receive_error}
use Rattle.iox2_pubsub.specs.Live.{A_blocked_send, A_loan, A_sample, A_sent_copy, A_sent_loan, IsBlockedKey}
use Rattle.iox2_pubsub.specs.Live.{IsLoanKey, IsNewIn, IsSampleKey}
use Rattle.iox2_pubsub.specs.Live.{IsSubscriberKey, No_item, blocked_key}
use Rattle.iox2_pubsub.specs.SendCalls.{IfBlocked}
use Rattle.iox2_pubsub.specs.Slices.{SampleHasValues}
use Rattle.iox2_pubsub.specs.declared.send_outcome.SendOutcome.{SendOutcome}
use Rattle.iox2_c.specs.Calls.{IsOut, RefusesPublisher, RefusesSend}
use Rattle.iox2_c.specs.Codes.{first_error_code, loan_code, receive_code, receivers_of, sent_code}
use Rattle.iox2_c.specs.Numbers.{named_loan, named_publisher, named_sample, named_subscriber, wide}
use Rattle.iox2_c.specs.Serving.{KeptBytes, Serving, ServesBut}
use Rattle.iox2_c.specs.Steps.{BlockedSendGivesUp, BlockedSendRetries, SendsBytes, SendsNumbered}
use Rattle.iox2_c.specs.Steps.{SubscriberReceives, SubscriberReleases}
use Rattle.iox2_c.specs.declared.numbers.LoanNumbers.{LoanNumbers}
use Rattle.iox2_c.specs.declared.numbers.PublisherNumbers.{PublisherNumbers}
use Rattle.iox2_c.specs.declared.numbers.SampleNumbers.{SampleNumbers}
use Rattle.iox2_c.specs.declared.numbers.SubscriberNumbers.{SubscriberNumbers}
use Rattle.iox2_c.specs.declared.status.TheConstants.{BLOCKED, NOT_LIVE, NO_DOMAIN, NO_SAMPLE, OK, PUBLISHER_IS_BLOCKED}

-- What a step that lends says of a domain before it and after it, of the publisher's id, of the length and of the
-- answer.
abbrev pub Lending : Type 1
Lending = (old new : KeptBytes) (publisher len : ℕ) → Result (Unit {0}) LoanError → Type 0

-- The publisher with these numbers was asked for that many bytes by such a step, which returned this code. The loan's
-- numbers are given as they were before and as they are after.
pub record LoanReturns (Lends : Lending) (numbers : PublisherNumbers) (len : ℕ) (old new : Serving)
    (before after : LoanNumbers) (code : ℕ) : Type 0 where
  pub never : code ≡ NO_DOMAIN → ⊥
  pub lends : code ≡ OK → Lends old.domain new.domain (wide numbers.id) len (Ok tt)
  pub errors : first_error_code ≤ code
      → (error : LoanError) × (code ≡ loan_code error) × Lends old.domain new.domain (wide numbers.id) len (Err error)
  pub why : NO_DOMAIN < code → code < first_error_code
      → RefusesPublisher old.domain (named_publisher numbers) code × (new ≡ old)
  pub out : code ≡ OK → IsOut new.domain (named_loan after)
  pub fresh : code ≡ OK → IsNewIn old.domain (A_loan (wide after.number))
  pub same : OK < code → after ≡ before
  pub stays : ServesBut No_item old new

-- The loan with these numbers was to be sent: the code, how many took it, and the numbers of a send that waits.
pub record SendReturns (numbers : LoanNumbers) (old new : Serving) (counted count : ℕ) (before after : LoanNumbers)
    (code : ℕ) : Type 0 where
  pub never : code ≡ NO_DOMAIN → ⊥
  pub sent : code ≢ NOT_LIVE → code ≢ PUBLISHER_IS_BLOCKED
      → (outcome : Result SendOutcome SendError) × (code ≡ sent_code outcome) × (count ≡ receivers_of counted outcome)
      × SendsNumbered old.domain new.domain (wide numbers.number) outcome
  pub why : (code ≡ NOT_LIVE) ⊎ (code ≡ PUBLISHER_IS_BLOCKED)
      → RefusesSend old.domain (named_loan numbers) code × (new ≡ old)
  pub waits : code ≡ BLOCKED → IsBlockedKey new.domain (named_loan after) × (named_loan after ≡ named_loan numbers)
  pub spent : code ≢ NOT_LIVE → code ≢ PUBLISHER_IS_BLOCKED → IsLoanKey new.domain (named_loan numbers) → ⊥
  pub same : code ≢ BLOCKED → after ≡ before
  pub same_count : (code ≡ NOT_LIVE) ⊎ (code ≡ PUBLISHER_IS_BLOCKED) → count ≡ counted
  pub stays : ServesBut (A_sent_loan (wide numbers.number) (wide numbers.publisher) (nat_eq code BLOCKED)) old new

-- A copy of these bytes was to be sent by the publisher with these numbers: the code, how many took it, and the numbers
-- of a send that waits.
pub record SendCopyReturns (numbers : PublisherNumbers) (bytes : List ℕ) (old new : Serving) (counted count : ℕ)
    (before after : LoanNumbers) (code : ℕ) : Type 0 where
  pub never : code ≡ NO_DOMAIN → ⊥
  pub sent : code ≢ NOT_LIVE → code ≢ PUBLISHER_IS_BLOCKED
      → (outcome : Result SendOutcome SendError) × (code ≡ sent_code outcome) × (count ≡ receivers_of counted outcome)
      × SendsBytes old.domain new.domain (wide numbers.id) bytes outcome
  pub why : (code ≡ NOT_LIVE) ⊎ (code ≡ PUBLISHER_IS_BLOCKED)
      → RefusesPublisher old.domain (named_publisher numbers) code × (new ≡ old)
  pub waits : code ≡ BLOCKED → IsBlockedKey new.domain (named_loan after)
  pub same : code ≢ BLOCKED → after ≡ before
  pub same_count : (code ≡ NOT_LIVE) ⊎ (code ≡ PUBLISHER_IS_BLOCKED) → count ≡ counted
  pub stays : ServesBut (A_sent_copy (wide numbers.id) (nat_eq code BLOCKED)) old new

-- The send with these numbers, which waits, was to be tried again that many nanoseconds after it was blocked: the code,
-- and how many took its message.
pub record RetryReturns (numbers : LoanNumbers) (elapsed : ℕ) (old new : Serving) (counted count code : ℕ) : Type 0
  where
    pub never : code ≡ NO_DOMAIN → ⊥
    pub ends : (code ≡ NOT_LIVE → ⊥)
        → (outcome : Result SendOutcome SendError) × (code ≡ sent_code outcome) × (count ≡ receivers_of counted outcome)
        × BlockedSendRetries old.domain new.domain (wide numbers.publisher) elapsed outcome
    pub not_live : code ≡ NOT_LIVE → (IsBlockedKey old.domain (named_loan numbers) → ⊥) × (new ≡ old)
    pub same_count : code ≡ NOT_LIVE → count ≡ counted
    pub stays : ServesBut (A_blocked_send (wide numbers.publisher)) old new

-- The subscriber was to be given up for which that send waits.
pub record GiveUpReturns (numbers : LoanNumbers) (old new : Serving) (counted count code : ℕ) : Type 0 where
  pub never : code ≡ NO_DOMAIN → ⊥
  pub ends : (code ≡ NOT_LIVE → ⊥)
      → (outcome : Result SendOutcome SendError) × (code ≡ sent_code outcome) × (count ≡ receivers_of counted outcome)
      × BlockedSendGivesUp old.domain new.domain (wide numbers.publisher) outcome
  pub not_live : code ≡ NOT_LIVE → (IsBlockedKey old.domain (named_loan numbers) → ⊥) × (new ≡ old)
  pub same_count : code ≡ NOT_LIVE → count ≡ counted
  pub stays : ServesBut (A_blocked_send (wide numbers.publisher)) old new

-- The subscriber with these numbers received: the code, the sample's numbers, and how many bytes it has.
pub record ReceiveReturns (numbers : SubscriberNumbers) (old new : Serving) (before after : SampleNumbers)
    (len_before len : ℕ) (code : ℕ) : Type 0 where
  pub never : code ≡ NO_DOMAIN → ⊥
  pub received : code ≡ OK
      → SubscriberReceives old.domain new.domain (wide numbers.id) (Got_sample (wide after.origin) (wide after.number))
  pub nothing : code ≡ NO_SAMPLE → SubscriberReceives old.domain new.domain (wide numbers.id) No_sample
  pub errors : NO_SAMPLE < code → (error : ReceiveError) × (code ≡ receive_code error)
      × SubscriberReceives old.domain new.domain (wide numbers.id) (Receive_error error)
  pub not_live : code ≡ NOT_LIVE → (IsSubscriberKey old.domain (named_subscriber numbers) → ⊥) × (new ≡ old)
  pub live : code ≡ OK → IsSampleKey new.domain (named_sample after)
  pub fresh : code ≡ OK → IsNewIn old.domain (A_sample (wide after.subscriber) (wide after.number))
  pub length_is : code ≡ OK → (values : List ℕ) → SampleHasValues new.domain (named_sample after) values
      → len ≡ length values
  pub same : OK < code → after ≡ before
  pub same_length : OK < code → len ≡ len_before
  pub stays : ServesBut No_item old new

-- The sample with these numbers was to be released: the code.
pub record ReleaseReturns (numbers : SampleNumbers) (old new : Serving) (code : ℕ) : Type 0 where
  pub zero_or_two : (code ≡ OK) ⊎ ((code ≡ NOT_LIVE) × (IsSampleKey old.domain (named_sample numbers) → ⊥))
  pub live : code ≡ OK → IsSampleKey old.domain (named_sample numbers)
  pub releases : code ≡ OK → SubscriberReleases old.domain new.domain (wide numbers.subscriber) (wide numbers.number)
  pub spent : IsSampleKey new.domain (named_sample numbers) → ⊥
  pub refused : OK < code → new ≡ old
  pub stays : ServesBut (A_sample (wide numbers.subscriber) (wide numbers.number)) old new

-- What C is told of a send: the code, how many took it, and the numbers of a send that waits.
pub record TellsSent (sent : Result SendOutcome SendError) (counted count : ℕ) (before after : LoanNumbers)
    (code : ℕ) : Type 0 where
  pub code_is : code ≡ sent_code sent
  pub receivers : count ≡ receivers_of counted sent
  pub blocked : IfOk sent (λ outcome. IfBlocked outcome (λ it. named_loan after ≡ blocked_key it))
  pub same : code ≢ BLOCKED → after ≡ before
