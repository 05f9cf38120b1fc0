-- A send to one connection, by numbers.
use Rattle.std.specs.Prelude.{ℕ, nat_eq, ◌≡◌, ◌≢◌, ◌≤◌, ◌⊎◌}
use Rattle.std.specs.declared.option.Option.TheVariants.{Some}
use Rattle.std.specs.declared.result.Result.{Result}
use Rattle.iox2_machine.specs.declared.errors.SendError.{SendError}
use Rattle.iox2_machine.specs.declared.key.Key.{Key}
use Rattle.iox2_machine.specs.machine.Limits.{channel_count}
use Rattle.iox2_machine.specs.machine.Records.{Loan}
use Rattle.iox2_machine.specs.machine.State.{Messages}
use Rattle.iox2_domain.specs.Shows.{Shows}
use Rattle.iox2_pubsub.specs.Live.{A_sent_loan, IsBlockedKey, IsLoanKey, IsUnblocked}
use Rattle.iox2_pubsub.specs.SendCalls.{SendsToConnection, messages_after_send}
use Rattle.iox2_pubsub.specs.declared.send_outcome.SendOutcome.{SendOutcome}
use Rattle.iox2_c.specs.Calls.{IsOut}
use Rattle.iox2_c.specs.Codes.{receivers_of, sent_code}
use Rattle.iox2_c.specs.Numbers.{named_loan, wide}
use Rattle.iox2_c.specs.Serving.{KeptBytes, Serving, ServesBut}
use Rattle.iox2_c.specs.Steps.{BytesState, publishers_answer}
use Rattle.iox2_c.specs.declared.numbers.LoanNumbers.{LoanNumbers}
use Rattle.iox2_c.specs.declared.status.TheConstants.{BLOCKED, NOT_LIVE, NO_DOMAIN, NO_SUCH_CHANNEL}
use Rattle.iox2_c.specs.declared.status.TheConstants.{PUBLISHER_IS_BLOCKED}

-- The code says that nothing was changed: no live loan is named, an earlier send of its publisher waits, or there is no
-- such channel.
abbrev pub IsRefusal : (code : ℕ) → Type 0
IsRefusal code = (code ≡ NOT_LIVE) ⊎ (code ≡ PUBLISHER_IS_BLOCKED) ⊎ (code ≡ NO_SUCH_CHANNEL)

-- Why a send of a loan into this channel is refused with this code.
abbrev pub RefusesSendTo : KeptBytes → Key → (channel code : ℕ) → Type 0
RefusesSendTo domain key channel code =
    ((code ≡ NOT_LIVE) × (IsOut domain key → ⊥))
    ⊎ ((code ≡ PUBLISHER_IS_BLOCKED) × IsOut domain key × (IsUnblocked domain key → ⊥))
    ⊎ ((code ≡ NO_SUCH_CHANNEL) × IsOut domain key × (channel_count domain.config ≤ channel))

-- The loan with this number was sent into that channel of the connection at that place, with this outcome or error.
abbrev pub SendsNumberedTo : (old new : KeptBytes) → (number channel connection : ℕ) → Result SendOutcome SendError
    → Type 0
SendsNumberedTo old new number channel connection sent =
    (m : Messages ℕ (Unit {0})) (s : BytesState) (l : Loan ℕ (Unit {0})) → Shows old m s → s.loans number ≡ Some l
    → (s' : BytesState) × Shows new (messages_after_send m number l sent) s'
    × SendsToConnection (publishers_answer old) s number l channel connection sent s'

-- The loan with these numbers was to be sent there: the code, how many took it, and the numbers of a send that waits.
pub record SendToReturns (numbers : LoanNumbers) (channel connection : ℕ) (old new : Serving) (counted count : ℕ)
    (before after : LoanNumbers) (code : ℕ) : Type 0 where
  pub never : code ≡ NO_DOMAIN → ⊥
  pub sent : (IsRefusal code → ⊥)
      → (outcome : Result SendOutcome SendError) × (code ≡ sent_code outcome) × (count ≡ receivers_of counted outcome)
      × SendsNumberedTo old.domain new.domain (wide numbers.number) channel connection outcome
  pub why : IsRefusal code → RefusesSendTo old.domain (named_loan numbers) channel code × (new ≡ old)
  pub waits : code ≡ BLOCKED → IsBlockedKey new.domain (named_loan after) × (named_loan after ≡ named_loan numbers)
  pub spent : (IsRefusal code → ⊥) → IsLoanKey new.domain (named_loan numbers) → ⊥
  pub same : code ≢ BLOCKED → after ≡ before
  pub same_count : IsRefusal code → count ≡ counted
  pub stays : ServesBut (A_sent_loan (wide numbers.number) (wide numbers.publisher) (nat_eq code BLOCKED)) old new
