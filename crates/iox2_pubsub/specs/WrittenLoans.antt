-- Calls that loan a value or a slice and write it at once.
use Rattle.std.specs.Prelude.{◌≡◌, ◌⊎◌, ℕ, List, false, Result, MatchResult}
use Rattle.std.specs.List.{All}
use Rattle.std.specs.declared.option.Option.TheVariants.{None, Some}
use Rattle.std.specs.declared.result.Result.TheVariants.{Ok, Err}
use Rattle.iox2_machine.specs.machine.Records.{Environment, Loan}
use Rattle.iox2_machine.specs.machine.SingleCalls.{GrantWrittenLoan, GrantDefaultSlice}
use Rattle.iox2_machine.specs.machine.State.{State, Messages}
use Rattle.iox2_machine.specs.declared.errors.LoanError.{LoanError}
use Rattle.iox2_machine.specs.declared.errors.SendError.{SendError}
use Rattle.iox2_machine.specs.declared.errors.SendError.TheVariants.{LoanError as NotLoaned}
use Rattle.iox2_domain.specs.Lending.{loan_memory}
use Rattle.iox2_pubsub.specs.declared.send_outcome.SendOutcome.{SendOutcome}
use Rattle.iox2_pubsub.specs.SendCalls.{IsOfHandler, Sends, messages_after_send}

module _ {T U : Type 0} where
  -- The publisher p is asked for a loan with such a value: it is granted, with a default user header, or refused for
  -- this reason, and then nothing changes.
  abbrev pub WrittenLoanCall : {A : Type 0} → (IsValue : T → Type 0) → (is_default : U → Type 0) → State T U → (p : ℕ)
      → Result A LoanError → State T U → Type 0
  WrittenLoanCall IsValue is_default s p result s' =
      MatchResult result
      (λ _. (value : T) × IsValue value × (user_header : U) × is_default user_header
      × GrantWrittenLoan (loan_memory s p) value user_header false 1 s p s' None)
      (λ e. (s' ≡ s) × ((value : T) (user_header : U)
      → GrantWrittenLoan (loan_memory s p) value user_header false 1 s p s' (Some e)))

  -- The publisher p is asked for a slice of such values: it is granted, with a default user header, or refused for this
  -- reason, and then nothing changes.
  abbrev pub DefaultSliceCall : {A : Type 0} → (IsValue : T → Type 0) → (is_default : U → Type 0) → (len : ℕ)
      → State T U → (p : ℕ) → Result A LoanError → State T U → Type 0
  DefaultSliceCall IsValue is_default len s p result s' =
      MatchResult result
      (λ _. (values : List T) × (user_header : U) × is_default user_header
      × GrantDefaultSlice (loan_memory s p) IsValue values user_header len s p s' None)
      (λ e. (s' ≡ s) × ((values : List T) (user_header : U) → All IsValue values
      → GrantDefaultSlice (loan_memory s p) IsValue values user_header len s p s' (Some e)))

  -- The publisher p was lent this value, and the loan is sent where handlers answer so, with this outcome or error.
  pub record SendsLentValue (environment : Environment) (is_default : U → Type 0) (m : Messages T U) (s : State T U)
      (p : ℕ) (value : T) (outcome : Result SendOutcome SendError) (m' : Messages T U) (s' : State T U) : Type 0 where
    pub user_header : U
    pub default : is_default user_header
    pub granted : State T U
    pub grants : GrantWrittenLoan (loan_memory s p) value user_header false 1 s p granted None
    pub loan : Loan T U
    pub out : granted.loans s.next_message ≡ Some loan
    pub sends : Sends environment granted s.next_message loan outcome s'
    pub messages : m' ≡ messages_after_send m s.next_message loan outcome

  -- The publisher p lends nothing, for this reason, and nothing changes.
  pub record LendsNothing (m : Messages T U) (s : State T U) (p : ℕ) (error : SendError) (m' : Messages T U)
      (s' : State T U) : Type 0 where
    pub reason : LoanError
    pub is : error ≡ NotLoaned reason
    pub messages : m' ≡ m
    pub state : s' ≡ s
    pub refused : (value : T) (user_header : U)
        → GrantWrittenLoan (loan_memory s p) value user_header false 1 s p s' (Some reason)

  -- The publisher p is asked to send this value: a loan with it is granted and sent, or refused. If a handler failed
  -- the send, it was granted.
  abbrev pub SendsValue : Environment → (is_default : U → Type 0) → Messages T U → State T U → (p : ℕ) → (value : T)
      → Result SendOutcome SendError → Messages T U → State T U → Type 0
  SendsValue environment is_default m s p value result m' s' =
      MatchResult result
      (λ outcome. SendsLentValue environment is_default m s p value (Ok outcome) m' s')
      (λ error. (IsOfHandler error × SendsLentValue environment is_default m s p value (Err error) m' s')
      ⊎ LendsNothing m s p error m' s')
