-- A value or a slice is loaned and written, and it may be sent at once.
use Rattle.std.specs.List.{All}
use Rattle.std.proofs.Common.{◌≡◌, ℕ, List, true, false, cond, refl, ap, sym, subst, ◌∙◌, inl, Result, Ok, Err, None}
use Rattle.std.proofs.Common.{Some}
use Rattle.std.proofs.lemmas.Bool.{eq-eqb}
use Rattle.std.specs.declared.option.Option.{Option}
use Rattle.std.specs.Option.{MatchOption}
use Rattle.std.specs.Prelude.{IfErr}
use Rattle.iox2_machine.specs.machine.Loans.{GrantLoan, written}
use Rattle.iox2_machine.specs.machine.Records.{Environment, Loan}
use Rattle.iox2_machine.specs.machine.SingleCalls.{GrantWrittenLoan, GrantDefaultSlice, WriteAllFrom}
use Rattle.iox2_machine.specs.machine.State.{State, Messages, with_loan}
use Rattle.iox2_machine.specs.declared.errors.LoanError.{LoanError}
use Rattle.iox2_machine.specs.declared.errors.SendError.{SendError}
use Rattle.iox2_domain.specs.Lending.{loan_memory}
use Rattle.iox2_pubsub.specs.SendCalls.{IsOfHandler, Sends, messages_after_send}
use Rattle.iox2_pubsub.specs.WrittenLoans.{SendsValue, SendsLentValue}
use Rattle.iox2_pubsub.specs.declared.send_outcome.SendOutcome.{SendOutcome}

module _ {T U : Type 0} (s mid : State T U) (p n : ℕ) (next : n ≡ s.next_message) (l : Loan T U)
    (out : mid.loans n ≡ Some l) (value : T) (user_header : U)
    (grants : GrantLoan (loan_memory s p) user_header false 1 s p mid None) where
  -- the state with the value in the loan
  abbrev pub with_value : State T U
  with_value = with_loan mid n (Some (written l value))

  -- the loan that is granted is written
  pub written-grants : GrantWrittenLoan (loan_memory s p) value user_header false 1 s p with_value None
  written-grants = (
    mid,
    grants,
    subst (λ (k : ℕ). MatchOption (mid.loans k) ⊥ (λ found. with_value ≡ with_loan mid k (Some (written found value))))
        next
        (subst (λ (o : Option (Loan T U)).
        MatchOption o ⊥ (λ found. with_value ≡ with_loan mid n (Some (written found value)))) (sym out) refl),
  )

  pub written-out : with_value.loans n ≡ Some (written l value)
  written-out = ap (λ b. cond b (Some (written l value)) (mid.loans n)) (eq-eqb n n refl)

  -- and sent
  copy-granted : (environment : Environment) (is_default : U → Type 0) → is_default user_header
      → (m : Messages T U) (number : ℕ) → number ≡ n → (result : Result SendOutcome SendError) (s' : State T U)
      → Sends environment with_value number (written l value) result s'
      → SendsLentValue environment is_default m s p value result
      (messages_after_send m number (written l value) result) s'
  copy-granted environment is_default default m number same result s' sends = record {
    user_header = user_header;
    default = default;
    granted = with_value;
    grants = written-grants;
    loan = written l value;
    out = ap with_value.loans (sym next) ∙ written-out;
    sends = subst (λ (k : ℕ). Sends environment with_value k (written l value) result s') (same ∙ next) sends;
    messages = ap (λ (k : ℕ). messages_after_send m k (written l value) result) (same ∙ next);
  }

  pub copy-sent : (environment : Environment) (is_default : U → Type 0) → is_default user_header
      → (m : Messages T U) (number : ℕ) → number ≡ n → (result : Result SendOutcome SendError)
      → IfErr result IsOfHandler → (s' : State T U)
      → Sends environment with_value number (written l value) result s'
      → SendsValue environment is_default m s p value result (messages_after_send m number (written l value) result) s'
  copy-sent environment is_default default m number same (Ok outcome) failed s' sends =
      copy-granted environment is_default default m number same (Ok outcome) s' sends
  copy-sent environment is_default default m number same (Err e) failed s' sends =
      inl (failed, copy-granted environment is_default default m number same (Err e) s' sends)

-- a loan that is refused is refused with any value
pub written-refused : {T U : Type 0} (s s' : State T U) (p : ℕ) (e : LoanError)
    → ((user_header : U) → GrantLoan (loan_memory s p) user_header false 1 s p s' (Some e))
    → (value : T) (user_header : U) → GrantWrittenLoan (loan_memory s p) value user_header false 1 s p s' (Some e)
written-refused s s' p e refused value user_header = (s', refused user_header, refl)

-- a slice that is granted and written has these default values
pub default-grants : {T U : Type 0} (s mid s' : State T U) (p n : ℕ) → n ≡ s.next_message → (l : Loan T U)
    → mid.loans n ≡ Some l → (IsValue : T → Type 0) (values : List T) → All IsValue values
    → (user_header : U) (len : ℕ) → GrantLoan (loan_memory s p) user_header true len s p mid None
    → WriteAllFrom mid n l values s' → GrantDefaultSlice (loan_memory s p) IsValue values user_header len s p s' None
default-grants {T} {U} s mid s' p n next l out IsValue values all user_header len grants writes = (
  all,
  (
    mid,
    grants,
    subst (λ (k : ℕ). MatchOption (mid.loans k) ⊥ (λ found. WriteAllFrom mid k found values s')) next
        (subst (λ (o : Option (Loan T U)). MatchOption o ⊥ (λ found. WriteAllFrom mid n found values s'))
        (sym out) writes),
  ),
)

-- one that is refused is refused with any default values
pub default-refused : {T U : Type 0} (s s' : State T U) (p : ℕ) (e : LoanError) (IsValue : T → Type 0) (len : ℕ)
    → ((user_header : U) → GrantLoan (loan_memory s p) user_header true len s p s' (Some e))
    → (values : List T) (user_header : U) → All IsValue values
    → GrantDefaultSlice (loan_memory s p) IsValue values user_header len s p s' (Some e)
default-refused s s' p e IsValue len refused values user_header all = (all, (s', refused user_header, refl))
