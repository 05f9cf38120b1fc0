-- A loan that is granted, changed or given back leaves what waits.
use Rattle.std.proofs.Common.{◌≡◌, ℕ, Bool, refl, sym, subst, Option}
use Rattle.iox2_machine.specs.machine.Records.{Loan, Publisher, Environment}
use Rattle.iox2_machine.specs.machine.State.{State, with_loan}
use Rattle.iox2_machine.specs.machine.Loans.{GrantLoan, loan_granted, loan_discarded}
use Rattle.iox2_machine.specs.declared.errors.LoanError.{LoanError}
use Rattle.iox2_laws.proofs.CallCases.{grant_cases}
use Rattle.iox2_laws.proofs.WaitingCounts.{SameWaits, same_itself}

module _ {T U : Type 0} where
  pub loan_set_waits : (s : State T U) (n : ℕ) (l : Option (Loan T U)) → SameWaits s (with_loan s n l)
  loan_set_waits s n l = record { ports = refl; from = λ p q. refl }

  pub loan_discarded_waits : (s : State T U) (n : ℕ) (l : Loan T U) → SameWaits s (loan_discarded s n l)
  loan_discarded_waits s n l = record { ports = refl; from = λ p q. refl }

  granted_waits : (default_header : U) (s : State T U) (p : ℕ) (x : Publisher) (len segments : ℕ)
      → SameWaits s (loan_granted default_header s p x len segments)
  granted_waits default_header s p x len segments = record { ports = refl; from = λ p q. refl }

  same_state : (s s' : State T U) → s' ≡ s → SameWaits s s'
  same_state s s' e = subst (SameWaits s) (sym e) (same_itself s)

  pub grant_loan_waits : (environment : Environment) (default_header : U) (checks_length : Bool) (len : ℕ)
      (s : State T U) (p : ℕ) (s' : State T U) (refusal : Option LoanError)
      → GrantLoan environment default_header checks_length len s p s' refusal → SameWaits s s'
  grant_loan_waits environment default_header checks_length len s p s' refusal h =
      grant_cases environment default_header checks_length len s p s' (SameWaits s s') refusal h
      (λ e same _. same_state s s' same)
      (λ x present grants. subst (SameWaits s) (sym grants.4) (granted_waits default_header s p x len grants.0))
