-- A loan that is granted has the next number; one that is refused changes nothing.
use Rattle.std.proofs.Common.{◌≡◌, ℕ, ◌+◌, ◌<◌, Bool, false, refl, sym, subst, None, Some, arith}
use Rattle.std.proofs.lemmas.Bool.{ne_eqb}
use Rattle.std.proofs.lemmas.Option.{none-some}
use Rattle.iox2_machine.specs.machine.Records.{Loan, Publisher, Environment}
use Rattle.iox2_machine.specs.machine.State.{State}
use Rattle.iox2_machine.specs.machine.Loans.{GrantLoan, loan_granted}
use Rattle.iox2_machine.specs.declared.errors.LoanError.{LoanError}
use Rattle.iox2_laws.proofs.CallCases.{grant_cases}
use Rattle.iox2_laws.proofs.Puts.{put_at-same, put_at-other}

module _ {T U : Type 0} (environment : Environment) (s : State T U) where
  -- a loan that was granted is the next number's, and nothing else changed of the loans
  pub record IsNextLoan (p : ℕ) (s' : State T U) : Type 0 where
    pub loan : Loan T U
    pub there : s'.loans s.next_message ≡ Some loan
    pub publisher : loan.publisher ≡ p
    pub unwritten : loan.is_written ≡ false
    pub next : s'.next_message ≡ s.next_message + 1
    pub others : (n : ℕ) → n < s.next_message → s'.loans n ≡ s.loans n

  granted_next : (default_header : U) (p : ℕ) (x : Publisher) (len segments : ℕ)
      → IsNextLoan p (loan_granted default_header s p x len segments)
  granted_next default_header p x len segments = record {
    loan = _;
    there = put_at-same s.loans s.next_message _;
    publisher = refl;
    unwritten = refl;
    next = refl;
    others = λ n low. put_at-other s.loans s.next_message _ n (ne_eqb n s.next_message (λ e. omega (arith, low, e)));
  }

  pub loan_next : (default_header : U) (checks_length : Bool) (len p : ℕ) (s' : State T U)
      → GrantLoan environment default_header checks_length len s p s' None → IsNextLoan p s'
  loan_next default_header checks_length len p s' h =
      grant_cases environment default_header checks_length len s p s' (IsNextLoan p s') None h
      (λ e _ some. absurd (none-some e some))
      (λ x _ grants. subst (IsNextLoan p) (sym grants.4) (granted_next default_header p x len grants.0))

  -- a loan that was refused changed nothing
  pub loan_refused : (default_header : U) (checks_length : Bool) (len p : ℕ) (s' : State T U) (e : LoanError)
      → GrantLoan environment default_header checks_length len s p s' (Some e) → s' ≡ s
  loan_refused default_header checks_length len p s' e h =
      grant_cases environment default_header checks_length len s p s' (s' ≡ s) (Some e) h (λ _ same _. same)
      (λ x _ grants. absurd (none-some e (sym grants.5)))
