use Rattle.std.proofs.Common.{◌<◌, ℕ}
use Rattle.iox2_domain.specs.LoanSlots.{LendsAt}
use Rattle.iox2_domain.proofs.state.DomainState.find_left_loan.Given as goal

-- in no book so far lies the loan
abbrev pub invariant-loop-key : goal.invariant-loop-key
invariant-loop-key g l = (k : ℕ) → k < l.key → LendsAt l.self k l.publisher l.number → ⊥
