use Rattle.std.proofs.Common.{ℕ, ◌<◌}
use Rattle.std.specs.Prelude.{slice_index}
use Rattle.iox2_domain.specs.LoanSlots.{IsLoanSlot}
use Rattle.iox2_domain.proofs.loan_slots.find_slot.Given as goal

-- in no slot so far lies the loan
abbrev pub invariant-loop-index : goal.invariant-loop-index
invariant-loop-index l = (i : ℕ) → i < l.index → IsLoanSlot l.book (slice_index l.loans i) l.number → ⊥
