use Rattle.std.proofs.Common.{ℕ, ◌<◌}
use Rattle.iox2_domain.specs.LoanSlots.{IsLoanSlot}
use Rattle.iox2_domain.proofs.loan_slots.find_loan_slot.Given as goal

-- in no slot so far lies the loan
abbrev pub invariant-loop-slot : goal.invariant-loop-slot
invariant-loop-slot l = (i : ℕ) → i < l.slot → IsLoanSlot l.book i l.number → ⊥
