use Rattle.std.proofs.Common.{below_more, arith, sym, ◌∙◌}
use Rattle.std.proofs.lemmas.Bool.{true≢false}
use Rattle.iox2_domain.proofs.loan_slots.find_loan_slot.Goals as goal

pub loop-slot-preserved : goal.loop-slot-preserved
loop-slot-preserved c = below_more _ _ c.loop-slot.invariant
    (λ here. true≢false (sym (c.is_loan_slot.ensures.1 here) ∙ c.if-is_loan_slot.false))

pub returns : goal.returns
returns c = λ slot is.
    c.loop-slot.invariant slot (omega (arith, is.in_bounds, c.len-slot-end.ensures.len, c.loop-slot-test.false)) is
