use Rattle.std.proofs.Common.{below_more, arith, sym, ◌∙◌}
use Rattle.std.proofs.lemmas.Bool.{true≢false}
use Rattle.iox2_domain.proofs.loan_slots.find_slot.Goals as goal

pub loop-index-preserved : goal.loop-index-preserved
loop-index-preserved c = below_more _ _ c.loop-index.invariant
    (λ here. true≢false (sym (c.is_loan_slot.ensures.1 here) ∙ c.if-is_loan_slot.false))

pub returns : goal.returns
returns c = λ i lt. c.loop-index.invariant i (omega arith)
