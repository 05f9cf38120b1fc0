use Rattle.std.proofs.Common.{rules, sym, ◌∙◌}
use Rattle.std.proofs.lemmas.Bool.{eqb-true, eq-eqb}
use Rattle.iox2_domain.proofs.lemmas.slots.ConnectionSlots.{index-got}
use Rattle.iox2_domain.proofs.loan_slots.is_loan_slot.Goals as goal

pub returns-then-is_lent : goal.returns-then-is_lent
returns-then-is_lent c =
    let numbered = index-got c.args.book.now.numbers _ _ c.number.ensures in (
      λ same. record {
        in_bounds = search rules;
        in_use = search rules;
        lent = search rules;
        numbered = numbered ∙ eqb-true c.number.result c.args.number same;
      },
      λ loan. eq-eqb c.number.result c.args.number (sym numbered ∙ loan.numbered),
    )
