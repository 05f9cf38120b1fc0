use Rattle.std.proofs.Common.{ap, sym, subst, ◌∙◌, get_or, slice_index, List, ℕ, Contains, below_more, arith, length}
use Rattle.std.proofs.Common.{◌<◌}
use Rattle.std.proofs.lemmas.List.{get_or_read}
use Rattle.std.proofs.lemmas.List.Elements.{Contains-get_or}
use Rattle.iox2_domain.proofs.lemmas.slots.ConnectionSlots.{index-got}
use Rattle.iox2_domain.proofs.sample_slots.find_borrowed.Goals as goal

pub number-requires : goal.number-requires
number-requires c =
    c.requires _ (subst (λ (slots : List ℕ).
    Contains slots (get_or c.borrowed-borrowed.result.now c.loop-index.index 0)) c.borrowed-borrowed.ensures
    (Contains-get_or c.borrowed-borrowed.result.now c.loop-index.index 0 c.loop-index-test.true))

pub returns-then-number : goal.returns-then-number
returns-then-number c = record {
  borrowed = subst (λ (slots : List ℕ). Contains slots (get_or c.borrowed-borrowed.result.now c.loop-index.index 0))
      c.borrowed-borrowed.ensures
      (Contains-get_or c.borrowed-borrowed.result.now c.loop-index.index 0 c.loop-index-test.true);
  number_is = index-got c.args.book.now.numbers _ _ c.number.ensures ∙ c.if-number.true;
}

pub loop-index-preserved : goal.loop-index-preserved
loop-index-preserved c = below_more _ _ c.loop-index.invariant (λ e.
    c.if-number.false (sym (index-got c.args.book.now.numbers _ _ c.number.ensures)
    ∙ ap (λ (slots : List ℕ). slice_index c.args.book.now.numbers (get_or slots c.loop-index.index 0))
    c.borrowed-borrowed.ensures ∙ e))

pub returns : goal.returns
returns c = λ slot has e.
    let within : has.0 < c.loop-index.index =
    omega (arith, has.1, c.loop-index-test.false, ap length c.borrowed-borrowed.ensures) in
    c.loop-index.invariant has.0 within
    (ap (slice_index c.args.book.now.numbers)
    (sym (get_or_read c.args.connection.now.borrowed has.0 slot has.1 (sym has.2) 0)) ∙ e)
