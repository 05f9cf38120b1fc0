use Rattle.std.proofs.Common.{◌∙◌, ap, refl, ◌∷◌, [], ◌++◌, take}
use Rattle.std.proofs.lemmas.List.{take_more}
use Rattle.iox2_contents.proofs.values.push_copies.Goals as goal

pub loop-item-preserved : goal.loop-item-preserved
loop-item-preserved g c = record {
  items = rw (
    c.push_reserved.ensures.items,
    take_more c.args.items.now c.loop-item.item-index c.item-item.result
        c.loop-item-test.true,
    c.loop-item.invariant.items,
  ) (ap (λ x. take c.loop-item.item-index c.args.items.now ++ x ∷ []) c.item-item.is);
  len = rw (c.push_reserved.ensures.len, c.loop-item.invariant.len) refl;
  capacity = c.push_reserved.ensures.capacity ∙ c.loop-item.invariant.capacity;
}
