use Rattle.std.proofs.Common.{refl, ◌∙◌, arith}
use Rattle.std.proofs.lemmas.List.{length_push}
use Rattle.std.proofs.lemmas.List.Elements.{All-nil, All-push}
use Rattle.iox2_contents.specs.SlotStates.{IsNew}
use Rattle.iox2_contents.proofs.contents.new_slots.Goals as goal

pub loop-init : goal.loop-init
loop-init g c = record {
  new = rw c.in_ok-contents.ensures.items
      (All-nil (IsNew g.U.Default.is_default c.args.room c.args.in_lists c.args.lists));
  count = rw c.in_ok-contents.ensures.items refl;
  len = c.in_ok-contents.ensures.len;
  capacity = c.in_ok-contents.ensures.exact;
}

pub loop-preserved : goal.loop-preserved
loop-preserved g c = record {
  new = rw c.push_reserved.ensures.items
      (All-push (IsNew g.U.Default.is_default c.args.room c.args.in_lists c.args.lists) _ _ c.loop.invariant.new
      c.in_ok-new.ensures);
  count = rw (c.push_reserved.ensures.items, length_push, c.loop.invariant.count) refl;
  len = omega arith;
  capacity = c.push_reserved.ensures.capacity ∙ c.loop.invariant.capacity;
}
