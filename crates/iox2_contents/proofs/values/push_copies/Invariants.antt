use Rattle.std.proofs.Common.{◌≡◌, take}
use Rattle.iox2_contents.proofs.values.push_copies.Given as goal

abbrev pub invariant-loop-item : goal.invariant-loop-item
invariant-loop-item g l = record {
  items : l.values.items ≡ take l.item-index l.items;
  len : l.values.len ≡ l.item-index;
  capacity : l.values.cap ≡ l.initial.values.cap;
}
