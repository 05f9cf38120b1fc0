use Rattle.std.proofs.Common.{◌≡◌, replicate}
use Rattle.iox2_slots.specs.SlotFree.{HasFree}
use Rattle.iox2_slots.proofs.slots.book.all_slots.Given as goal

abbrev pub invariant-loop-slot : goal.invariant-loop-slot
invariant-loop-slot l = record {
  exact : HasFree (replicate l.slot 0) l.free.items;
  len : l.free.len ≡ l.slot;
  capacity : l.free.cap ≡ l.slots;
}
