use Rattle.std.proofs.Common.{◌≡◌, length, All}
use Rattle.iox2_contents.specs.SlotStates.{IsNew}
use Rattle.iox2_contents.proofs.contents.new_slots.Given as goal

abbrev pub invariant-loop : goal.invariant-loop
invariant-loop g l = record {
  new : All (IsNew g.U.Default.is_default l.room l.in_lists l.lists) l.contents.items;
  count : length l.contents.items ≡ l.counter;
  len : l.contents.len ≡ l.counter;
  capacity : l.contents.cap ≡ l.slots;
}
