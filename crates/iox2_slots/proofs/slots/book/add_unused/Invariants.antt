use Rattle.std.proofs.Common.{◌≡◌, ◌++◌, map, replicate, vec_capacity}
use Rattle.iox2_slots.specs.SlotFree.{HasFree}
use Rattle.iox2_slots.specs.declared.slots.slot.Slot.{Slot}
use Rattle.iox2_slots.proofs.slots.book.add_unused.Given as goal

-- so many were added
abbrev pub invariant-loop-added : goal.invariant-loop-added
invariant-loop-added l = record {
  items : l.slots.items ≡ l.initial.slots.items ++ replicate l.added l.unused;
  exact : HasFree (map (λ (slot : Slot). slot.holders) l.slots.items) l.free.items;
  capacity : vec_capacity l.slots ≡ vec_capacity l.initial.slots;
  free_capacity : vec_capacity l.free ≡ vec_capacity l.initial.free;
}
