use Rattle.std.proofs.Common.{refl}
use Rattle.std.proofs.lemmas.List.{length-map, length-replicate}
use Rattle.iox2_slots.specs.declared.slots.slot.Slot.{Slot}
use Rattle.iox2_slots.proofs.SlotHeaders.{equal_are}
use Rattle.iox2_slots.proofs.SlotRecords.{map-replicate}
use Rattle.iox2_slots.proofs.slots.book.SlotBook.new.Goals as goal

pub returns-clause-unused : goal.returns-clause-unused
returns-clause-unused c =
    rw (c.in_ok-slots.ensures.items_if_clones_equal (λ y h. h)) (map-replicate (λ slot. slot.holders) _ _)

pub returns-clause-aligned : goal.returns-clause-aligned
returns-clause-aligned c = record {
  numbers = simp length-map refl;
  headers = simp length-map refl;
  marks = simp length-map refl;
}

pub invariant_of-result : goal.invariant_of-result
invariant_of-result c =
    let unused = c.in_ok-slots.ensures.items_if_clones_equal (λ y h. h) in
    record {
      exact = rw (unused, map-replicate (λ (slot : Slot). slot.holders) _ _) c.in_ok-free.ensures.exact;
      room = rw (unused, length-replicate) c.in_ok-free.ensures.room;
      headers = rw (unused, map-replicate (λ (slot : Slot). slot.header) _ _) (equal_are _ _ _ _ refl refl);
    }
