use Rattle.std.proofs.Common.{refl, arith}
use Rattle.std.proofs.lemmas.List.{length-map, length-set, map-set}
use Rattle.iox2_slots.proofs.FreeSlots.{free_popped, popped_count, popped_not_all, popped_within}
use Rattle.iox2_slots.proofs.SlotHeaders.{resized_are, resized_is}
use Rattle.iox2_slots.proofs.SlotRecords.{field_at, within_records}
use Rattle.iox2_slots.proofs.slots.book.SlotBook.take.Goals as goal

pub index_mut-taken-requires : goal.index_mut-taken-requires
index_mut-taken-requires c =
    let slots = c.self.inside.slots.items in
    omega (
      arith,
      within_records (λ slot. slot.holders) slots _
          (popped_within _ _ _ _ c.in_ok-slot.ensures.items c.self.invariant.exact),
      c.self.inside.slots.ok,
    )

pub invariant_of-self-2 : goal.invariant_of-self-2
invariant_of-self-2 c = record {
  exact = rw (map-set (λ slot. slot.holders) c.self.inside.slots.items _ _)
      (free_popped _ _ _ _ _ c.in_ok-slot.ensures.items (omega arith) c.self.invariant.exact);
  room = simp length-set (omega arith);
  headers =
      let slots = c.self.inside.slots.items in
      let below = within_records (λ slot. slot.holders) slots _
      (popped_within _ _ _ _ c.in_ok-slot.ensures.items c.self.invariant.exact) in
      rw (map-set (λ slot. slot.header) slots _ _)
      (resized_are _ _ _ _ _ (simp length-map below)
      (field_at (λ slot. slot.header) slots _ _ below c.index_mut-taken.ensures.value) c.self.invariant.headers _);
}

pub returns-clause-none : goal.returns-clause-none
returns-clause-none c = (
  λ some. absurd (cc),
  λ all.
      absurd (popped_not_all _ _ _ _ c.in_ok-slot.ensures.items c.self.invariant.exact (rw (← c.self.view_is) at all)),
)

pub returns-clause-taken : goal.returns-clause-taken
returns-clause-taken c =
    let slots = c.self.inside.slots.items in
    let below = within_records (λ slot. slot.holders) slots _
    (popped_within _ _ _ _ c.in_ok-slot.ensures.items c.self.invariant.exact) in
    let header = resized_is _ _ _ _ _ (simp length-map below)
    (field_at (λ slot. slot.header) slots _ _ below c.index_mut-taken.ensures.value) c.self.invariant.headers
    c.args.len in
    record {
      in_bounds = rw (← c.self.view_is) (popped_within _ _ _ _ c.in_ok-slot.ensures.items c.self.invariant.exact);
      was_unused = rw (← c.self.view_is) (popped_count _ _ _ _ c.in_ok-slot.ensures.items c.self.invariant.exact);
      taken = rw (
        ← c.self.view_is,
        map-set (λ slot. slot.number) slots _ _,
        map-set (λ slot. slot.header) slots _ _,
        map-set (λ slot. slot.mark) slots _ _,
        map-set (λ slot. slot.holders) slots _ _,
        header,
      ) refl;
    }
