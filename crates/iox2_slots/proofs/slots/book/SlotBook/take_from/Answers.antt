use Rattle.std.proofs.Common.{refl, arith}
use Rattle.std.proofs.lemmas.List.{length-map, length-set, map-set}
use Rattle.iox2_slots.proofs.LaterSlots.{chosen_within, chosen_count, chosen_not_all, free_chosen, none_from}
use Rattle.iox2_slots.proofs.SlotHeaders.{resized_are, resized_is}
use Rattle.iox2_slots.proofs.SlotRecords.{field_at, within_records}
use Rattle.iox2_slots.proofs.slots.book.SlotBook.take_from.Goals as goal

pub returns-in_err-slot-clause-none : goal.returns-in_err-slot-clause-none
returns-in_err-slot-clause-none c = (
  λ _. rw (← c.self.view_is)
      (none_from _ c.self.inside.free.items c.args.start c.in_err-slot.ensures.none c.self.invariant.exact),
  λ _. rw c.from_residual.ensures refl,
)

pub returns-in_err-slot-clause-aligned : goal.returns-in_err-slot-clause-aligned
returns-in_err-slot-clause-aligned c = record {
  numbers = simp length-map refl;
  headers = simp length-map refl;
  marks = simp length-map refl;
}

pub index_mut-taken-requires : goal.index_mut-taken-requires
index_mut-taken-requires c =
    let free = c.self.inside.free.items in
    let slots = c.self.inside.slots.items in
    let out = c.in_ok-slot.ensures.taken.1 in
    omega (
      arith,
      within_records (λ slot. slot.holders) slots _
          (chosen_within _ free _ _ out.there out.is c.self.invariant.exact),
      c.self.inside.slots.ok,
    )

pub invariant_of-self : goal.invariant_of-self
invariant_of-self c = record {
  exact = rw c.in_err-slot.ensures.refused c.self.invariant.exact;
  room = omega (arith, c.self.invariant.room, c.in_err-slot.ensures.capacity);
  headers = c.self.invariant.headers;
}

pub invariant_of-self-2 : goal.invariant_of-self-2
invariant_of-self-2 c =
    let free = c.self.inside.free.items in
    let slots = c.self.inside.slots.items in
    let out = c.in_ok-slot.ensures.taken.1 in
    let below = within_records (λ slot. slot.holders) slots _
    (chosen_within _ free _ _ out.there out.is c.self.invariant.exact) in
    record {
      exact = rw (map-set (λ slot. slot.holders) slots _ _, out.rest)
          (free_chosen _ free _ _ out.there out.is c.self.invariant.exact 1 (omega arith));
      room = simp length-set (omega (arith, c.self.invariant.room, c.in_ok-slot.ensures.capacity));
      headers = rw (map-set (λ slot. slot.header) slots _ _)
          (resized_are _ _ _ _ _ (simp length-map below)
          (field_at (λ slot. slot.header) slots _ _ below c.index_mut-taken.ensures.value) c.self.invariant.headers _);
    }

pub returns-clause-none : goal.returns-clause-none
returns-clause-none c =
    let free = c.self.inside.free.items in
    let out = c.in_ok-slot.ensures.taken.1 in (
      λ some. absurd cc,
      λ all.
          absurd (chosen_not_all _ free _ _ out.there out.is c.self.invariant.exact _ c.in_ok-slot.ensures.from
          (rw (← c.self.view_is) at all)),
    )

pub returns-clause-taken : goal.returns-clause-taken
returns-clause-taken c =
    let free = c.self.inside.free.items in
    let slots = c.self.inside.slots.items in
    let out = c.in_ok-slot.ensures.taken.1 in
    let inside = chosen_within _ free _ _ out.there out.is c.self.invariant.exact in
    let below = within_records (λ slot. slot.holders) slots _ inside in
    let header = resized_is _ _ _ _ _ (simp length-map below)
    (field_at (λ slot. slot.header) slots _ _ below c.index_mut-taken.ensures.value) c.self.invariant.headers
    c.args.len in
    record {
      in_bounds = rw (← c.self.view_is) inside;
      was_unused = rw (← c.self.view_is) (chosen_count _ free _ _ out.there out.is c.self.invariant.exact);
      taken = rw (
        ← c.self.view_is,
        map-set (λ slot. slot.number) slots _ _,
        map-set (λ slot. slot.header) slots _ _,
        map-set (λ slot. slot.mark) slots _ _,
        map-set (λ slot. slot.holders) slots _ _,
        header,
      ) refl;
    }

pub returns-clause-aligned : goal.returns-clause-aligned
returns-clause-aligned c = record {
  numbers = simp (length-map, length-set) refl;
  headers = simp (length-map, length-set) refl;
  marks = simp (length-map, length-set) refl;
}
