use Rattle.std.proofs.Common.{refl}
use Rattle.std.proofs.lemmas.List.{length-set, map-set}
use Rattle.iox2_slots.proofs.SlotRecords.{field_kept}
use Rattle.iox2_slots.proofs.slots.book.SlotBook.set_mark.Goals as goal

pub invariant_of-self : goal.invariant_of-self
invariant_of-self c = record {
  exact = rw (field_kept (λ slot. slot.holders) c.self.inside.slots.items _ _
      (record c.index_mut.result.now { mark = c.args.mark }) c.index_mut.ensures.value refl) c.self.invariant.exact;
  room = simp length-set c.self.invariant.room;
  headers = rw (field_kept (λ slot. slot.header) c.self.inside.slots.items _ _
      (record c.index_mut.result.now { mark = c.args.mark }) c.index_mut.ensures.value refl) c.self.invariant.headers;
}

pub returns : goal.returns
returns c =
    let slots = c.self.inside.slots.items in
    let old = c.index_mut.ensures.value in
    let new = record c.index_mut.result.now { mark = c.args.mark } in
    rw (
      ← c.self.view_is,
      field_kept (λ slot. slot.number) slots _ _ new old refl,
      field_kept (λ slot. slot.header) slots _ _ new old refl,
      field_kept (λ slot. slot.holders) slots _ _ new old refl,
      map-set (λ slot. slot.mark) slots _ _,
    ) refl
