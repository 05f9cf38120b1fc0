use Rattle.std.proofs.Common.{◌-◌, refl, arith}
use Rattle.std.proofs.lemmas.List.{length-map, length-set, map-set}
use Rattle.iox2_slots.proofs.FreeSlots.{free_kept, free_pushed, free_room}
use Rattle.iox2_slots.proofs.RecountedSlots.{holders-read, recounted}
use Rattle.iox2_slots.proofs.SlotRecords.{field_kept}
use Rattle.iox2_slots.proofs.slots.book.SlotBook.release.Goals as goal

pub invariant_of-self : goal.invariant_of-self
invariant_of-self c =
    let before = rw (← c.self.view_is) at c.requires in
    record {
      exact = rw (
        map-set (λ slot. slot.holders) c.self.inside.slots.items _ _,
        c.if-left-eq0.true,
        c.push_reserved.ensures.items,
      ) (free_pushed _ _ _ before.in_bounds before.in_use c.self.invariant.exact);
      room = simp length-set (omega arith);
      headers = rw (field_kept (λ slot. slot.header) c.self.inside.slots.items _ _
          (record c.index_mut.result.now { holders = c.index.result.now.holders - 1 }) c.index_mut.ensures.value refl)
          c.self.invariant.headers;
    }

pub invariant_of-self-else-left-eq0 : goal.invariant_of-self-else-left-eq0
invariant_of-self-else-left-eq0 c =
    let before = rw (← c.self.view_is) at c.requires in
    record {
      exact = rw (map-set (λ slot. slot.holders) c.self.inside.slots.items _ _)
          (free_kept _ _ _ _ before.in_bounds before.in_use (omega arith) c.self.invariant.exact);
      room = simp length-set c.self.invariant.room;
      headers = rw (field_kept (λ slot. slot.header) c.self.inside.slots.items _ _
          (record c.index_mut.result.now { holders = c.index.result.now.holders - 1 }) c.index_mut.ensures.value refl)
          c.self.invariant.headers;
    }

pub push_reserved-requires : goal.push_reserved-requires
push_reserved-requires c =
    let before = rw (← c.self.view_is) at c.requires in
    let slots = c.self.inside.slots.items in
    omega (
      arith,
      free_room _ _ _ before.in_bounds before.in_use c.self.invariant.exact,
      length-map slots (λ slot. slot.holders),
      c.self.invariant.room,
      c.self.inside.free.ok,
    )

pub returns-then-left-eq0-clause-last : goal.returns-then-left-eq0-clause-last
returns-then-left-eq0-clause-last c =
    let before = rw (← c.self.view_is) at c.requires in
    let read = holders-read c.self.inside.slots.items c.args.slot c.index.result.now c.index.ensures before.in_bounds in
    (λ _. rw (← c.self.view_is) (omega (arith, read, before.in_use)), λ _. refl)

pub returns-then-left-eq0-clause-released : goal.returns-then-left-eq0-clause-released
returns-then-left-eq0-clause-released c =
    let before = rw (← c.self.view_is) at c.requires in
    rw (
      ← c.self.view_is,
      holders-read c.self.inside.slots.items c.args.slot c.index.result.now c.index.ensures before.in_bounds,
    )
    (recounted c.self.inside.slots.items c.args.slot c.index_mut.result.now c.index_mut.ensures.value c.self.inside.node
    c.self.inside.publisher _)

pub returns-clause-released : goal.returns-clause-released
returns-clause-released c =
    let before = rw (← c.self.view_is) at c.requires in
    rw (
      ← c.self.view_is,
      holders-read c.self.inside.slots.items c.args.slot c.index.result.now c.index.ensures before.in_bounds,
    )
    (recounted c.self.inside.slots.items c.args.slot c.index_mut.result.now c.index_mut.ensures.value c.self.inside.node
    c.self.inside.publisher _)
