use Rattle.std.proofs.Common.{◌+◌, refl, arith}
use Rattle.std.proofs.lemmas.List.{length-set, map-set}
use Rattle.iox2_slots.proofs.FreeSlots.{free_kept}
use Rattle.iox2_slots.proofs.RecountedSlots.{holders-read, recounted}
use Rattle.iox2_slots.proofs.SlotRecords.{field_kept}
use Rattle.iox2_slots.proofs.slots.book.SlotBook.hold.Goals as goal

pub invariant_of-self : goal.invariant_of-self
invariant_of-self c =
    let before = rw (← c.self.view_is) at c.requires.in_use in
    record {
      exact = rw (map-set (λ slot. slot.holders) c.self.inside.slots.items _ _)
          (free_kept _ _ _ _ before.in_bounds before.in_use (omega arith) c.self.invariant.exact);
      room = simp length-set c.self.invariant.room;
      headers = rw (field_kept (λ slot. slot.header) c.self.inside.slots.items _ _
          (record c.index_mut.result.now { holders = c.index_mut.result.now.holders + 1 }) c.index_mut.ensures.value
          refl) c.self.invariant.headers;
    }

pub returns : goal.returns
returns c =
    let before = rw (← c.self.view_is) at c.requires.in_use in
    rw (
      ← c.self.view_is,
      holders-read c.self.inside.slots.items c.args.slot c.index_mut.result.now
          c.index_mut.ensures.value before.in_bounds,
    )
    (recounted c.self.inside.slots.items c.args.slot c.index_mut.result.now c.index_mut.ensures.value c.self.inside.node
    c.self.inside.publisher _)
