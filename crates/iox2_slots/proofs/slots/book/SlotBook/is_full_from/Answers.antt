use Rattle.iox2_slots.proofs.LaterSlots.{full_from}
use Rattle.iox2_slots.proofs.slots.book.SlotBook.is_full_from.Goals as goal

pub returns : goal.returns
returns c =
    rw (← c.self.view_is)
    (full_from _ c.self.inside.free.items c.args.start c.last_from.result _ c.is_none.ensures c.self.invariant.exact
    (rw c.deref.ensures.value at c.last_from.ensures.none) (rw c.deref.ensures.value at c.last_from.ensures.there))
