use Rattle.std.proofs.Common.{sym}
use Rattle.iox2_slots.proofs.SlotRecords.{count_read, within_records}
use Rattle.iox2_slots.proofs.slots.book.SlotBook.holders.Goals as goal

pub returns : goal.returns
returns c =
    let inside =
    within_records (λ slot. slot.holders) c.self.inside.slots.items _ (rw (← c.self.view_is) at c.requires) in
    rw (← c.self.view_is) (sym (count_read (λ slot. slot.holders) c.self.inside.slots.items _ _ inside c.index.ensures))
