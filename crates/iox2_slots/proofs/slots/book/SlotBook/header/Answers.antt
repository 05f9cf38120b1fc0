use Rattle.iox2_slots.proofs.SlotRecords.{field_read, within_records}
use Rattle.iox2_slots.proofs.slots.book.SlotBook.header.Goals as goal

pub returns : goal.returns
returns c =
    let inside =
    within_records (λ slot. slot.holders) c.self.inside.slots.items _ (rw (← c.self.view_is) at c.requires) in
    rw (← c.self.view_is) (field_read (λ slot. slot.header) c.self.inside.slots.items _ _ inside c.index.ensures)
