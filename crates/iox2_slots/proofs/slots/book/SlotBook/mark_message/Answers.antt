use Rattle.std.proofs.Common.{refl}
use Rattle.iox2_slots.proofs.SlotRecords.{held-within}
use Rattle.iox2_slots.proofs.slots.book.SlotBook.mark_message.Goals as goal

pub set_mark-requires : goal.set_mark-requires
set_mark-requires c = held-within _ _ (c.if-has.ensures.0 refl).in_use
