use Rattle.std.proofs.Common.{arith}
use Rattle.iox2_slots.proofs.FreeSlots.{free_none, none_free_length}
use Rattle.iox2_slots.proofs.slots.book.SlotBook.is_full.Goals as goal

pub returns : goal.returns
returns c = grind (arith, free_none, none_free_length)
