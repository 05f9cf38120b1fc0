use Rattle.std.proofs.Common.{arith}
use Rattle.std.proofs.lemmas.List.{length-map}
use Rattle.iox2_slots.proofs.FreeSlots.{all_free, free_all}
use Rattle.iox2_slots.proofs.slots.book.SlotBook.is_unused.Goals as goal

pub returns : goal.returns
returns c = grind (arith, all_free, free_all, length-map c.self.inside.slots.items (λ slot. slot.holders))
