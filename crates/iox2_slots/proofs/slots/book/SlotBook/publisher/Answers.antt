use Rattle.std.proofs.Common.{refl}
use Rattle.iox2_slots.proofs.slots.book.SlotBook.publisher.Goals as goal

pub returns : goal.returns
returns c = rw (← c.self.view_is) refl
