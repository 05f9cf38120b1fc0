use Rattle.std.proofs.Common.{◌≡◌, ◌<◌, ℕ, length, slice_index, All}
use Rattle.std.proofs.lemmas.List.Elements.{All-drop, All-take}
use Rattle.iox2_slots.proofs.LaterSlots.{each_free}
use Rattle.iox2_slots.proofs.slots.book.SlotBook.freed_since.Goals as goal

pub returns-clause-free : goal.returns-clause-free
returns-clause-free c =
    let P : ℕ → Type 0 =
    λ slot. (slot < length c.args.self.now.holders) × (slice_index c.args.self.now.holders slot ≡ 0) in
    let each : All P c.self.inside.free.items = rw (← c.self.view_is) (each_free _ _ c.self.invariant.exact) in
    let shown : All P c.deref.result.now = rw c.deref.ensures.value each in
    All-take P _ _ (All-drop P _ _ shown)
