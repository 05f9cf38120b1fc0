use Rattle.std.proofs.Common.{◌≡◌, ◌-◌, Some, List, ℕ, length, take, vec_len, ap, sym, ◌∙◌, rules}
use Rattle.std.specs.Prelude.{slice_get}
use Rattle.iox2_connections.proofs.TakenSlots.{popped-without}
use Rattle.iox2_connections.proofs.slot_list.take_slot.Goals as goal

pub returns-then-is_last-clause-items : goal.returns-then-is_last-clause-items
returns-then-is_last-clause-items c =
    let long : vec_len c.args.slots.now ≡ length c.args.slots.now.items = search rules in
    let last : slice_get c.args.slots.now.items (length c.args.slots.now.items - 1) ≡ Some c.args.slot =
    ap (λ (xs : List ℕ). slice_get xs (length xs - 1)) (sym c.deref.ensures.value)
    ∙ c.is_last.ensures.0 c.if-is_last.true in
    popped-without c.args.slot c.args.slots.now.items c.pop.new.self.items last c.requires
    (c.pop.ensures.rest ∙ ap (λ (n : ℕ). take (n - 1) c.args.slots.now.items) long)
