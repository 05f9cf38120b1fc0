use Rattle.std.proofs.Common.{arith, ap, ◌∙◌, ◌≡◌, ◌≤◌, ℕ, ◌*◌}
use Rattle.std.proofs.Math.Nat.{max_comm}
use Rattle.iox2_domain.specs.Ports.{slot_length}
use Rattle.iox2_domain.proofs.lemmas.slots.SlotRoom.{several-fit}
use Rattle.iox2_ports.proofs.segments.room_for.Goals as goal

pub units_of-requires : goal.units_of-requires
units_of-requires c =
    let long : c.max.result ≡ slot_length c.args.len = c.max.ensures ∙ max_comm _ _ in
    let low : c.max.result ≤ slot_length c.args.len = omega (arith, long) in
    several-fit c.args.config.now c.args.slots c.args.len c.max.result c.requires
    (omega (arith, c.if-slots-eq0.false)) low

pub returns : goal.returns
returns c = λ some.
    c.units_of.ensures ∙ ap (λ (n : ℕ). n * (c.args.config.now).units_per_element) (c.max.ensures ∙ max_comm _ _)
