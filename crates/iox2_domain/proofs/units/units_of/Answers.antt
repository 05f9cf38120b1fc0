use Rattle.std.proofs.Common.{arith, ◌*◌, ◌^◌, ◌<◌}
use Rattle.iox2_domain.proofs.lemmas.slots.SlotRoom.{units-fit}
use Rattle.iox2_domain.proofs.units.units_of.Goals as goal

pub overflow_mul-result : goal.overflow_mul-result
overflow_mul-result c =
    let low : c.args.len * c.args.units_per_element < 2 ^ 64 =
    units-fit c.args.len c.args.units_per_element (omega (arith, c.ranges.units_per_element)) c.requires in
    omega (arith, low)
