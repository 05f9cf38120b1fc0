use Rattle.std.proofs.Common.{arith, ◌*◌, ◌^◌, ◌<◌}
use Rattle.iox2_domain.proofs.lemmas.slots.SlotRoom.{units-fit}
use Rattle.iox2_messages.proofs.loans.start.Goals as goal

pub overflow_mul-len : goal.overflow_mul-len
overflow_mul-len g c =
    let low : c.args.len * c.args.units_per_element < 2 ^ 64 =
    units-fit c.args.len c.args.units_per_element (omega (arith, c.ranges.units_per_element)) c.requires.fits in
    omega (arith, low)
