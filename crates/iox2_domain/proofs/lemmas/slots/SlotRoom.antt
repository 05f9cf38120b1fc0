-- How much room a slot needs.
use Rattle.std.proofs.Common.{◌≡◌, ℕ, ◌*◌, ◌^◌, ◌<◌, ◌≤◌, Bool, true, false, nat_lt, refl, ◌∙◌, arith}
use Rattle.std.proofs.Math.Nat.{mul_assoc, mul_comm, le-mul_of_pos_right, mul-le-mul_right, max_comm, max-eq_left}
use Rattle.std.proofs.lemmas.Bool.{ltb-true, ltb-false}
use Rattle.iox2_machine.specs.machine.Limits.{segment_fits}
use Rattle.iox2_machine.specs.declared.service_config.ServiceConfig.{ServiceConfig}
use Rattle.iox2_domain.specs.Ports.{slot_length}

-- where the size of some slots fits a machine word, that of each does
pub slot-fits : (c : ServiceConfig) (slots len : ℕ) → segment_fits c slots len ≡ true → 0 < slots
    → len * c.units_per_element < 2 ^ 64
slot-fits c slots len fits some =
    let all : slots * len * c.units_per_element < 2 ^ 64 = ltb-true _ _ fits in
    let same : slots * len * c.units_per_element ≡ slots * (len * c.units_per_element) =
    mul_assoc slots len c.units_per_element in
    let turned : slots * (len * c.units_per_element) ≡ len * c.units_per_element * slots =
    mul_comm slots (len * c.units_per_element) in
    let one : len * c.units_per_element ≤ len * c.units_per_element * slots =
    le-mul_of_pos_right (len * c.units_per_element) some in
    omega (arith, all, same, turned, one)

-- so does that of several elements, where they fit a slot
pub several-fit : (c : ServiceConfig) (slots most len : ℕ) → segment_fits c slots most ≡ true → 0 < slots
    → len ≤ slot_length most → 1 < len
    → len * c.units_per_element < 2 ^ 64
several-fit c slots most len fits some short several = by (nat_lt 1 most) refl where
  by : (b : Bool) → nat_lt 1 most ≡ b → len * c.units_per_element < 2 ^ 64
  by true e =
      let long : slot_length most ≡ most =
      max_comm 1 most ∙ max-eq_left (let more = ltb-true 1 most e in omega arith) in
      let low : len ≤ most = omega (arith, short, long) in
      let less : len * c.units_per_element ≤ most * c.units_per_element = mul-le-mul_right c.units_per_element low in
      let all : most * c.units_per_element < 2 ^ 64 = slot-fits c slots most fits some in
      omega (arith, less, all)
  by false e =
      let one : slot_length most ≡ 1 = max-eq_left (ltb-false 1 most e) in
      absurd (omega (arith, short, one, several))

-- some elements do, where one does and several do
pub units-fit : (len units : ℕ) → units < 2 ^ 64 → (1 < len → len * units < 2 ^ 64) → len * units < 2 ^ 64
units-fit len units one several = by (nat_lt 1 len) refl where
  by : (b : Bool) → nat_lt 1 len ≡ b → len * units < 2 ^ 64
  by true e = several (ltb-true 1 len e)
  by false e =
      let less : len * units ≤ 1 * units = mul-le-mul_right units (ltb-false 1 len e) in
      omega (arith, one, less)
