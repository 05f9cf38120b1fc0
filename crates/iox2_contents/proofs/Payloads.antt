-- Which payloads have a cell or a value in place, and which have lists.
use Rattle.std.proofs.Common.{◌≡◌, ◌<◌, true, false, length, refl, sym, arith}
use Rattle.std.proofs.lemmas.Bool.{true≢false}
use Rattle.iox2_contents.specs.SlotPayload.{cells_of, values_of, is_in_place, lists_of}
use Rattle.iox2_contents.specs.declared.payload.Payload.{Payload}
use Rattle.iox2_contents.specs.declared.payload.Payload.TheVariants.{Empty, Unwritten, Written, Elements}

module _ {T : Type 0} where
  pub has-cell : (p : Payload T) → 0 < length (cells_of p) → is_in_place p ≡ true
      → ((cell : _) → p ≡ Unwritten cell → ⊥) → ⊥
  has-cell Empty some placed other = omega (arith, some)
  has-cell (Unwritten cell) some placed other = other cell refl
  has-cell (Written value) some placed other = omega (arith, some)
  has-cell (Elements elements) some placed other = true≢false (sym placed)

  pub has-value : (p : Payload T) → 0 < length (values_of p) → is_in_place p ≡ true
      → ((value : _) → p ≡ Written value → ⊥) → ⊥
  has-value Empty some placed other = omega (arith, some)
  has-value (Unwritten cell) some placed other = omega (arith, some)
  has-value (Written value) some placed other = other value refl
  has-value (Elements elements) some placed other = true≢false (sym placed)

  pub has-elements : (p : Payload T) → is_in_place p ≡ false → ((elements : _) → p ≡ Elements elements → ⊥) → ⊥
  has-elements Empty listed other = true≢false listed
  has-elements (Unwritten cell) listed other = true≢false listed
  has-elements (Written value) listed other = true≢false listed
  has-elements (Elements elements) listed other = other elements refl

  pub has-lists : (p : Payload T) → 0 < lists_of p → ((elements : _) → p ≡ Elements elements → ⊥) → ⊥
  has-lists Empty some other = omega (arith, some)
  has-lists (Unwritten cell) some other = omega (arith, some)
  has-lists (Written value) some other = omega (arith, some)
  has-lists (Elements elements) some other = other elements refl
