-- Messages stay in their slots, step by step.
use Rattle.std.proofs.Common.{ℕ, ◌<◌, ◌≤◌, ◌≡◌, arith}
use Rattle.slab.specs.Slab.{Slab}
use Rattle.iox2_slots.specs.SlotBook.{Book}
use Rattle.iox2_domain.specs.Invariant.{HasNumber}
use Rattle.iox2_domain.specs.KeptPlaces.{StayInSlots}

-- no book changes
pub places-still : {next : ℕ} {books : Slab Book} → StayInSlots next books next books
places-still {next} {books} = record { rises = omega arith; back = λ key slot n low has. has }

-- no number is given out, and a slot in use was so before
pub places-back : {next : ℕ} {books books' : Slab Book}
    → ((key slot n : ℕ) → HasNumber books' key slot n → HasNumber books key slot n) → StayInSlots next books next books'
places-back {next} {books} {books'} was =
    record { rises = omega arith; back = λ key slot n low has. was key slot n has }

-- one step after another
pub places-then : {a b c : ℕ} {x y z : Slab Book} → StayInSlots a x b y → StayInSlots b y c z → StayInSlots a x c z
places-then {a} {b} {c} {x} {y} {z} first second = record {
  rises = let one = first.rises in let two = second.rises in omega (arith, one, two);
  back = λ key slot n low has.
      first.back key slot n low (second.back key slot n (let one = first.rises in omega (arith, low, one)) has);
}
