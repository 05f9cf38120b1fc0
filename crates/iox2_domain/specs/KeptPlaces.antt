-- That messages stay in their slots.
use Rattle.std.specs.Prelude.{ℕ, ◌<◌, ◌≤◌}
use Rattle.slab.specs.Slab.{Slab}
use Rattle.iox2_slots.specs.SlotBook.{Book}
use Rattle.iox2_domain.specs.Fields.{Fields}
use Rattle.iox2_domain.specs.Invariant.{HasNumber}

-- A slot in use whose number was given out before was in use before, with that number.
pub record StayInSlots (next : ℕ) (books : Slab Book) (next' : ℕ) (books' : Slab Book) : Type 0 where
  pub rises : next ≤ next'
  pub back : (key slot n : ℕ) → n < next → HasNumber books' key slot n → HasNumber books key slot n

-- Each message that is still there lies where it lay.
abbrev pub KeepsPlaces : {T U : Type 0} → (old new : Fields T U) → Type 0
KeepsPlaces old new = StayInSlots old.next_message old.books new.next_message new.books
