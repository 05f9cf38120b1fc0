-- How many holders the slots of a book have, while its publisher is updated.
use Rattle.std.specs.Prelude.{◌≡◌, ◌+◌, ◌^◌, ◌<◌, ◌≤◌, ℕ}
use Rattle.std.specs.declared.option.Option.TheVariants.{Some}
use Rattle.slab.specs.Slab.{Slab, get}
use Rattle.iox2_slots.specs.SlotBook.{Book, holders_at}

-- No slot of the book at the key has more holders than that.
pub record HasFewHolders (books : Slab Book) (key most : ℕ) : Type 0 where
  pub at : (b : Book) → get books key ≡ Some b → (slot : ℕ) → holders_at b slot ≤ most

-- Each slot of the book at the key may have one holder more: its count doesn't overflow.
pub record HasCountRoom (books : Slab Book) (key : ℕ) : Type 0 where
  pub at : (b : Book) → get books key ≡ Some b → (slot : ℕ) → holders_at b slot + 1 < 2 ^ 64

-- No slot has got more than that many holders.
pub record GainsHolders (more : ℕ) (old new : Slab Book) : Type 0 where
  pub at : (key most : ℕ) → HasFewHolders old key most → HasFewHolders new key (most + more)
