-- Books of publishers that are gone.
use Rattle.std.specs.Prelude.{◌≡◌, ◌⊎◌, ◌<◌, ℕ, length, slice_set}
use Rattle.std.specs.List.{All}
use Rattle.std.specs.declared.option.Option.TheVariants.{None, Some}
use Rattle.slab.specs.Slab.{Slab, ContainsKey, get, with_value}
use Rattle.iox2_slots.specs.SlotBook.{Book, IsInUse}
use Rattle.iox2_domain.specs.Discards.{with_holder_gone}
use Rattle.iox2_domain.specs.Fields.{Fields}

-- The books without the one at the key, which is given out next.
abbrev pub without_book : Slab Book → (key : ℕ) → Slab Book
without_book books key = record { slots = slice_set books.slots key None; vacant_key = key; capacity = books.capacity }

-- The fields without the book at the key and without what lay in its slots.
abbrev pub with_book_gone : {T U : Type 0} → Fields T U → (key : ℕ) → Fields T U
with_book_gone f key = record f { books = without_book f.books key; contents = slice_set f.contents key None }

-- The fields with one holder less of the slot of this book, which stands at the key.
abbrev pub with_holder_left : {T U : Type 0} → Fields T U → (key slot : ℕ) → Book → Fields T U
with_holder_left f key slot b = record f { books = with_value f.books key (with_holder_gone slot b) }

-- No slot of the book has a holder.
abbrev pub IsUnused : Book → Type 0
IsUnused b = All (λ n. n ≡ 0) b.holders

-- A book stands at the key, with contents.
pub record CanGo {T U : Type 0} (f : Fields T U) (key : ℕ) : Type 0 where
  pub stands : ContainsKey f.books key
  pub contents : key < length f.contents

-- The slot of the book at the key has a holder.
pub record CanLetGo {T U : Type 0} (f : Fields T U) (key slot : ℕ) : Type 0 where
  pub book : Book
  pub stands : get f.books key ≡ Some book
  pub in_use : IsInUse book slot
  pub contents : key < length f.contents

-- The book at the key is gone where no slot of it had a holder; else nothing changed.
pub record SettlesBook {T U : Type 0} (old : Fields T U) (key : ℕ) (new : Fields T U) : Type 0 where
  pub book : Book
  pub stands : get old.books key ≡ Some book
  pub outcome : (IsUnused book × (new ≡ with_book_gone old key)) ⊎ ((IsUnused book → ⊥) × (new ≡ old))

-- A slot of the book at the key has one holder less. Where it was the last of all its slots the book is gone.
pub record LetsGo {T U : Type 0} (old : Fields T U) (key slot : ℕ) (new : Fields T U) : Type 0 where
  pub book : Book
  pub stands : get old.books key ≡ Some book
  pub settles : SettlesBook (with_holder_left old key slot book) key new
