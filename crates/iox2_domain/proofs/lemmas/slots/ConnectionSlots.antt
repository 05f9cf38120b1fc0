-- The slots of a connection, in its publisher's book.
use Rattle.std.proofs.Common.{◌≡◌, ℕ, ◌<◌, ap, ◌∙◌, arith, refl, Some, true, false, ◌||◌, eqb, List, [], ◌∷◌, ◌≢◌, zero}
use Rattle.std.proofs.Common.{suc, map, get_or, Contains, length, inl, inr}
use Rattle.std.proofs.lemmas.Bool.{eqb-true, eq-eqb, ne_eqb, or_cases, or_left, or_right}
use Rattle.std.specs.Prelude.{slice_get, slice_index}
use Rattle.std.specs.Option.{option_map_or}
use Rattle.slab.specs.Slab.{get}
use Rattle.iox2_connections.specs.Link.{Link}
use Rattle.iox2_machine.specs.machine.Numbers.{contains}
use Rattle.iox2_slots.specs.SlotBook.{Book, holders_at}
use Rattle.iox2_connections.specs.Counters.{times, IsCovered}
use Rattle.iox2_connections.specs.LookUp.{look_up}
use Rattle.iox2_connections.proofs.Counts.{one_if, one_if_same, times-cons, counter_if_stands}
use Rattle.iox2_connections.proofs.ListedNumbers.{contains-from}
use Rattle.iox2_domain.specs.Fields.{Fields, is_book_of, number_in_slot}
use Rattle.iox2_domain.specs.Invariant.{IsDomain}
use Rattle.iox2_domain.proofs.lemmas.slots.Holders.{book-by_id, book-holders}

-- an element of a list stands there at least once
pub times-some : (slot : ℕ) (slots : List ℕ) → Contains slots slot → 0 < times slot slots
times-some slot slots has = by slots (contains-from slots slot has) where
  by : (xs : List ℕ) → contains xs slot ≡ true → 0 < times slot xs
  by [] here = absurd cc
  by (x ∷ xs) here = elim (or_cases (eqb x slot) (contains xs slot) here) [
    | inl same ↦ omega (arith, times-cons slot x xs, ap (one_if slot) (eqb-true x slot same), one_if_same slot)
    | inr later ↦ let more = by xs later in omega (arith, times-cons slot x xs, more)
  ]

module _ {T U : Type 0} (f : Fields T U) (sound : IsDomain f) (key book : ℕ) (c : Link) (b : Book)
    (at : get f.connections key ≡ Some c) (at_b : get f.books book ≡ Some b)
    (its : b.publisher ≡ c.home.publisher) where
  found-book : look_up (is_book_of c.home.publisher) f.books.slots ≡ Some b
  found-book = book-by_id f.books book c.home.publisher b (sound.parts.books.one_each c.home.publisher) at_b its

  -- the book has the numbers of the connection's slots
  pub book-numbers : (slot : ℕ) → number_in_slot f.books c.home.publisher slot ≡ slice_index b.numbers slot
  book-numbers slot = ap (λ o. option_map_or (λ (d : Book). slice_index d.numbers slot) o 0) found-book

  book-covers : IsCovered c.home.publisher b.holders f.connections.slots
  book-covers = record {
    at = λ slot. omega (
      arith,
      sound.parts.counted.at c.home.publisher slot,
      book-holders f.books book c.home.publisher b (sound.parts.books.one_each c.home.publisher) at_b its slot,
    );
  }

  -- a slot that waits is in use
  pub waiting-in_use : (slot : ℕ) → Contains c.waiting slot → 0 < holders_at b slot
  waiting-in_use slot has =
      let some = times-some slot c.waiting has in
      counter_if_stands c.home.publisher b.holders f.connections.slots key slot c book-covers at refl
      (omega (arith, some))

  -- a slot that is borrowed is in use
  pub borrowed-in_use : (slot : ℕ) → Contains c.borrowed slot → 0 < holders_at b slot
  borrowed-in_use slot has =
      let some = times-some slot c.borrowed has in
      counter_if_stands c.home.publisher b.holders f.connections.slots key slot c book-covers at refl
      (omega (arith, some))

-- what is got at an index
pub index-got : (xs : List ℕ) (i x : ℕ) → slice_get xs i ≡ Some x → slice_index xs i ≡ x
index-got [] i x e = absurd cc
index-got (y ∷ xs) zero x e = cc
index-got (y ∷ xs) (suc i) x e = index-got xs i x e

-- a number is not among those of slots that all have others
pub contains-none : (number : ℕ → ℕ) (slots : List ℕ) (n : ℕ) → ((slot : ℕ) → Contains slots slot → number slot ≢ n)
    → contains (map number slots) n ≡ false
contains-none number [] n others = refl
contains-none number (slot ∷ slots) n others =
    ap (λ b. b || contains (map number slots) n) (ne_eqb (number slot) n (others slot (zero, omega arith, refl)))
    ∙ contains-none number slots n (λ other has. others other (suc has.0, omega (arith, has.1), has.2))

-- a number is among those of slots of which one has it
pub contains-one : (number : ℕ → ℕ) (slots : List ℕ) (slot : ℕ) → Contains slots slot
    → contains (map number slots) (number slot) ≡ true
contains-one number [] slot has = absurd (omega (arith, has.1))
contains-one number (x ∷ xs) slot has = by has.0 has.1 has.2 (λ k lt at. contains-one number xs slot (k, lt, at)) where
  by : (k : ℕ) → k < length (x ∷ xs) → get_or (x ∷ xs) k slot ≡ slot
      → ((i : ℕ) → i < length xs → get_or xs i slot ≡ slot → contains (map number xs) (number slot) ≡ true)
      → contains (map number (x ∷ xs)) (number slot) ≡ true
  by zero lt at later = or_left (eqb (number x) (number slot)) (contains (map number xs) (number slot))
      (eq-eqb (number x) (number slot) (ap number at))
  by (suc k) lt at later =
      or_right (eqb (number x) (number slot)) (contains (map number xs) (number slot)) (later k (omega arith) at)
