-- As many slots have cells at most as loans are out.
use Rattle.std.proofs.Common.{◌≡◌, ℕ, zero, suc, ◌+◌, ◌<◌, ◌≤◌, List, [], ◌∷◌, length, Bool, true, false, cond, get_or}
use Rattle.std.proofs.Common.{refl, ap, sym, subst, ◌∙◌, arith}
use Rattle.std.proofs.lemmas.Bool.{ltb-true}
use Rattle.std.proofs.lemmas.List.Sums.{sum_by-cons}
use Rattle.std.specs.Prelude.{nat_lt, slice_get}
use Rattle.std.specs.List.{sum_by}
use Rattle.std.specs.declared.option.Option.{Option}
use Rattle.std.specs.declared.option.Option.TheVariants.{None, Some}
use Rattle.slab.specs.Slab.{get}
use Rattle.iox2_slots.specs.SlotBook.{Book, holders_at}
use Rattle.iox2_contents.specs.SlotContents.{ContentState, has_cells_to_hand_out, open_count}
use Rattle.iox2_connections.specs.Counters.{times}
use Rattle.iox2_connections.proofs.Counts.{times-cons, one_if}
use Rattle.iox2_connections.proofs.MailboxChanges.{both-true}
use Rattle.iox2_domain.specs.Ports.{PublisherFields}
use Rattle.iox2_domain.specs.Fields.{Fields}
use Rattle.iox2_domain.specs.Invariant.{HasParts}
use Rattle.iox2_domain.proofs.lemmas.slots.PublisherBooks.{book-counts}
use Rattle.iox2_domain.proofs.lemmas.slots.SlotCells.{cells_if, cells-read}

-- the numbers above 0, each one less
below : List ℕ → List ℕ
below [] = []
below (zero ∷ xs) = below xs
below (suc n ∷ xs) = n ∷ below xs

-- a number stands there as often as the next one did
times-below : (n : ℕ) (xs : List ℕ) → times n (below xs) ≡ times (suc n) xs
unfolding below
times-below n [] = refl
times-below n (zero ∷ xs) = let none : one_if (suc n) zero ≡ 0 = grind arith in
    omega (arith, times-below n xs, times-cons (suc n) zero xs, none)
times-below n (suc k ∷ xs) = let same : one_if n k ≡ one_if (suc n) (suc k) = grind arith in
    omega (arith, times-below n xs, times-cons n k (below xs), times-cons (suc n) (suc k) xs, same)

-- those that are 0 are left out
length-below : (xs : List ℕ) → length xs ≡ times 0 xs + length (below xs)
unfolding below
length-below [] = omega arith
length-below (zero ∷ xs) = let one : one_if 0 zero ≡ 1 = grind arith in
    omega (arith, length-below xs, times-cons 0 zero xs, one)
length-below (suc k ∷ xs) = let none : one_if 0 (suc k) ≡ 0 = grind arith in
    omega (arith, length-below xs, times-cons 0 (suc k) xs, none)

-- where each index of an element that passes a test stands in a list of numbers, as many pass it at most as the list is
-- long
pub passing-listed : {A : Type 0} (test : A → Bool) (xs : List A) (listed : List ℕ)
    → ((i : ℕ) (x : A) → slice_get xs i ≡ Some x → test x ≡ true → 0 < times i listed)
    → sum_by (λ x. cond (test x) 1 0) xs ≤ length listed
passing-listed test [] listed stands = omega arith
passing-listed test (x ∷ xs) listed stands =
    let rest = passing-listed test xs (below listed)
    (λ i y at passes. let later = stands (suc i) y at passes in omega (arith, later, times-below i listed)) in
    by (test x) refl rest
  where
    by : (t : Bool) → test x ≡ t → sum_by (λ y. cond (test y) 1 0) xs ≤ length (below listed)
        → sum_by (λ y. cond (test y) 1 0) (x ∷ xs) ≤ length listed
    by true passes rest =
        let one : cond {A = ℕ} (test x) 1 0 ≡ 1 = ap (λ t. cond {A = ℕ} t 1 0) passes in
        omega (
          arith,
          rest,
          one,
          stands zero x refl passes,
          length-below listed,
          sum_by-cons (λ y. cond {A = ℕ} (test y) 1 0) x xs,
        )
    by false fails rest =
        let none : cond {A = ℕ} (test x) 1 0 ≡ 0 = ap (λ t. cond {A = ℕ} t 1 0) fails in
        omega (arith, rest, none, length-below listed, sum_by-cons (λ y. cond {A = ℕ} (test y) 1 0) x xs)

module _ {T U : Type 0} (f : Fields T U) (parts : HasParts f) (i : ℕ) (x : PublisherFields)
    (here : get_or f.publishers i None ≡ Some x)
    (cs : List (ContentState T U)) (has : get_or f.contents x.book None ≡ Some cs) where
  -- a slot with cells is among the publisher's loans
  pub open-lent : (slot : ℕ) (content : ContentState T U) → slice_get cs slot ≡ Some content → 0 < length content.cells
      → 0 < times slot x.loans
  open-lent slot content at some =
      (parts.open_loans.at i slot x here
      (subst (λ (n : ℕ). 0 < n) (sym (cells-read f.contents x.book slot (Some cs) has ∙ ap cells_if at)) some)).out

  -- a slot that nobody holds has none
  pub free-closed : (b : Book) → get f.books x.book ≡ Some b → (slot : ℕ) (content : ContentState T U)
      → holders_at b slot ≡ 0 → slice_get cs slot ≡ Some content → content.cells ≡ []
  free-closed b stands slot content free at = by content.cells refl where
    by : (cells : List (Option T)) → content.cells ≡ cells → content.cells ≡ []
    by [] none = none
    by (cell ∷ cells) are =
        let out : 0 < times slot x.loans =
        open-lent slot content at (subst (λ (zs : List (Option T)). 0 < length zs) (sym are) (omega arith)) in
        absurd (omega (arith, out, free, book-counts f parts i x here b stands slot))

  -- so no more slots have cells than the publisher has loans out
  pub open-few : open_count cs ≤ length x.loans
  open-few = passing-listed has_cells_to_hand_out cs x.loans
      (λ slot content at opens. open-lent slot content at
      (ltb-true 0 (length content.cells)
      (both-true (nat_lt 0 content.lists) (nat_lt 0 (length content.cells)) opens).1))
