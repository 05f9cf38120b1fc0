-- As many connections and books are kept as there are.
use Rattle.std.proofs.Common.{◌≡◌, ℕ, ◌+◌, cond, List, [], ◌∷◌, map, refl, Option, None, Some}
use Rattle.std.specs.List.{count_by, fold}
use Rattle.std.specs.Option.{is_some, option_map}
use Rattle.iox2_slots.specs.SlotBook.{Book}
use Rattle.iox2_contents.specs.SlotContents.{ContentState}
use Rattle.iox2_domain.specs.Fields.{kept_book, map_from}

-- n and how many there are
abbrev counted : {A : Type 0} → (n : ℕ) → List (Option A) → ℕ
counted {A} n xs = fold (λ (a : ℕ) (x : Option A). a + cond (is_some x) 1 0) n xs

counted-mapped : {A B : Type 0} (f : A → B) (n : ℕ) (xs : List (Option A))
    → counted n xs ≡ counted n (map (option_map f) xs)
counted-mapped f n [] = refl
counted-mapped f n (None ∷ xs) = counted-mapped f (n + 0) xs
counted-mapped f n (Some x ∷ xs) = counted-mapped f (n + 1) xs

-- what some are mapped to are as many
pub count-mapped : {A B : Type 0} (f : A → B) (xs : List (Option A))
    → count_by is_some xs ≡ count_by is_some (map (option_map f) xs)
count-mapped f xs = counted-mapped f 0 xs

module _ {T U : Type 0} (contents : List (Option (List (ContentState T U)))) where
  counted-kept_books : (n start : ℕ) (books : List (Option Book))
      → counted n books ≡ counted n (map_from (kept_book contents) start books)
  counted-kept_books n start [] = refl
  counted-kept_books n start (None ∷ books) = counted-kept_books (n + 0) (start + 1) books
  counted-kept_books n start (Some book ∷ books) = counted-kept_books (n + 1) (start + 1) books

  -- as many books are kept as there are
  pub count-kept_books : (start : ℕ) (books : List (Option Book))
      → count_by is_some books ≡ count_by is_some (map_from (kept_book contents) start books)
  count-kept_books start books = counted-kept_books 0 start books
