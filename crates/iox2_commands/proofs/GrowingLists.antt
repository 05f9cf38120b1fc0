-- Lists that grow at their end.
use Rattle.std.proofs.Common.{◌≡◌, ℕ, zero, suc, List, [], ◌∷◌, ◌++◌, ◌<◌, length, refl, ap, arith, Some, ◌⊎◌, inl, inr}
use Rattle.std.proofs.Common.{⊎_elim}
use Rattle.std.specs.Prelude.{slice_get}
use Rattle.std.proofs.lemmas.Option.{none-some, same_Some}

-- what is found in the longer list was there, or it is the last
pub old_or_last : {A : Type 0} (xs : List A) (x : A) (i : ℕ) (a : A) → slice_get (xs ++ x ∷ []) i ≡ Some a
    → (slice_get xs i ≡ Some a) ⊎ ((i ≡ length xs) × (x ≡ a))
old_or_last [] x zero a e = inr (refl, same_Some x a e)
old_or_last [] x (suc i) a e = absurd (none-some a e)
old_or_last (y ∷ xs) x zero a e = inl e
old_or_last (y ∷ xs) x (suc i) a e =
    ⊎_elim (λ old. inl old) (λ last. inr (ap suc last.0, last.1)) (old_or_last xs x i a e)

-- what was found stays where it is
pub found_earlier : {A : Type 0} (xs ys : List A) (i : ℕ) (a : A) → slice_get xs i ≡ Some a
    → slice_get (xs ++ ys) i ≡ Some a
found_earlier [] ys i a e = absurd (none-some a e)
found_earlier (y ∷ xs) ys zero a e = e
found_earlier (y ∷ xs) ys (suc i) a e = found_earlier xs ys i a e

-- what is found stands below the length
pub found_below : {A : Type 0} (xs : List A) (i : ℕ) (a : A) → slice_get xs i ≡ Some a → i < length xs
found_below [] i a e = absurd (none-some a e)
found_below (x ∷ xs) zero a e = omega arith
found_below (x ∷ xs) (suc i) a e = let low : i < length xs = found_below xs i a e in omega arith

-- the last stands behind all others
pub found_last : {A : Type 0} (xs : List A) (x : A) → slice_get (xs ++ x ∷ []) (length xs) ≡ Some x
found_last [] x = refl
found_last (y ∷ xs) x = found_last xs x

-- the list is one longer
pub longer : {A : Type 0} (xs : List A) (x : A) → length (xs ++ x ∷ []) ≡ suc (length xs)
longer [] x = refl
longer (y ∷ xs) x = ap suc (longer xs x)
