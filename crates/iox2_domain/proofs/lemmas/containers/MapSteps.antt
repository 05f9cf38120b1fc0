-- A loop that changes each element of a list.
use Rattle.std.proofs.Common.{◌≡◌, ℕ, zero, suc, ◌+◌, ◌<◌, List, [], ◌∷◌, ◌++◌, map, take, drop, length, get_or}
use Rattle.std.proofs.Common.{slice_set, refl, ap, sym, ◌∙◌, add-one, arith}

module _ {A : Type 0} (f : A → A) where
  -- the list with its first i elements changed
  abbrev pub front_changed : (i : ℕ) → List A → List A
  front_changed i xs = map f (take i xs) ++ drop i xs

  next : (xs : List A) (i : ℕ) (x : A) → i < length xs
      → slice_set (front_changed i xs) i (f (get_or (front_changed i xs) i x)) ≡ front_changed (suc i) xs
  next [] i x lt = absurd (omega arith)
  next (y ∷ ys) zero x lt = refl
  next (y ∷ ys) (suc i) x lt = ap (λ zs. f y ∷ zs) (next ys i x (omega arith))

  -- one element more is changed
  pub front_changed-next : (xs ys : List A) (i : ℕ) (x y : A) → ys ≡ front_changed i xs → i < length xs
      → y ≡ f (get_or ys i x)
      → slice_set ys i y ≡ front_changed (i + 1) xs
  front_changed-next xs ys i x y e lt is =
      ap (λ v. slice_set ys i v) is
      ∙ ap (λ zs. slice_set zs i (f (get_or zs i x))) e
      ∙ next xs i x lt
      ∙ ap (λ k. front_changed k xs) (sym (add-one i))
