-- Lists behind a first one, of which one comes to the end or goes from there.
use Rattle.std.proofs.Common.{◌≡◌, ◌<◌, ◌≤◌, ℕ, Option, Some, List, [], ◌∷◌, ◌++◌, length, Vec, Global, vec_capacity}
use Rattle.std.proofs.Common.{refl, ap, subst, arith}
use Rattle.std.proofs.lemmas.List.Elements.{All-pop, All-push}
use Rattle.iox2_contents.specs.SpareLists.{FirstAnd, of_first}

-- the list is empty, and long enough for as many cells as are shown, and for two
abbrev pub IsSpare : {T : Type 0} → (shown list : Vec (Option T) Global) → Type 0
IsSpare shown list = (list.items ≡ []) × (length shown.items ≤ vec_capacity list) × (1 < vec_capacity list)

module _ {A : Type 0} (P : A → Type 0) (Q : A → A → Type 0) where
  pub FirstAnd-push : (xs : List A) (y : A) → FirstAnd P Q xs
      → ((x : A) → ((count : A → ℕ) → of_first count xs ≡ count x) → Q x y) → FirstAnd P Q (xs ++ y ∷ [])
  FirstAnd-push [] y first behind = absurd first
  FirstAnd-push (x ∷ xs) y first behind = (first.0, All-push (Q x) xs y first.1 (behind x (λ count. refl)))

  pub FirstAnd-pop : (xs ys : List A) (y : A) → xs ≡ ys ++ y ∷ [] → 0 < length ys → FirstAnd P Q xs
      → FirstAnd P Q ys
      × ((x : A) × Q x y × ((count : A → ℕ) → (of_first count xs ≡ count x) × (of_first count ys ≡ count x)))
  FirstAnd-pop xs [] y is some first = absurd (omega (arith, some))
  FirstAnd-pop xs (x ∷ ys) y is some first =
      let all : FirstAnd P Q (x ∷ ys ++ y ∷ []) = subst (FirstAnd P Q) is first in
      let each = All-pop (Q x) (ys ++ y ∷ []) ys (Some y) refl all.1 in
      ((all.0, each.0), (x, each.1, λ count. (ap (of_first count) is, refl)))

-- what is counted of the first one stays
pub of_first-push : {A : Type 0} (count : A → ℕ) (xs : List A) (y : A) → 0 < length xs
    → of_first count (xs ++ y ∷ []) ≡ of_first count xs
of_first-push count [] y some = absurd (omega (arith, some))
of_first-push count (x ∷ xs) y some = refl
