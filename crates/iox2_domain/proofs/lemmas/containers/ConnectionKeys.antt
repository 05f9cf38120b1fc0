-- A key is set at a place.
use Rattle.std.proofs.Common.{◌≡◌, ◌≢◌, ◌<◌, ℕ, zero, suc, List, [], ◌∷◌, length, map, ◌⊎◌, get_or, slice_set, refl, ap}
use Rattle.std.proofs.Common.{sym, ◌∙◌, inl, inr, arith}
use Rattle.std.proofs.lemmas.Bool.{cases_eq}
use Rattle.std.specs.declared.option.Option.{Option}
use Rattle.std.specs.declared.option.Option.TheVariants.{None, Some}
use Rattle.iox2_machine.specs.machine.Places.{set_place}
use Rattle.iox2_domain.specs.Placed.{placed}

-- a key is put at its place as a record is
pub placed-sets : (xs : List (Option ℕ)) (place key : ℕ) → placed xs place key ≡ set_place xs place (Some key)
placed-sets [] zero key = refl
placed-sets [] (suc place) key = ap (λ zs. None ∷ zs) (placed-sets [] place key)
placed-sets (y ∷ ys) zero key = refl
placed-sets (y ∷ ys) (suc place) key = ap (λ zs. y ∷ zs) (placed-sets ys place key)

-- what stands at the place then
pub set_place-here : (xs : List (Option ℕ)) (place : ℕ) (x : Option ℕ) → get_or (set_place xs place x) place None ≡ x
set_place-here [] zero x = refl
set_place-here [] (suc place) x = set_place-here [] place x
set_place-here (y ∷ ys) zero x = refl
set_place-here (y ∷ ys) (suc place) x = set_place-here ys place x

-- and at the others
pub set_place-others : (xs : List (Option ℕ)) (place : ℕ) (x : Option ℕ) (i : ℕ) → i ≢ place
    → get_or (set_place xs place x) i None ≡ get_or xs i None
set_place-others [] zero x zero away = absurd (away refl)
set_place-others [] zero x (suc i) away = nothing i where
  nothing : (i : ℕ) → get_or {A = Option ℕ} [] i None ≡ None
  nothing zero = refl
  nothing (suc i) = refl
set_place-others [] (suc place) x zero away = refl
set_place-others [] (suc place) x (suc i) away = set_place-others [] place x i (λ e. away (ap suc e)) ∙ nothing i where
  nothing : (i : ℕ) → get_or {A = Option ℕ} [] i None ≡ None
  nothing zero = refl
  nothing (suc i) = refl
set_place-others (y ∷ ys) zero x zero away = absurd (away refl)
set_place-others (y ∷ ys) zero x (suc i) away = refl
set_place-others (y ∷ ys) (suc place) x zero away = refl
set_place-others (y ∷ ys) (suc place) x (suc i) away = set_place-others ys place x i (λ e. away (ap suc e))

-- what keys lead to, with another key
pub map-set_place : (g : Option ℕ → Option ℕ) → g None ≡ None → (xs : List (Option ℕ)) (place : ℕ) (x : Option ℕ)
    → map g (set_place xs place x) ≡ set_place (map g xs) place (g x)
map-set_place g none [] zero x = refl
map-set_place g none [] (suc place) x = λ i. none i ∷ map-set_place g none [] place x i
map-set_place g none (y ∷ ys) zero x = refl
map-set_place g none (y ∷ ys) (suc place) x = ap (λ zs. g y ∷ zs) (map-set_place g none ys place x)

-- a key at a place where there was none takes no other away
pub set_place-keeps : (xs : List (Option ℕ)) (place key : ℕ) → get_or xs place None ≡ None
    → (i k : ℕ) → get_or xs i None ≡ Some k → get_or (set_place xs place (Some key)) i None ≡ Some k
set_place-keeps xs place key none i k at =
    set_place-others xs place (Some key) i
    (λ here. let no : None ≡ Some k = sym none ∙ sym (ap (λ (n : ℕ). get_or xs n None) here) ∙ at in absurd cc) ∙ at

-- a key that is there is the one that was set, or was there before
pub set_place-stood : (xs : List (Option ℕ)) (place key i k : ℕ)
    → get_or (set_place xs place (Some key)) i None ≡ Some k → ((i ≡ place) × (k ≡ key)) ⊎ (get_or xs i None ≡ Some k)
set_place-stood xs place key i k at = elim (cases_eq i place) [
  | inl here ↦
      let there : Some key ≡ Some k = sym (set_place-here xs place (Some key))
      ∙ sym (ap (λ (n : ℕ). get_or (set_place xs place (Some key)) n None) here) ∙ at in
      let is : k ≡ key = cc in
      inl (here, is)
  | inr away ↦ inr (sym (set_place-others xs place (Some key) i away) ∙ at)
]

-- a place within the list is written
pub set_place-within : (xs : List (Option ℕ)) (place : ℕ) (x : Option ℕ) → place < length xs
    → slice_set xs place x ≡ set_place xs place x
set_place-within [] place x low = absurd (omega arith)
set_place-within (y ∷ ys) zero x low = refl
set_place-within (y ∷ ys) (suc place) x low = ap (λ zs. y ∷ zs) (set_place-within ys place x (omega arith))
