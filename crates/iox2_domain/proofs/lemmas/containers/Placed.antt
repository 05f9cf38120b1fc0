-- A record is put at a free place of a list of places.
use Rattle.std.proofs.Common.{◌≡◌, ◌≢◌, ℕ, zero, suc, List, [], ◌∷◌, map, get_or, refl, ap, ◌∙◌}
use Rattle.std.specs.declared.option.Option.{Option}
use Rattle.std.specs.declared.option.Option.TheVariants.{None, Some}
use Rattle.std.specs.Option.{option_map}
use Rattle.iox2_machine.specs.machine.Places.{set_place}
use Rattle.iox2_domain.specs.Placed.{placed}

module _ {A : Type 0} (x : A) where
  pub placed-here : (xs : List (Option A)) (place : ℕ) → get_or (placed xs place x) place None ≡ Some x
  placed-here [] zero = refl
  placed-here [] (suc place) = placed-here [] place
  placed-here (y ∷ ys) zero = refl
  placed-here (y ∷ ys) (suc place) = placed-here ys place

  pub placed-others : (xs : List (Option A)) (place i : ℕ) → i ≢ place
      → get_or (placed xs place x) i None ≡ get_or xs i None
  placed-others [] zero zero away = absurd (away refl)
  placed-others [] zero (suc i) away = refl
  placed-others [] (suc place) zero away = refl
  placed-others [] (suc place) (suc i) away = placed-others [] place i (λ e. away (ap suc e)) ∙ nothing i where
    nothing : (i : ℕ) → get_or {A = Option A} [] i None ≡ None
    nothing zero = refl
    nothing (suc i) = refl
  placed-others (y ∷ ys) zero zero away = absurd (away refl)
  placed-others (y ∷ ys) zero (suc i) away = refl
  placed-others (y ∷ ys) (suc place) zero away = refl
  placed-others (y ∷ ys) (suc place) (suc i) away = placed-others ys place i (λ e. away (ap suc e))

  -- views are placed as their records are
  pub map-placed : {B : Type 0} (f : A → B) (xs : List (Option A)) (place : ℕ)
      → map (option_map f) (placed xs place x) ≡ placed (map (option_map f) xs) place (f x)
  map-placed f [] zero = refl
  map-placed f [] (suc place) = ap (λ ys. None ∷ ys) (map-placed f [] place)
  map-placed f (y ∷ ys) zero = refl
  map-placed f (y ∷ ys) (suc place) = ap (λ zs. option_map f y ∷ zs) (map-placed f ys place)

-- the machine places ids so
pub placed-ids : (id : ℕ) (xs : List (Option ℕ)) (place : ℕ) → placed xs place id ≡ set_place xs place (Some id)
placed-ids id [] zero = refl
placed-ids id [] (suc place) = ap (λ ys. None ∷ ys) (placed-ids id [] place)
placed-ids id (y ∷ ys) zero = refl
placed-ids id (y ∷ ys) (suc place) = ap (λ zs. y ∷ zs) (placed-ids id ys place)
