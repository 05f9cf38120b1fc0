-- Walks over places.
use Rattle.std.proofs.Common.{◌≡◌, ℕ, zero, suc, ◌+◌, ◌<◌, ◌≤◌, true, false, List, [], ◌∷◌, ◌++◌, length, map, drop}
use Rattle.std.proofs.Common.{get_or, slice_set, is_some, refl, ap, sym, ◌∙◌, arith, eqb}
use Rattle.std.proofs.lemmas.List.{drop_more}
use Rattle.std.proofs.lemmas.Bool.{ne_eqb}
use Rattle.std.specs.Prelude.{IsSomeAnd}
use Rattle.std.specs.declared.option.Option.{Option}
use Rattle.std.specs.declared.option.Option.TheVariants.{None, Some}
use Rattle.std.specs.Option.{option_map}
use Rattle.iox2_machine.specs.machine.Places.{lowest_free}
use Rattle.iox2_connections.specs.LookUp.{look_up}
use Rattle.iox2_connections.proofs.LookUps.{look_up-nothing}
use Rattle.iox2_connections.proofs.MailboxChanges.{within_if_some}
use Rattle.iox2_domain.specs.Placed.{placed, lowest_empty}

module _ {A : Type 0} where
  behind : (xs : List (Option A)) (i : ℕ) (o : Option A) → i < length xs → o ≡ get_or xs i o
      → lowest_empty (drop i xs) ≡ lowest_empty (o ∷ drop (i + 1) xs)
  behind xs i o lt at = ap lowest_empty (drop_more xs i o lt) ∙ ap (λ y. lowest_empty (y ∷ drop (i + 1) xs)) (sym at)

  -- past a taken place the lowest free one is one further on
  pub lowest_empty-taken : (xs : List (Option A)) (i : ℕ) (o : Option A) → i < length xs → o ≡ get_or xs i o
      → is_some o ≡ true
      → lowest_empty xs ≡ i + lowest_empty (drop i xs) → lowest_empty xs ≡ (i + 1) + lowest_empty (drop (i + 1) xs)
  lowest_empty-taken xs i None lt at is e = absurd cc
  lowest_empty-taken xs i (Some x) lt at is e = let more : lowest_empty (drop i xs) ≡ suc
      (lowest_empty (drop (i + 1) xs)) = behind xs i (Some x) lt at in omega arith

  -- a place at which nothing stands is the lowest free one, where those before it are taken
  pub lowest_empty-here : (xs : List (Option A)) (i : ℕ) (o : Option A) → i < length xs → o ≡ get_or xs i o
      → is_some o ≡ false
      → lowest_empty xs ≡ i + lowest_empty (drop i xs) → i ≡ lowest_empty xs
  lowest_empty-here xs i (Some x) lt at is e = absurd cc
  lowest_empty-here xs i None lt at is e = let more : lowest_empty (drop i xs) ≡ 0 = behind xs i None lt at in
      omega arith

  -- the lowest free place is at most the first behind the list, and nothing stands there
  pub lowest_empty-low : (xs : List (Option A)) → lowest_empty xs ≤ length xs
  lowest_empty-low [] = omega arith
  lowest_empty-low (None ∷ xs) = omega arith
  lowest_empty-low (Some x ∷ xs) = let low : lowest_empty xs ≤ length xs = lowest_empty-low xs in omega arith

  pub lowest_empty-free : (xs : List (Option A)) → get_or xs (lowest_empty xs) None ≡ None
  lowest_empty-free [] = refl
  lowest_empty-free (None ∷ xs) = refl
  lowest_empty-free (Some x ∷ xs) = lowest_empty-free xs

  -- ids are as far as the ports are
  pub lowest_free-ids : (id : A → ℕ) (xs : List (Option A)) → lowest_free (map (option_map id) xs) ≡ lowest_empty xs
  lowest_free-ids id [] = refl
  lowest_free-ids id (None ∷ xs) = refl
  lowest_free-ids id (Some x ∷ xs) = ap suc (lowest_free-ids id xs)

  pub lowest_empty-map : {B : Type 0} (f : A → B) (xs : List (Option A))
      → lowest_empty (map (option_map f) xs) ≡ lowest_empty xs
  lowest_empty-map f [] = refl
  lowest_empty-map f (None ∷ xs) = refl
  lowest_empty-map f (Some x ∷ xs) = ap suc (lowest_empty-map f xs)

  -- ---- a list that grows

  pub placed-grown : (xs : List (Option A)) (place : ℕ) (x : A) → length xs ≤ place
      → placed (xs ++ None ∷ []) place x ≡ placed xs place x
  placed-grown [] zero x le = refl
  placed-grown [] (suc place) x le = refl
  placed-grown (y ∷ ys) zero x le = absurd (omega arith)
  placed-grown (y ∷ ys) (suc place) x le = ap (λ zs. y ∷ zs) (placed-grown ys place x (omega arith))

  pub placed-within : (xs : List (Option A)) (place : ℕ) (x : A) → place < length xs
      → slice_set xs place (Some x) ≡ placed xs place x
  placed-within [] place x lt = absurd (omega arith)
  placed-within (y ∷ ys) zero x lt = refl
  placed-within (y ∷ ys) (suc place) x lt = ap (λ zs. y ∷ zs) (placed-within ys place x (omega arith))

  -- ---- a search

  -- what stands at no place is not found
  pub look_up-nowhere : (number : A → ℕ) (id : ℕ) (xs : List (Option A))
      → ((k : ℕ) → k < length xs → IsSomeAnd (get_or xs k None) (λ x. number x ≡ id) → ⊥)
      → look_up (λ x. eqb (number x) id) xs ≡ None
  look_up-nowhere number id xs none = look_up-nothing (λ x. eqb (number x) id) xs
      (λ i x at. ne_eqb (number x) id (λ e. none i (within_if_some xs i x at) (rw at e)))
