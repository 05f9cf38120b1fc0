-- Keys without one of them.
use Rattle.std.proofs.Common.{◌≡◌, ◌≢◌, ℕ, zero, suc, Bool, true, false, cond, not, eqb, List, [], ◌∷◌, map, get_or}
use Rattle.std.proofs.Common.{slice_set, Option, None, Some, Contains, refl, ap, sym, ◌∙◌, arith}
use Rattle.std.proofs.lemmas.Bool.{eqb-true, eq-eqb, ne_eqb}
use Rattle.std.proofs.lemmas.Map.Views.{Contains-from_any}
use Rattle.iox2_machine.specs.machine.Numbers.{without}
use Rattle.iox2_machine.specs.machine.Places.{is_port, vacated}
use Rattle.iox2_connections.proofs.ListedNumbers.{contains-from}
use Rattle.iox2_laws.proofs.FilterLemmas.{contains-filter}

module _ (key : ℕ) where
  -- a key that is left is another one, and was there
  pub kept-key : (keys : List (Option ℕ)) (i k : ℕ) → get_or (vacated key keys) i None ≡ Some k
      → (k ≢ key) × (get_or keys i None ≡ Some k)
  kept-key [] zero k e = absurd cc
  kept-key [] (suc i) k e = absurd cc
  kept-key (None ∷ keys) zero k e = absurd cc
  kept-key (Some x ∷ keys) zero k e = by (eqb x key) refl e where
    by : (b : Bool) → eqb x key ≡ b → cond b None (Some x) ≡ Some k
        → (k ≢ key) × (get_or (Some x ∷ keys) zero None ≡ Some k)
    by true is h = absurd (let no : None ≡ Some k = h in cc)
    by false is h =
        let there : Some x ≡ Some k = h in
        let same : x ≡ k = cc in
        (λ here. let no : true ≡ false = sym (eq-eqb x key (same ∙ here)) ∙ is in absurd cc, there)
  kept-key (x ∷ keys) (suc i) k e = kept-key keys i k e

  -- another key is left
  pub keeps-key : (keys : List (Option ℕ)) (i k : ℕ) → k ≢ key → get_or keys i None ≡ Some k
      → get_or (vacated key keys) i None ≡ Some k
  keeps-key [] zero k away e = absurd cc
  keeps-key [] (suc i) k away e = absurd cc
  keeps-key (x ∷ keys) zero k away e =
      ap (λ o. cond (is_port o key) None o) e ∙ ap (λ b. cond b None (Some k)) (ne_eqb k key away)
  keeps-key (x ∷ keys) (suc i) k away e = keeps-key keys i k away e

  -- the same of a list of keys
  pub kept-expired : (xs : List ℕ) (i k : ℕ) → get_or (map Some (without key xs)) i None ≡ Some k
      → (k ≢ key) × (j : ℕ) × (get_or (map Some xs) j None ≡ Some k)
  kept-expired [] zero k e = absurd cc
  kept-expired [] (suc i) k e = absurd cc
  kept-expired (x ∷ xs) i k e = by (eqb x key) refl i e (λ m h. kept-expired xs m k h) where
    by : (b : Bool) → eqb x key ≡ b → (i : ℕ)
        → get_or (map Some (cond (not b) (x ∷ without key xs) (without key xs))) i None ≡ Some k
        → ((m : ℕ) → get_or (map Some (without key xs)) m None ≡ Some k
        → (k ≢ key) × (j : ℕ) × (get_or (map Some xs) j None ≡ Some k))
        → (k ≢ key) × (j : ℕ) × (get_or (map Some (x ∷ xs)) j None ≡ Some k)
    by true is i h later = let rest = later i h in (rest.0, suc rest.1, rest.2)
    by false is zero h later =
        let there : Some x ≡ Some k = h in
        let same : x ≡ k = cc in
        (λ here. let no : true ≡ false = sym (eq-eqb x key (same ∙ here)) ∙ is in absurd cc, zero, there)
    by false is (suc i) h later = let rest = later i h in (rest.0, suc rest.1, rest.2)

  pub keeps-expired : (xs : List ℕ) (k : ℕ) → k ≢ key → Contains xs k → Contains (without key xs) k
  keeps-expired xs k away has =
      Contains-from_any {eq = λ (a b : ℕ). eqb b a} (λ a b e. sym (eqb-true b a e)) k (without key xs)
      (contains-filter (λ m. not (eqb m key)) xs k (contains-from xs k has) (ap not (ne_eqb k key away)))

  -- ---- a key that is cleared at its place

  -- where it stands nowhere all keys stay
  pub not-there : (keys : List (Option ℕ)) → ((i : ℕ) → get_or keys i None ≡ Some key → ⊥) → keys ≡ vacated key keys
  not-there [] none = refl
  not-there (None ∷ keys) none = ap (λ (xs : List (Option ℕ)). None ∷ xs) (not-there keys (λ i at. none (suc i) at))
  not-there (Some k ∷ keys) none = by (eqb k key) refl (not-there keys (λ i at. none (suc i) at)) where
    by : (b : Bool) → eqb k key ≡ b → keys ≡ vacated key keys → Some k ∷ keys ≡ cond b None (Some k) ∷ vacated key keys
    by true same later = absurd (none zero (ap Some (eqb-true k key same)))
    by false apart later = ap (λ (xs : List (Option ℕ)). Some k ∷ xs) later

  -- where it stands at one place alone that is cleared
  pub cleared-at : (keys : List (Option ℕ)) (place : ℕ) → get_or keys place None ≡ Some key
      → ((i : ℕ) → get_or keys i None ≡ Some key → i ≡ place) → slice_set keys place None ≡ vacated key keys
  cleared-at [] zero at only = refl
  cleared-at [] (suc place) at only = refl
  cleared-at (x ∷ keys) zero at only =
      ap (λ (xs : List (Option ℕ)). None ∷ xs)
      (not-there keys (λ i at_i. let no : suc i ≡ zero = only (suc i) at_i in absurd cc))
      ∙ ap (λ b. cond b None (Some key) ∷ vacated key keys) (sym (eq-eqb key key refl))
      ∙ ap (λ o. cond (is_port o key) None o ∷ vacated key keys) (sym at)
  cleared-at (None ∷ keys) (suc place) at only =
      ap (λ (xs : List (Option ℕ)). None ∷ xs)
      (cleared-at keys place at (λ i at_i. let e : suc i ≡ suc place = only (suc i) at_i in omega (arith, e)))
  cleared-at (Some k ∷ keys) (suc place) at only = by (eqb k key) refl
      (cleared-at keys place at (λ i at_i. let e : suc i ≡ suc place = only (suc i) at_i in omega (arith, e))) where
        by : (b : Bool) → eqb k key ≡ b → slice_set keys place None ≡ vacated key keys
            → Some k ∷ slice_set keys place None ≡ cond b None (Some k) ∷ vacated key keys
        by true same later = let no : zero ≡ suc place = only zero (ap Some (eqb-true k key same)) in absurd cc
        by false apart later = ap (λ (xs : List (Option ℕ)). Some k ∷ xs) later
