-- Lists of places.
use Rattle.std.proofs.Common.{◌≡◌, ℕ, zero, suc, ◌+◌, ◌≤◌, ◌<◌, Bool, true, false, cond, List, [], ◌∷◌, length, drop}
use Rattle.std.proofs.Common.{max, refl, sym, ap, subst, ◌∙◌, arith, eqb, ltb, Option, None, Some, ◌⊎◌, inl, inr}
use Rattle.std.proofs.Common.{⊎_elim}
use Rattle.std.proofs.Math.Dec.{eqb-suc-zero, eqb-zero-suc, eqb-suc-suc}
use Rattle.std.proofs.lemmas.Bool.{eqb-true, eqb-false, eq-eqb, ltb-true, true≢false, or_left}
use Rattle.std.proofs.lemmas.Option.{none-some, same_Some, cond_some}
use Rattle.std.proofs.lemmas.List.{length-map}
use Rattle.iox2_laws.proofs.NumberLemmas.{absent_from, contains_in_cons, contains_later}
use Rattle.iox2_machine.specs.machine.Numbers.{contains, IsOnce}
use Rattle.iox2_machine.specs.machine.Places.{occupant, occupants, is_port, lowest_free, free_place, set_place, vacated}
use Rattle.iox2_machine.specs.machine.Places.{places_kept}
use Rattle.iox2_machine.specs.machine.WellFormed.{LeadsTo, IsInjective}

-- after a place was set, that place has the new value and each other its old one
pub occupant-set_place : (xs : List (Option ℕ)) (place : ℕ) (x : Option ℕ) (i : ℕ)
    → occupant (set_place xs place x) i ≡ cond (eqb i place) x (occupant xs i)
occupant-set_place [] zero x zero = refl
occupant-set_place [] zero x (suc i) = rw (eqb-suc-zero i) refl
occupant-set_place [] (suc place) x zero = rw (eqb-zero-suc place) refl
occupant-set_place [] (suc place) x (suc i) = rw (eqb-suc-suc i place) (occupant-set_place [] place x i)
occupant-set_place (y ∷ ys) zero x zero = refl
occupant-set_place (y ∷ ys) zero x (suc i) = rw (eqb-suc-zero i) refl
occupant-set_place (y ∷ ys) (suc place) x zero = rw (eqb-zero-suc place) refl
occupant-set_place (y ∷ ys) (suc place) x (suc i) = rw (eqb-suc-suc i place) (occupant-set_place ys place x i)

-- a list grows just so far that the place is within it
pub length-set_place : (xs : List (Option ℕ)) (place : ℕ) (x : Option ℕ)
    → length (set_place xs place x) ≡ max (length xs) (suc place)
length-set_place [] zero x = omega arith
length-set_place [] (suc place) x = omega (arith, length-set_place [] place x)
length-set_place (y ∷ ys) zero x = omega arith
length-set_place (y ∷ ys) (suc place) x = omega (arith, length-set_place ys place x)

-- a list stays within a bound where the place that is set is below it
pub length-set_place_le : (xs : List (Option ℕ)) (place : ℕ) (x : Option ℕ) {most : ℕ} → place < most → length xs ≤ most
    → length (set_place xs place x) ≤ most
length-set_place_le xs place x low bound = omega (arith, length-set_place xs place x)

-- where something stands is within the list
pub occupied_within : (xs : List (Option ℕ)) (place id : ℕ) → occupant xs place ≡ Some id → place < length xs
occupied_within [] place id h = absurd (none-some id h)
occupied_within (x ∷ xs) zero id h = omega arith
occupied_within (x ∷ xs) (suc place) id h = omega (arith, occupied_within xs place id h)

-- one place of a list in which a port's place is freed
vacated_place : (id : ℕ) (x : Option ℕ) (other : ℕ) → cond (is_port x id) None x ≡ Some other
    → (x ≡ Some other) × (eqb other id ≡ false)
vacated_place id None other h = absurd (none-some other h)
vacated_place id (Some k) other h =
    elim (eqb k id) as (λ b. eqb k id ≡ b → cond b None (Some k) ≡ Some other
    → (Some k ≡ Some other) × (eqb other id ≡ false)) [
      | true ↦ λ _ h. absurd (none-some other h)
      | false ↦ λ e h. (h, subst (λ j. eqb j id ≡ false) (same_Some k other h) e)
    ] refl h

-- who stands somewhere after a port's place was freed stood there before, and is another port
pub occupant-vacated : (id : ℕ) (xs : List (Option ℕ)) (i other : ℕ) → occupant (vacated id xs) i ≡ Some other
    → (occupant xs i ≡ Some other) × (eqb other id ≡ false)
occupant-vacated id [] i other h = absurd (none-some other h)
occupant-vacated id (x ∷ xs) zero other h = vacated_place id x other h
occupant-vacated id (x ∷ xs) (suc i) other h = occupant-vacated id xs i other h

-- another port than the one whose place is freed stays where it stands
pub vacated_keeps : (id : ℕ) (xs : List (Option ℕ)) (i other : ℕ) → occupant xs i ≡ Some other → eqb other id ≡ false
    → occupant (vacated id xs) i ≡ Some other
vacated_keeps id [] i other h apart = h
vacated_keeps id (x ∷ xs) zero other h apart = rw h (rw apart refl)
vacated_keeps id (x ∷ xs) (suc i) other h apart = vacated_keeps id xs i other h apart

-- the list is as long as before a place was freed
pub length-vacated : (id : ℕ) (xs : List (Option ℕ)) → length (vacated id xs) ≡ length xs
length-vacated id xs = length-map xs (λ x. cond (is_port x id) None x)

-- one place of a list that keeps the ports that pass a test
place_of : (test : ℕ → Bool) (k id : ℕ) → cond (test k) (Some k) None ≡ Some id → (Some k ≡ Some id) × (test id ≡ true)
place_of test k id h = let parts : (test k ≡ true) × (k ≡ id) = cond_some (test k) k id h in
    (ap (λ j. Some j) parts.1, ap test (sym parts.1) ∙ parts.0)

-- who is kept stood there before, and passes the test
pub occupant-places_kept : (test : ℕ → Bool) (xs : List (Option ℕ)) (i id : ℕ)
    → occupant (places_kept test xs) i ≡ Some id → (occupant xs i ≡ Some id) × (test id ≡ true)
occupant-places_kept test [] i id h = absurd (none-some id h)
occupant-places_kept test (None ∷ xs) zero id h = absurd (none-some id h)
occupant-places_kept test (None ∷ xs) (suc i) id h = occupant-places_kept test xs i id h
occupant-places_kept test (Some k ∷ xs) zero id h = place_of test k id h
occupant-places_kept test (Some k ∷ xs) (suc i) id h = occupant-places_kept test xs i id h

-- who passes the test stays where it stands
pub places_kept_keeps : (test : ℕ → Bool) (xs : List (Option ℕ)) (i id : ℕ) → occupant xs i ≡ Some id → test id ≡ true
    → occupant (places_kept test xs) i ≡ Some id
places_kept_keeps test [] i id h k = h
places_kept_keeps test (None ∷ xs) zero id h k = h
places_kept_keeps test (None ∷ xs) (suc i) id h k = places_kept_keeps test xs i id h k
places_kept_keeps test (Some j ∷ xs) zero id h k = rw (ap test (same_Some j id h) ∙ k) h
places_kept_keeps test (Some j ∷ xs) (suc i) id h k = places_kept_keeps test xs i id h k

-- the list is as long as before ports were left out
pub length-places_kept : (test : ℕ → Bool) (xs : List (Option ℕ)) → length (places_kept test xs) ≡ length xs
length-places_kept test [] = refl
length-places_kept test (None ∷ xs) = ap suc (length-places_kept test xs)
length-places_kept test (Some k ∷ xs) = ap suc (length-places_kept test xs)

-- at the lowest free place nothing stands
pub nothing_at_lowest_free : (xs : List (Option ℕ)) → occupant xs (lowest_free xs) ≡ None
nothing_at_lowest_free [] = refl
nothing_at_lowest_free (None ∷ xs) = refl
nothing_at_lowest_free (Some k ∷ xs) = nothing_at_lowest_free xs

-- a free place that was found is below the limit, and nothing stands there
pub free_place_is : (limit : ℕ) (xs : List (Option ℕ)) (place : ℕ) → free_place limit xs ≡ Some place
    → (place < limit) × (occupant xs place ≡ None)
free_place_is limit xs place h =
    let parts : (ltb (lowest_free xs) limit ≡ true) × (lowest_free xs ≡ place) =
    cond_some (ltb (lowest_free xs) limit) (lowest_free xs) place h in
    let low : lowest_free xs < limit = ltb-true (lowest_free xs) limit parts.0 in
    (omega (arith, parts.1), ap (occupant xs) (sym parts.1) ∙ nothing_at_lowest_free xs)

-- where the port was found, it stands
pub is_port-true : (o : Option ℕ) (id : ℕ) → is_port o id ≡ true → o ≡ Some id
is_port-true None id h = absurd (true≢false (sym h))
is_port-true (Some k) id h = ap (λ j. Some j) (eqb-true k id h)

-- where the port wasn't found, it doesn't stand
pub is_port-false : (o : Option ℕ) (id : ℕ) → is_port o id ≡ false → o ≡ Some id → ⊥
is_port-false None id h e = none-some id e
is_port-false (Some k) id h e = eqb-false k id h (same_Some k id e)

-- ---- who stands somewhere

-- a port to which an end leads is among those that stand somewhere
pub contains-occupants : (xs : List (Option ℕ)) (id : ℕ) → LeadsTo xs id → contains (occupants xs) id ≡ true
contains-occupants xs id h = at xs h.0 h.1
  where
    at : (xs : List (Option ℕ)) (place : ℕ) → occupant xs place ≡ Some id → contains (occupants xs) id ≡ true
    at [] place h = absurd (none-some id h)
    at (None ∷ xs) zero h = absurd (none-some id h)
    at (None ∷ xs) (suc place) h = at xs place h
    at (Some k ∷ xs) zero h = or_left (eqb k id) (contains (occupants xs) id) (eq-eqb k id (same_Some k id h))
    at (Some k ∷ xs) (suc place) h = contains_later k id (occupants xs) (at xs place h)

-- to a port that stands somewhere an end leads
pub leads_to : (xs : List (Option ℕ)) (id : ℕ) → contains (occupants xs) id ≡ true → LeadsTo xs id
leads_to [] id h = absurd (true≢false (sym h))
leads_to (None ∷ xs) id h = let rest : LeadsTo xs id = leads_to xs id h in (suc rest.0, rest.1)
leads_to (Some k ∷ xs) id h =
    ⊎_elim (λ e. (zero, ap (λ j. Some j) e)) (λ later. let rest : LeadsTo xs id = leads_to xs id later in
    (suc rest.0, rest.1)) (contains_in_cons k id (occupants xs) h)

-- no more ports stand somewhere than there are places
pub length-occupants_le : (xs : List (Option ℕ)) → length (occupants xs) ≤ length xs
length-occupants_le [] = omega arith
length-occupants_le (None ∷ xs) = omega (arith, length-occupants_le xs)
length-occupants_le (Some k ∷ xs) = omega (arith, length-occupants_le xs)

-- a list's end has no two ends that lead to the same port where the list hasn't
pub injective_rest : (x : Option ℕ) (xs : List (Option ℕ)) → IsInjective (x ∷ xs) → IsInjective xs
injective_rest x xs apart i j id e f = let same : suc i ≡ suc j = apart (suc i) (suc j) id e f in omega arith

-- no port stands twice where no two ends lead to one port
pub IsOnce-occupants : (xs : List (Option ℕ)) → IsInjective xs → IsOnce (occupants xs)
IsOnce-occupants [] apart = tt
IsOnce-occupants (None ∷ xs) apart = IsOnce-occupants xs (injective_rest None xs apart)
IsOnce-occupants (Some k ∷ xs) apart = (
  absent_from (occupants xs) k (λ h.
      let rest : LeadsTo xs k = leads_to xs k h in
      let same : zero ≡ suc rest.0 = apart zero (suc rest.0) k refl rest.1 in
      omega arith),
  IsOnce-occupants xs (injective_rest (Some k) xs apart),
)

-- what stands in a list's end stands in the list
-- who stands behind a place stands there once
pub once-behind : (k : ℕ) (xs : List (Option ℕ)) → IsOnce (occupants xs) → IsOnce (occupants (drop k xs))
once-behind zero xs once = once
once-behind (suc k) [] once = once
once-behind (suc k) (None ∷ xs) once = once-behind k xs once
once-behind (suc k) (Some q ∷ xs) once = once-behind k xs once.1

pub occupant-drop : (k : ℕ) (xs : List (Option ℕ)) (i : ℕ) → occupant (drop k xs) i ≡ occupant xs (k + i)
occupant-drop zero xs i = let e : i ≡ zero + i = omega arith in ap (occupant xs) e
occupant-drop (suc k) [] i = refl
occupant-drop (suc k) (x ∷ xs) i = let e : suc (k + i) ≡ suc k + i = omega arith in
    occupant-drop k xs i ∙ ap (occupant (x ∷ xs)) e

-- ---- ends that are set

-- an end found after one was set is the new one, or it was there at another place
pub found_set : (xs : List (Option ℕ)) (place : ℕ) (x : Option ℕ) (i id : ℕ)
    → occupant (set_place xs place x) i ≡ Some id
    → ((i ≡ place) × (x ≡ Some id)) ⊎ ((eqb i place ≡ false) × (occupant xs i ≡ Some id))
found_set xs place x i id h =
    elim (eqb i place) as (λ b. eqb i place ≡ b → cond b x (occupant xs i) ≡ Some id
    → ((i ≡ place) × (x ≡ Some id)) ⊎ ((eqb i place ≡ false) × (occupant xs i ≡ Some id))) [
      | true ↦ λ e h. inl (eqb-true i place e, h)
      | false ↦ λ e h. inr (e, h)
    ] refl (sym (occupant-set_place xs place x i) ∙ h)

-- no two ends lead to one port after an end was removed
pub injective_removed : (xs : List (Option ℕ)) (place : ℕ) → IsInjective xs → IsInjective (set_place xs place None)
injective_removed xs place apart i j id e f =
    ⊎_elim (λ gone. absurd (none-some id gone.1))
    (λ old. ⊎_elim (λ gone. absurd (none-some id gone.1)) (λ old'. apart i j id old.1 old'.1)
    (found_set xs place None j id f))
    (found_set xs place None i id e)

-- no two ends lead to one port after one was set to a port that stood nowhere else
pub injective_set : (xs : List (Option ℕ)) (place id : ℕ) → IsInjective xs
    → ((i : ℕ) → occupant xs i ≡ Some id → i ≡ place) → IsInjective (set_place xs place (Some id))
injective_set xs place id apart new i j other e f =
    ⊎_elim
    (λ here. ⊎_elim
    (λ here'. here.0 ∙ sym here'.0)
    (λ old'. here.0 ∙ sym (new j (old'.1 ∙ sym here.1)))
    (found_set xs place (Some id) j other f))
    (λ old. ⊎_elim
    (λ here'. new i (old.1 ∙ sym here'.1) ∙ sym here'.0)
    (λ old'. apart i j other old.1 old'.1)
    (found_set xs place (Some id) j other f))
    (found_set xs place (Some id) i other e)

-- no two ends lead to one port after ports were left out
pub injective_places_kept : (test : ℕ → Bool) (xs : List (Option ℕ)) → IsInjective xs
    → IsInjective (places_kept test xs)
injective_places_kept test xs apart i j id e f =
    apart i j id (occupant-places_kept test xs i id e).0 (occupant-places_kept test xs j id f).0
