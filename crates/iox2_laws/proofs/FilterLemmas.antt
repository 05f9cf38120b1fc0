-- Lists of which some elements stay.
use Rattle.std.proofs.Common.{◌≡◌, ℕ, suc, ◌≤◌, Bool, true, false, cond, ◌&&◌, List, [], ◌∷◌, length, refl, sym, ap}
use Rattle.std.proofs.Common.{◌∙◌, arith, eqb, ⊎_elim}
use Rattle.std.specs.List.{filter, list_all}
use Rattle.std.proofs.lemmas.Bool.{true≢false, or_left, or_right, or_cases, eqb-true, and_parts}
use Rattle.iox2_laws.proofs.NumberLemmas.{absent_from}
use Rattle.iox2_machine.specs.machine.Numbers.{contains, IsOnce}

-- What is left by a filter stood there before, and passes.
pub contains_in_filter : (test : ℕ → Bool) (ns : List ℕ) (n : ℕ) → contains (filter test ns) n ≡ true
    → (contains ns n ≡ true) × (test n ≡ true)
contains_in_filter test [] n h = absurd (true≢false (sym h))
contains_in_filter test (k ∷ ns) n h =
    elim (test k) as (λ b. test k ≡ b → contains (cond b (k ∷ filter test ns) (filter test ns)) n ≡ true
    → (contains (k ∷ ns) n ≡ true) × (test n ≡ true)) [
      | true ↦ λ e h. ⊎_elim
          (λ kn. (or_left (eqb k n) (contains ns n) kn, ap test (sym (eqb-true k n kn)) ∙ e))
          (λ r. let old : (contains ns n ≡ true) × (test n ≡ true) = contains_in_filter test ns n r in
          (or_right (eqb k n) (contains ns n) old.0, old.1))
          (or_cases (eqb k n) (contains (filter test ns) n) h)
      | false ↦ λ _ r. let old : (contains ns n ≡ true) × (test n ≡ true) = contains_in_filter test ns n r in
          (or_right (eqb k n) (contains ns n) old.0, old.1)
    ] refl h

-- What passes a filter is left.
pub contains-filter : (test : ℕ → Bool) (ns : List ℕ) (n : ℕ) → contains ns n ≡ true → test n ≡ true
    → contains (filter test ns) n ≡ true
contains-filter test [] n h passes = h
contains-filter test (k ∷ ns) n h passes =
    elim (test k) as (λ b. test k ≡ b → contains (cond b (k ∷ filter test ns) (filter test ns)) n ≡ true) [
      | true ↦ λ _. ⊎_elim
          (λ kn. or_left (eqb k n) (contains (filter test ns) n) kn)
          (λ r. or_right (eqb k n) (contains (filter test ns) n) (contains-filter test ns n r passes))
          (or_cases (eqb k n) (contains ns n) h)
      | false ↦ λ fails. ⊎_elim
          (λ kn. absurd (true≢false (sym passes ∙ ap test (sym (eqb-true k n kn)) ∙ fails)))
          (λ r. contains-filter test ns n r passes)
          (or_cases (eqb k n) (contains ns n) h)
    ] refl

-- A filter makes no number stand twice.
pub IsOnce-filter : (test : ℕ → Bool) (ns : List ℕ) → IsOnce ns → IsOnce (filter test ns)
IsOnce-filter test [] o = tt
IsOnce-filter test (k ∷ ns) o =
    elim (test k) as (λ b. IsOnce (cond b (k ∷ filter test ns) (filter test ns))) [
      | true ↦ (
        absent_from (filter test ns) k (λ h. true≢false (sym (contains_in_filter test ns k h).0 ∙ o.0)),
        IsOnce-filter test ns o.1,
      )
      | false ↦ IsOnce-filter test ns o.1
    ]

-- A filter makes no list longer.
pub length-filter_le : (test : ℕ → Bool) (ns : List ℕ) → length (filter test ns) ≤ length ns
length-filter_le test [] = omega arith
length-filter_le test (k ∷ ns) =
    elim (test k) as (λ b. length (cond b (k ∷ filter test ns) (filter test ns)) ≤ suc (length ns)) [
      | true ↦ omega (arith, length-filter_le test ns)
      | false ↦ omega (arith, length-filter_le test ns)
    ]

-- A test that each number of a list passes is passed by this one.
pub passes_all : (test : ℕ → Bool) (ns : List ℕ) (n : ℕ) → list_all test ns ≡ true → contains ns n ≡ true
    → test n ≡ true
passes_all test [] n all h = absurd (true≢false (sym h))
passes_all test (k ∷ ns) n all h =
    let parts : (test k ≡ true) × (list_all test ns ≡ true) = and_parts (test k) (list_all test ns) all in
    ⊎_elim (λ kn. ap test (sym (eqb-true k n kn)) ∙ parts.0) (λ r. passes_all test ns n parts.1 r)
    (or_cases (eqb k n) (contains ns n) h)

-- A test that not each number of a list passes fails at one of them.
pub some_fails : (test : ℕ → Bool) (ns : List ℕ) → list_all test ns ≡ false → (n : ℕ) × (test n ≡ false)
some_fails test [] h = absurd (true≢false h)
some_fails test (k ∷ ns) h =
    elim (test k) as (λ b. test k ≡ b → (b && list_all test ns) ≡ false → (n : ℕ) × (test n ≡ false)) [
      | true ↦ λ _ h. some_fails test ns h
      | false ↦ λ fails _. (k, fails)
    ] refl h
