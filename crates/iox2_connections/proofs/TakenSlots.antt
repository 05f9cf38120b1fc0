-- A slot goes out of a list in which it stands once at most.
use Rattle.std.proofs.Common.{◌≡◌, ℕ, zero, suc, ◌-◌, ◌<◌, ◌≤◌, Bool, cond, not, List, [], ◌∷◌, length, take, true}
use Rattle.std.proofs.Common.{false, refl, ap, sym, ◌∙◌, arith, Some, eqb, eq-eqb, inl, inr, ⊎_elim}
use Rattle.std.proofs.lemmas.Bool.{cases_eq, false≢true, ne_eqb, or_cases, or_parts}
use Rattle.std.specs.Prelude.{remove, slice_get}
use Rattle.iox2_machine.specs.machine.Numbers.{contains, without, IsOnce}
use Rattle.iox2_connections.specs.Counters.{times}
use Rattle.iox2_connections.proofs.Counts.{one_if, one_if_same, times-cons}

-- a slot that stands at a place stands in the list
stands-at : (slot : ℕ) (xs : List ℕ) (place : ℕ) → slice_get xs place ≡ Some slot → 0 < times slot xs
stands-at slot [] place at = absurd cc
stands-at slot (x ∷ xs) zero at =
    let same : x ≡ slot = cc in
    let one : one_if slot x ≡ 1 = ap (one_if slot) same ∙ one_if_same slot in
    omega (arith, times-cons slot x xs, one)
stands-at slot (x ∷ xs) (suc k) at = omega (arith, times-cons slot x xs, stands-at slot xs k at)

-- another stands before what is left of the list without the slot
other-before : (slot x : ℕ) (xs : List ℕ) → (one_if slot x ≡ 1 → ⊥) → without slot (x ∷ xs) ≡ x ∷ without slot xs
other-before slot x xs other = ap (λ (t : Bool). cond (not t) (x ∷ without slot xs) (without slot xs))
    (ne_eqb x slot (λ same. other (ap (one_if slot) same ∙ one_if_same slot)))

-- where the slot doesn't stand nothing goes
pub absent-without : (slot : ℕ) (xs : List ℕ) → times slot xs ≡ 0 → without slot xs ≡ xs
absent-without slot [] none = refl
absent-without slot (x ∷ xs) none =
    other-before slot x xs (λ one. omega (arith, times-cons slot x xs, one, none))
    ∙ ap (λ zs. x ∷ zs) (absent-without slot xs (omega (arith, times-cons slot x xs, none)))

-- the slot at a place, which stands once, goes
pub removed-without : (slot : ℕ) (xs : List ℕ) (place : ℕ) → slice_get xs place ≡ Some slot → times slot xs ≤ 1
    → remove xs place ≡ without slot xs
removed-without slot [] place at once = absurd cc
removed-without slot (x ∷ xs) zero at once =
    let same : x ≡ slot = cc in
    let one : one_if slot x ≡ 1 = ap (one_if slot) same ∙ one_if_same slot in
    sym (ap (λ (t : Bool). cond (not t) (x ∷ without slot xs) (without slot xs)) (eq-eqb x slot same)
    ∙ absent-without slot xs (omega (arith, times-cons slot x xs, one, once)))
removed-without slot (x ∷ xs) (suc k) at once =
    let there : 0 < times slot xs = stands-at slot xs k at in
    ap (λ zs. x ∷ zs) (removed-without slot xs k at (omega (arith, times-cons slot x xs, once)))
    ∙ sym (other-before slot x xs (λ one. omega (arith, times-cons slot x xs, one, there, once)))

-- all but the last
without-last : (x : ℕ) (xs : List ℕ) → take (length xs) (x ∷ xs) ≡ remove (x ∷ xs) (length xs)
without-last x [] = refl
without-last x (y ∷ ys) = ap (λ zs. x ∷ zs) (without-last y ys)

pub popped-without : (slot : ℕ) (xs ys : List ℕ) → slice_get xs (length xs - 1) ≡ Some slot → times slot xs ≤ 1
    → ys ≡ take (length xs - 1) xs → ys ≡ without slot xs
popped-without slot [] ys at once left = absurd cc
popped-without slot (x ∷ xs) ys at once left =
    let long : length (x ∷ xs) - 1 ≡ length xs = omega arith in
    left ∙ ap (λ (k : ℕ). take k (x ∷ xs)) long ∙ without-last x xs
    ∙ removed-without slot (x ∷ xs) (length xs) (ap (slice_get (x ∷ xs)) (sym long) ∙ at) once

-- what isn't in a list isn't counted in it
pub uncounted : (slot : ℕ) (xs : List ℕ) → contains xs slot ≡ false → times slot xs ≡ 0
uncounted slot [] h = refl
uncounted slot (x ∷ xs) h =
    let parts : (eqb x slot ≡ false) × (contains xs slot ≡ false) = or_parts (eqb x slot) (contains xs slot) h in
    let none : one_if slot x ≡ 0 = ap (λ t. cond {A = ℕ} t 1 0) parts.0 in
    omega (arith, times-cons slot x xs, none, uncounted slot xs parts.1)

-- what is in a list is counted in it
pub counted-there : (slot : ℕ) (xs : List ℕ) → contains xs slot ≡ true → times slot xs ≡ 0 → ⊥
counted-there slot [] h none = false≢true h
counted-there slot (x ∷ xs) h none =
    ⊎_elim (λ same. let one : one_if slot x ≡ 1 = ap (λ t. cond {A = ℕ} t 1 0) same in
    omega (arith, times-cons slot x xs, one, none))
    (λ later. counted-there slot xs later (omega (arith, times-cons slot x xs, none)))
    (or_cases (eqb x slot) (contains xs slot) h)

-- a list in which each number stands once has the slot once at most
pub counted-once : (slot : ℕ) (xs : List ℕ) → IsOnce xs → times slot xs ≤ 1
counted-once slot [] once = omega arith
counted-once slot (x ∷ xs) once =
    elim (cases_eq x slot) [
      | inl same ↦
          let one : one_if slot x ≡ 1 = ap (one_if slot) same ∙ one_if_same slot in
          omega (arith, times-cons slot x xs, one, uncounted slot xs (ap (contains xs) (sym same) ∙ once.0))
      | inr differs ↦
          let none : one_if slot x ≡ 0 = ap (λ t. cond {A = ℕ} t 1 0) (ne_eqb x slot differs) in
          omega (arith, times-cons slot x xs, none, counted-once slot xs once.1)
    ]
