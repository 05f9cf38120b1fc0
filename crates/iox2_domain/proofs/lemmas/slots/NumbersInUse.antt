-- The numbers of those slots of a list of counters that have a holder.
use Rattle.std.proofs.Common.{◌≡◌, ℕ, zero, suc, ◌+◌, ◌<◌, ◌≤◌, List, [], ◌∷◌, map, Bool, true, false, cond, length}
use Rattle.std.proofs.Common.{get_or, refl, ap, sym, ◌∙◌, inl, inr, arith, nat_lt, eqb, drop}
use Rattle.std.proofs.lemmas.Bool.{ltb-true, lt-ltb, eqb-true}
use Rattle.std.proofs.lemmas.List.Sums.{sum_by-cons}
use Rattle.std.specs.List.{All, sum_by}
use Rattle.iox2_machine.specs.machine.Numbers.{contains, IsOnce}
use Rattle.iox2_connections.specs.Counters.{times}
use Rattle.iox2_connections.proofs.Counts.{times-cons, one_if, one_if_same}
use Rattle.iox2_laws.proofs.NumberLemmas.{contains_in_cons, contains_first, contains_later, absent_from}

-- the numbers of the slots with a holder, by rising slot
abbrev pub used : List ℕ → (number : ℕ → ℕ) → List ℕ
used [] number = []
used (h ∷ hs) number = cond (nat_lt 0 h) (number 0 ∷ used hs (λ k. number (suc k))) (used hs (λ k. number (suc k)))

-- each of them is the number of a slot with a holder
pub used-there : (hs : List ℕ) (number : ℕ → ℕ) (n : ℕ) → contains (used hs number) n ≡ true
    → (k : ℕ) × (0 < get_or hs k 0) × (number k ≡ n)
used-there [] number n e = absurd cc
used-there (h ∷ hs) number n e = by (nat_lt 0 h) refl e (used-there hs (λ k. number (suc k)) n) where
  by : (b : Bool) → nat_lt 0 h ≡ b
      → contains (cond b (number 0 ∷ used hs (λ k. number (suc k))) (used hs (λ k. number (suc k)))) n ≡ true
      → (contains (used hs (λ k. number (suc k))) n ≡ true → (k : ℕ) × (0 < get_or hs k 0) × (number (suc k) ≡ n))
      → (k : ℕ) × (0 < get_or (h ∷ hs) k 0) × (number k ≡ n)
  by false is e later = let found = later e in (suc found.0, found.1, found.2)
  by true is e later = elim (contains_in_cons (number 0) n (used hs (λ k. number (suc k))) e) [
    | inl here ↦ (zero, ltb-true 0 h is, here)
    | inr rest ↦ let found = later rest in (suc found.0, found.1, found.2)
  ]

-- each slot with a holder has its number there
pub used-has : (hs : List ℕ) (number : ℕ → ℕ) (k : ℕ) → 0 < get_or hs k 0 → contains (used hs number) (number k) ≡ true
used-has [] number zero in_use = absurd (omega arith)
used-has [] number (suc k) in_use = absurd (omega arith)
used-has (h ∷ hs) number zero in_use =
    ap (λ b. contains (cond b (number 0 ∷ used hs (λ k. number (suc k))) (used hs (λ k. number (suc k)))) (number 0))
    (lt-ltb 0 h in_use)
    ∙ contains_first (number 0) (used hs (λ k. number (suc k)))
used-has (h ∷ hs) number (suc k) in_use = by (nat_lt 0 h) (used-has hs (λ j. number (suc j)) k in_use) where
  by : (b : Bool) → contains (used hs (λ k. number (suc k))) (number (suc k)) ≡ true
      → contains (cond b (number 0 ∷ used hs (λ k. number (suc k))) (used hs (λ k. number (suc k))))
      (number (suc k)) ≡ true
  by true rest = contains_later (number 0) (number (suc k)) (used hs (λ k. number (suc k))) rest
  by false rest = rest

-- slots with a holder have different numbers
abbrev pub HasApart : List ℕ → (number : ℕ → ℕ) → Type 0
HasApart hs number = (j k : ℕ) → 0 < get_or hs j 0 → 0 < get_or hs k 0 → number j ≡ number k → j ≡ k

-- then each number stands there once
pub used-once : (hs : List ℕ) (number : ℕ → ℕ) → HasApart hs number → IsOnce (used hs number)
used-once [] number apart = tt
used-once (h ∷ hs) number apart =
    by (nat_lt 0 h) refl (used-once hs (λ k. number (suc k)) (λ j k held_j held_k same.
    let e : suc j ≡ suc k = apart (suc j) (suc k) held_j held_k same in omega arith)) where
      by : (b : Bool) → nat_lt 0 h ≡ b → IsOnce (used hs (λ k. number (suc k)))
          → IsOnce (cond b (number 0 ∷ used hs (λ k. number (suc k))) (used hs (λ k. number (suc k))))
      by false is rest = rest
      by true is rest = (
        absent_from (used hs (λ k. number (suc k))) (number 0) (λ e.
            let found = used-there hs (λ k. number (suc k)) (number 0) e in
            let clash : zero ≡ suc found.0 = apart zero (suc found.0) (ltb-true 0 h is) found.1 (sym found.2) in
            omega arith),
        rest,
      )

pub length-used : (hs : List ℕ) (number : ℕ → ℕ) → length (used hs number) ≤ length hs
length-used [] number = omega arith
length-used (h ∷ hs) number = by (nat_lt 0 h) (length-used hs (λ k. number (suc k))) where
  by : (b : Bool) → length (used hs (λ k. number (suc k))) ≤ length hs
      → length (cond b (number 0 ∷ used hs (λ k. number (suc k))) (used hs (λ k. number (suc k)))) ≤ suc (length hs)
  by true le = omega arith
  by false le = omega arith

-- there are fewer where some slot is free
pub length-used_free : (hs : List ℕ) (number : ℕ → ℕ) (k : ℕ) → k < length hs → get_or hs k 0 ≡ 0
    → length (used hs number) < length hs
length-used_free [] number k lt free = absurd (omega arith)
length-used_free (h ∷ hs) number zero lt free =
    let none : nat_lt 0 h ≡ false = ap (λ n. nat_lt 0 n) free in
    let le = length-used hs (λ k. number (suc k)) in
    rw none (omega arith)
length-used_free (h ∷ hs) number (suc k) lt free =
    by (nat_lt 0 h) (length-used_free hs (λ k. number (suc k)) k (omega arith) free) where
      by : (b : Bool) → length (used hs (λ k. number (suc k))) < length hs
          → length (cond b (number 0 ∷ used hs (λ k. number (suc k))) (used hs (λ k. number (suc k)))) < suc (length hs)
      by true le = omega arith
      by false le = omega arith

-- and as many as slots where all are in use
pub length-used_all : (hs : List ℕ) (number : ℕ → ℕ) → All (λ n. 0 < n) hs → length (used hs number) ≡ length hs
length-used_all [] number all = refl
length-used_all (h ∷ hs) number all =
    let in_use : nat_lt 0 h ≡ true = lt-ltb 0 h (all 0 0 (omega arith)) in
    let rest = length-used_all hs (λ k. number (suc k)) (λ k d lt. all (suc k) d (omega arith)) in
    rw in_use (ap suc rest)

-- at least as many are used as slots from some slot on, where each of these has a holder
pub length-used_from : (hs : List ℕ) (number : ℕ → ℕ) (start : ℕ) → All (λ n. 0 < n) (drop start hs)
    → length hs ≤ start + length (used hs number)
length-used_from hs number zero all = let e = length-used_all hs number all in omega (arith, e)
length-used_from [] number (suc start) all = omega arith
length-used_from (h ∷ hs) number (suc start) all =
    by (nat_lt 0 h) (length-used_from hs (λ k. number (suc k)) start all) where
      by : (b : Bool) → length hs ≤ start + length (used hs (λ k. number (suc k)))
          → suc (length hs) ≤ suc start + length
          (cond b (number 0 ∷ used hs (λ k. number (suc k))) (used hs (λ k. number (suc k))))
      by true few = omega (arith, few)
      by false few = omega (arith, few)

-- ---- how often a slot stands in a list

pub times-there : (slot : ℕ) (xs : List ℕ) → contains xs slot ≡ true → 0 < times slot xs
times-there slot [] e = absurd cc
times-there slot (x ∷ xs) e = elim (contains_in_cons x slot xs e) [
  | inl here ↦
      let one : one_if slot x ≡ 1 = ap (one_if slot) here ∙ one_if_same slot in
      omega (arith, times-cons slot x xs, one)
  | inr rest ↦ omega (arith, times-cons slot x xs, times-there slot xs rest)
]

pub times-stands : (slot : ℕ) (xs : List ℕ) → 0 < times slot xs → contains xs slot ≡ true
times-stands slot [] some = absurd (omega arith)
times-stands slot (x ∷ xs) some = by (eqb x slot) refl (λ more. times-stands slot xs more) where
  by : (b : Bool) → eqb x slot ≡ b → (0 < times slot xs → contains xs slot ≡ true) → contains (x ∷ xs) slot ≡ true
  by true e later = ap (λ (n : ℕ). contains (n ∷ xs) slot) (eqb-true x slot e) ∙ contains_first slot xs
  by false e later =
      let none : one_if slot x ≡ 0 = ap (λ (b : Bool). cond {A = ℕ} b 1 0) e in
      contains_later x slot xs (later (omega (arith, times-cons slot x xs, none)))

-- ---- numbers of slots

pub contains-map : (number : ℕ → ℕ) (xs : List ℕ) (slot : ℕ) → contains xs slot ≡ true
    → contains (map number xs) (number slot) ≡ true
contains-map number [] slot e = absurd cc
contains-map number (x ∷ xs) slot e = elim (contains_in_cons x slot xs e) [
  | inl here ↦ ap (λ (k : ℕ). contains (number k ∷ map number xs) (number slot)) here
      ∙ contains_first (number slot) (map number xs)
  | inr rest ↦ contains_later (number x) (number slot) (map number xs) (contains-map number xs slot rest)
]

pub contains-map_there : (number : ℕ → ℕ) (xs : List ℕ) (n : ℕ) → contains (map number xs) n ≡ true
    → (slot : ℕ) × (contains xs slot ≡ true) × (number slot ≡ n)
contains-map_there number [] n e = absurd cc
contains-map_there number (x ∷ xs) n e = elim (contains_in_cons (number x) n (map number xs) e) [
  | inl here ↦ (x, contains_first x xs, here)
  | inr rest ↦ let found = contains-map_there number xs n rest in
      (found.0, contains_later x found.0 xs found.1, found.2)
]

-- ---- sums

-- where a sum is above 0 some part is
pub sum_by-positive : {A : Type 0} (f : A → ℕ) (xs : List A) (d : A) → 0 < sum_by f xs
    → (k : ℕ) × (k < length xs) × (0 < f (get_or xs k d))
sum_by-positive f [] d some = absurd (omega arith)
sum_by-positive f (x ∷ xs) d some = by (f x) refl (λ more. sum_by-positive f xs d more) where
  by : (n : ℕ) → f x ≡ n → (0 < sum_by f xs → (k : ℕ) × (k < length xs) × (0 < f (get_or xs k d)))
      → (k : ℕ) × (k < suc (length xs)) × (0 < f (get_or (x ∷ xs) k d))
  by zero e later =
      let rest : 0 < sum_by f xs = omega (arith, sum_by-cons f x xs, e, some) in
      let found = later rest in
      (suc found.0, omega (arith, found.1), found.2)
  by (suc n) e later = (zero, omega arith, omega (arith, e))
