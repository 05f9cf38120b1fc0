-- Lists of numbers: membership, distinctness, ends of lists, and how many different numbers there are.
use Rattle.std.proofs.Common.{◌≡◌, ℕ, zero, suc, ◌+◌, ◌*◌, ◌-◌, ◌≤◌, Bool, true, false, cond, not, ◌&&◌, ◌||◌, List, []}
use Rattle.std.proofs.Common.{◌∷◌, ◌++◌, length, drop, refl, sym, ap, ◌∙◌, arith, eqb, ⊎_elim, ◌⊎◌, inl, inr}
use Rattle.std.proofs.lemmas.Bool.{eqb-true, eqb-false, eq-eqb, true≢false, or_cases, or_left, or_right, or_parts}
use Rattle.std.proofs.lemmas.Bool.{ne_eqb}
use Rattle.std.proofs.lemmas.List.{length-append, length-drop}
use Rattle.std.proofs.lemmas.List.Folds.{list_any-append}
use Rattle.std.specs.List.{flat_map, list_all}
use Rattle.iox2_machine.specs.machine.Numbers.{contains, without, last_n, size, distinct, IsOnce}

-- a number stands in a list that was joined just where it stands in one of the two
pub contains-append : (xs ys : List ℕ) (n : ℕ) → contains (xs ++ ys) n ≡ (contains xs n || contains ys n)
contains-append xs ys n = list_any-append (λ m. eqb m n) xs ys

-- a number of a list that was joined stands in one of the two
pub contains_in_append : (xs ys : List ℕ) (n : ℕ) → contains (xs ++ ys) n ≡ true
    → (contains xs n ≡ true) ⊎ (contains ys n ≡ true)
contains_in_append xs ys n h = or_cases (contains xs n) (contains ys n) (sym (contains-append xs ys n) ∙ h)

-- what stands in the first list stands in the joined one
pub contains_left : (xs ys : List ℕ) (n : ℕ) → contains xs n ≡ true → contains (xs ++ ys) n ≡ true
contains_left xs ys n h = contains-append xs ys n ∙ or_left (contains xs n) (contains ys n) h

-- what stands in the second list stands in the joined one
pub contains_right : (xs ys : List ℕ) (n : ℕ) → contains ys n ≡ true → contains (xs ++ ys) n ≡ true
contains_right xs ys n h = contains-append xs ys n ∙ or_right (contains xs n) (contains ys n) h

-- what stands in neither list doesn't stand in the joined one
pub absent_in_append : (xs ys : List ℕ) (n : ℕ) → contains xs n ≡ false → contains ys n ≡ false
    → contains (xs ++ ys) n ≡ false
absent_in_append xs ys n h k = rw (contains-append xs ys n, h) k

-- what doesn't stand in the joined list doesn't stand in the first
pub absent_left : (xs ys : List ℕ) (n : ℕ) → contains (xs ++ ys) n ≡ false → contains xs n ≡ false
absent_left xs ys n h = (or_parts (contains xs n) (contains ys n) (sym (contains-append xs ys n) ∙ h)).0

-- what doesn't stand in the joined list doesn't stand in the second
pub absent_right : (xs ys : List ℕ) (n : ℕ) → contains (xs ++ ys) n ≡ false → contains ys n ≡ false
absent_right xs ys n h = (or_parts (contains xs n) (contains ys n) (sym (contains-append xs ys n) ∙ h)).1

-- a list has its first number
pub contains_first : (n : ℕ) (xs : List ℕ) → contains (n ∷ xs) n ≡ true
contains_first n xs = or_left (eqb n n) (contains xs n) (eq-eqb n n refl)

-- a number found in a longer list is its first, or it stands in the rest
pub contains_in_cons : (x n : ℕ) (xs : List ℕ) → contains (x ∷ xs) n ≡ true → (x ≡ n) ⊎ (contains xs n ≡ true)
contains_in_cons x n xs h = ⊎_elim (λ e. inl (eqb-true x n e)) (λ r. inr r) (or_cases (eqb x n) (contains xs n) h)

-- a number of the rest stands in the list
pub contains_later : (x n : ℕ) (xs : List ℕ) → contains xs n ≡ true → contains (x ∷ xs) n ≡ true
contains_later x n xs h = or_right (eqb x n) (contains xs n) h

-- a list of one number has no other
pub absent_one : (m n : ℕ) → (m ≡ n → ⊥) → contains (m ∷ []) n ≡ false
absent_one m n apart = rw (ne_eqb m n apart) refl

-- the one number of a list
pub contains_one : (m n : ℕ) → contains (m ∷ []) n ≡ true → m ≡ n
contains_one m n h = ⊎_elim (λ e. eqb-true m n e) (λ e. absurd (true≢false (sym e))) (or_cases (eqb m n) false h)

-- what stands in a list's end stands in the list
pub contains_in_drop : (k : ℕ) (xs : List ℕ) (n : ℕ) → contains (drop k xs) n ≡ true → contains xs n ≡ true
contains_in_drop zero xs n h = h
contains_in_drop (suc k) [] n h = h
contains_in_drop (suc k) (x ∷ xs) n h = contains_later x n xs (contains_in_drop k xs n h)

-- what stands among the last numbers stands in the list
pub contains_in_last_n : (k : ℕ) (xs : List ℕ) (n : ℕ) → contains (last_n k xs) n ≡ true → contains xs n ≡ true
contains_in_last_n k xs n h = contains_in_drop (length xs - k) xs n h

-- what isn't true is false
pub false_from : (b : Bool) → (b ≡ true → ⊥) → b ≡ false
false_from true h = absurd (h refl)
false_from false h = refl

-- what follows from membership fails where the conclusion fails
pub absent_from : (xs : List ℕ) (n : ℕ) → (contains xs n ≡ true → ⊥) → contains xs n ≡ false
absent_from xs n h = false_from (contains xs n) h

-- the last k are at most k
pub length-last_n : (k : ℕ) (xs : List ℕ) → length (last_n k xs) ≤ k
length-last_n k xs = omega (arith, length-drop (length xs - k) xs)

-- the last k are no more than all
pub length-last_n_le : (k : ℕ) (xs : List ℕ) → length (last_n k xs) ≤ length xs
length-last_n_le k xs = omega (arith, length-drop (length xs - k) xs)

-- a list's end has no repetition where the list has none
pub IsOnce-drop : (k : ℕ) (xs : List ℕ) → IsOnce xs → IsOnce (drop k xs)
IsOnce-drop zero xs o = o
IsOnce-drop (suc k) [] o = o
IsOnce-drop (suc k) (x ∷ xs) o = IsOnce-drop k xs o.1

-- the last numbers have no repetition where the list has none
pub IsOnce-last_n : (k : ℕ) (xs : List ℕ) → IsOnce xs → IsOnce (last_n k xs)
IsOnce-last_n k xs o = IsOnce-drop (length xs - k) xs o

-- a number that isn't in the list can be added
pub IsOnce-push : (xs : List ℕ) (n : ℕ) → IsOnce xs → contains xs n ≡ false → IsOnce (xs ++ n ∷ [])
IsOnce-push [] n o absent = (refl, tt)
IsOnce-push (x ∷ xs) n o absent =
    let apart : (eqb x n ≡ false) × (contains xs n ≡ false) = or_parts (eqb x n) (contains xs n) absent in (
      absent_in_append xs (n ∷ []) x o.0 (absent_one n x (λ e. eqb-false x n apart.0 (sym e))),
      IsOnce-push xs n o.1 apart.1,
    )

-- the first part of a list without repetition has none
pub IsOnce-left : (xs ys : List ℕ) → IsOnce (xs ++ ys) → IsOnce xs
IsOnce-left [] ys o = tt
IsOnce-left (x ∷ xs) ys o = (absent_left xs ys x o.0, IsOnce-left xs ys o.1)

-- the second part of a list without repetition has none
pub IsOnce-right : (xs ys : List ℕ) → IsOnce (xs ++ ys) → IsOnce ys
IsOnce-right [] ys o = o
IsOnce-right (x ∷ xs) ys o = IsOnce-right xs ys o.1

-- the two parts of a list without repetition share no number
pub IsOnce-apart : (xs ys : List ℕ) → IsOnce (xs ++ ys) → (n : ℕ) → contains xs n ≡ true → contains ys n ≡ false
IsOnce-apart [] ys o n h = absurd (true≢false (sym h))
IsOnce-apart (x ∷ xs) ys o n h =
    ⊎_elim (λ e. ap (contains ys) (sym e) ∙ absent_right xs ys x o.0) (λ r. IsOnce-apart xs ys o.1 n r)
    (contains_in_cons x n xs h)

-- two lists without repetition that share no number have none together
pub IsOnce-append : (xs ys : List ℕ) → IsOnce xs → IsOnce ys → ((n : ℕ) → contains xs n ≡ true → contains ys n ≡ false)
    → IsOnce (xs ++ ys)
IsOnce-append [] ys o p apart = p
IsOnce-append (x ∷ xs) ys o p apart = (
  absent_in_append xs ys x o.0 (apart x (contains_first x xs)),
  IsOnce-append xs ys o.1 p (λ n h. apart n (contains_later x n xs h)),
)

-- what is left after a number was taken out was in the list
pub contains_in_without : (n m : ℕ) (xs : List ℕ) → contains (without n xs) m ≡ true → contains xs m ≡ true
contains_in_without n m [] h = h
contains_in_without n m (k ∷ xs) h =
    elim (eqb k n) as (λ b. contains (cond (not b) (k ∷ without n xs) (without n xs)) m ≡ true
    → contains (k ∷ xs) m ≡ true) [
      | true ↦ λ h. contains_later k m xs (contains_in_without n m xs h)
      | false ↦ λ h. ⊎_elim (λ km. or_left (eqb k m) (contains xs m) km)
          (λ r. contains_later k m xs (contains_in_without n m xs r)) (or_cases (eqb k m) (contains (without n xs) m) h)
    ] h

-- a list without repetition has none after a number was taken out
pub IsOnce-without : (n : ℕ) (xs : List ℕ) → IsOnce xs → IsOnce (without n xs)
IsOnce-without n [] o = tt
IsOnce-without n (k ∷ xs) o =
    elim (eqb k n) as (λ b. IsOnce (cond (not b) (k ∷ without n xs) (without n xs))) [
      | true ↦ IsOnce-without n xs o.1
      | false ↦ (
        absent_from (without n xs) k (λ h. true≢false (sym (contains_in_without n k xs h) ∙ o.0)),
        IsOnce-without n xs o.1,
      )
    ]

-- a number that was taken out is gone
pub contains-without_same : (n : ℕ) (xs : List ℕ) → contains (without n xs) n ≡ false
contains-without_same n [] = refl
contains-without_same n (k ∷ xs) =
    elim (eqb k n) as (λ b. eqb k n ≡ b → contains (cond (not b) (k ∷ without n xs) (without n xs)) n ≡ false) [
      | true ↦ λ _. contains-without_same n xs
      | false ↦ λ e. rw e (contains-without_same n xs)
    ] refl

-- another number than the one taken out stays
pub contains-without_other : (n m : ℕ) (xs : List ℕ) → eqb m n ≡ false → contains xs m ≡ true
    → contains (without n xs) m ≡ true
contains-without_other n m [] apart h = h
contains-without_other n m (k ∷ xs) apart h =
    elim (eqb k n) as (λ b. eqb k n ≡ b → contains (cond (not b) (k ∷ without n xs) (without n xs)) m ≡ true) [
      | true ↦ λ e. ⊎_elim (λ km. absurd (eqb-false m n apart (sym km ∙ eqb-true k n e)))
          (λ r. contains-without_other n m xs apart r) (contains_in_cons k m xs h)
      | false ↦ λ _. ⊎_elim (λ km. or_left (eqb k m) (contains (without n xs) m) km)
          (λ r. contains_later k m (without n xs) (contains-without_other n m xs apart r))
          (or_cases (eqb k m) (contains xs m) h)
    ] refl

-- a list from which a number was taken out is no longer
pub length-without_le : (n : ℕ) (xs : List ℕ) → length (without n xs) ≤ length xs
length-without_le n [] = omega arith
length-without_le n (k ∷ xs) =
    elim (eqb k n) as (λ b. length (cond (not b) (k ∷ without n xs) (without n xs)) ≤ suc (length xs)) [
      | true ↦ omega (arith, length-without_le n xs)
      | false ↦ omega (arith, length-without_le n xs)
    ]

-- a number that isn't in the list can't be taken out
pub without_absent : (n : ℕ) (xs : List ℕ) → contains xs n ≡ false → without n xs ≡ xs
without_absent n [] h = refl
without_absent n (k ∷ xs) h =
    let parts : (eqb k n ≡ false) × (contains xs n ≡ false) = or_parts (eqb k n) (contains xs n) h in
    rw parts.0 (ap (λ r. k ∷ r) (without_absent n xs parts.1))

-- one fewer, where the number stood there once
pub length-without : (n : ℕ) (xs : List ℕ) → IsOnce xs → contains xs n ≡ true → suc (length (without n xs)) ≡ length xs
length-without n [] o h = absurd (true≢false (sym h))
length-without n (k ∷ xs) o h =
    elim (eqb k n) as (λ b. eqb k n ≡ b → (b || contains xs n) ≡ true
    → suc (length (cond (not b) (k ∷ without n xs) (without n xs))) ≡ suc (length xs)) [
      | true ↦ λ e _. ap (λ r. suc (length r)) (without_absent n xs (ap (contains xs) (sym (eqb-true k n e)) ∙ o.0))
      | false ↦ λ _ h. ap suc (length-without n xs o.1 h)
    ] refl h

-- a list with each number once has the same numbers
pub contains-distinct : (xs : List ℕ) (n : ℕ) → contains (distinct xs) n ≡ contains xs n
contains-distinct [] n = refl
contains-distinct (k ∷ xs) n =
    elim (contains xs k) as (λ b. contains xs k ≡ b
    → contains (cond b (distinct xs) (k ∷ distinct xs)) n ≡ (eqb k n || contains xs n)) [
      | true ↦ λ e.
          elim (eqb k n) as (λ b. eqb k n ≡ b → contains (distinct xs) n ≡ (b || contains xs n)) [
            | true ↦ λ same. contains-distinct xs n ∙ ap (contains xs) (sym (eqb-true k n same)) ∙ e
            | false ↦ λ _. contains-distinct xs n
          ] refl
      | false ↦ λ _. ap (λ b. eqb k n || b) (contains-distinct xs n)
    ] refl

-- a list with each number once has no repetition
pub IsOnce-distinct : (xs : List ℕ) → IsOnce (distinct xs)
IsOnce-distinct [] = tt
IsOnce-distinct (k ∷ xs) =
    elim (contains xs k) as (λ b. contains xs k ≡ b → IsOnce (cond b (distinct xs) (k ∷ distinct xs))) [
      | true ↦ λ _. IsOnce-distinct xs
      | false ↦ λ e. (contains-distinct xs k ∙ e, IsOnce-distinct xs)
    ] refl

-- where each number passes a test, all of a list do
pub all_pass : (test : ℕ → Bool) (ns : List ℕ) → ((n : ℕ) → test n ≡ true) → list_all test ns ≡ true
all_pass test [] all = refl
all_pass test (n ∷ ns) all = ap (λ (b : Bool). b && list_all test ns) (all n) ∙ all_pass test ns all

-- of two lists without repetition, one all of whose numbers stand in the other is no longer
pub length_le : (xs ys : List ℕ) → IsOnce xs → IsOnce ys → ((n : ℕ) → contains xs n ≡ true → contains ys n ≡ true)
    → length xs ≤ length ys
length_le [] ys o p each = omega arith
length_le (x ∷ xs) ys o p each =
    let here : contains ys x ≡ true = each x (contains_first x xs) in
    let less : length xs ≤ length (without x ys) =
    length_le xs (without x ys) o.1 (IsOnce-without x ys p) (λ m h.
    contains-without_other x m ys (ne_eqb m x (λ same. true≢false (sym h ∙ ap (contains xs) same ∙ o.0)))
    (each m (contains_later x m xs h))) in
    omega (arith, length-without x ys p here)

-- a list all of whose numbers stand in the other has no more different ones
pub size_le : (xs ys : List ℕ) → ((n : ℕ) → contains xs n ≡ true → contains ys n ≡ true) → size xs ≤ size ys
size_le xs ys each =
    length_le (distinct xs) (distinct ys) (IsOnce-distinct xs) (IsOnce-distinct ys)
    (λ n h. contains-distinct ys n ∙ each n (sym (contains-distinct xs n) ∙ h))

-- there are no more different numbers than numbers
pub size_le_length : (xs : List ℕ) → size xs ≤ length xs
size_le_length [] = omega arith
size_le_length (x ∷ xs) =
    elim (contains xs x) as (λ b. length (cond b (distinct xs) (x ∷ distinct xs)) ≤ suc (length xs)) [
      | true ↦ omega (arith, size_le_length xs)
      | false ↦ omega (arith, size_le_length xs)
    ]

-- one number more makes at most one different number more
pub size_cons_le : (k : ℕ) (ys : List ℕ) → size (k ∷ ys) ≤ size ys + 1
size_cons_le k ys =
    elim (contains ys k) as (λ b. length (cond b (distinct ys) (k ∷ distinct ys)) ≤ length (distinct ys) + 1) [
      | true ↦ omega arith
      | false ↦ omega arith
    ]

-- at most one more, where the numbers are those of the other list and one further
pub size_le_one_more : (xs ys : List ℕ) (k : ℕ) → ((n : ℕ) → contains xs n ≡ true → (n ≡ k) ⊎ (contains ys n ≡ true))
    → size xs ≤ size ys + 1
size_le_one_more xs ys k each =
    let some : size xs ≤ size (k ∷ ys) = size_le xs (k ∷ ys) (λ n h.
    ⊎_elim (λ e. or_left (eqb k n) (contains ys n) (eq-eqb k n (sym e))) (λ r. contains_later k n ys r) (each n h)) in
    omega (arith, size_cons_le k ys)

-- a number of a list of lists stands in one of them
pub contains_in_flat_map : (f : ℕ → List ℕ) (xs : List ℕ) (n : ℕ) → contains (flat_map f xs) n ≡ true
    → (x : ℕ) × (contains xs x ≡ true) × (contains (f x) n ≡ true)
contains_in_flat_map f [] n h = absurd (true≢false (sym h))
contains_in_flat_map f (x ∷ xs) n h =
    ⊎_elim (λ here. (x, contains_first x xs, here))
    (λ later. let found : (y : ℕ) × (contains xs y ≡ true)
    × (contains (f y) n ≡ true) = contains_in_flat_map f xs n later in
    (found.0, contains_later x found.0 xs found.1, found.2))
    (contains_in_append (f x) (flat_map f xs) n h)

-- a number of one of the lists stands in all of them joined
pub contains-flat_map : (f : ℕ → List ℕ) (xs : List ℕ) (x n : ℕ) → contains xs x ≡ true → contains (f x) n ≡ true
    → contains (flat_map f xs) n ≡ true
contains-flat_map f [] x n here h = absurd (true≢false (sym here))
contains-flat_map f (y ∷ xs) x n here h =
    ⊎_elim (λ e. contains_left (f y) (flat_map f xs) n (ap (λ z. contains (f z) n) e ∙ h))
    (λ later. contains_right (f y) (flat_map f xs) n (contains-flat_map f xs x n later h))
    (contains_in_cons y x xs here)

-- lists of at most so many numbers each have at most the product together
pub length-flat_map : (f : ℕ → List ℕ) (most : ℕ) → ((x : ℕ) → length (f x) ≤ most) → (xs : List ℕ)
    → length (flat_map f xs) ≤ length xs * most
length-flat_map f most each [] = omega arith
length-flat_map f most each (x ∷ xs) =
    omega (arith, length-append (f x) (flat_map f xs), each x, length-flat_map f most each xs)
