-- Lists of successive numbers: a history while every message is sent at once, and the places of ports that were made in
-- turn.
use Rattle.std.proofs.Common.{◌≡◌, ℕ, zero, suc, ◌+◌, ◌*◌, ◌-◌, ◌≤◌, ◌<◌, true, false, List, [], ◌∷◌, ◌++◌, length}
use Rattle.std.proofs.Common.{drop, min, refl, sym, ap, ◌∙◌, arith, Option, None, Some, ⊎_elim}
use Rattle.std.proofs.lemmas.Bool.{true≢false}
use Rattle.std.proofs.lemmas.List.{length-append}
use Rattle.std.proofs.lemmas.Grind.{flat_map-append}
use Rattle.std.specs.List.{flat_map}
use Rattle.iox2_machine.specs.machine.Numbers.{contains, last_n, IsOnce}
use Rattle.iox2_machine.specs.machine.Places.{occupant, occupants, lowest_free, set_place}
use Rattle.iox2_laws.proofs.NumberLemmas.{contains_in_cons, absent_from}

-- so many numbers from that one on
abbrev pub numbers_from : (first count : ℕ) → List ℕ
numbers_from first zero = []
numbers_from first (suc count) = first ∷ numbers_from (suc first) count

-- the ports with these numbers, each at a place
abbrev pub ports_from : (first count : ℕ) → List (Option ℕ)
ports_from first zero = []
ports_from first (suc count) = Some first ∷ ports_from (suc first) count

-- so many there are
pub length-numbers_from : (first count : ℕ) → length (numbers_from first count) ≡ count
length-numbers_from first zero = refl
length-numbers_from first (suc count) = ap suc (length-numbers_from (suc first) count)

-- one more stands at the end
pub numbers_from_push : (first count next : ℕ) → next ≡ first + count
    → numbers_from first count ++ next ∷ [] ≡ numbers_from first (suc count)
numbers_from_push first zero next e = let same : next ≡ first = omega arith in ap (λ n. n ∷ []) same
numbers_from_push first (suc count) next e =
    ap (λ r. first ∷ r) (numbers_from_push (suc first) count next (omega arith))

-- the same list under numbers that are the same
pub same_numbers : (a b k j : ℕ) → a ≡ b → k ≡ j → numbers_from a k ≡ numbers_from b j
same_numbers a b k j e f = ap (λ n. numbers_from n k) e ∙ ap (numbers_from b) f

-- what is left of such a list is one
pub drop-numbers_from : (j first count : ℕ) → drop j (numbers_from first count) ≡ numbers_from (first + j) (count - j)
drop-numbers_from zero first count = same_numbers first (first + zero) count (count - zero) (omega arith) (omega arith)
drop-numbers_from (suc j) first zero =
    same_numbers (first + suc j) (first + suc j) zero (zero - suc j) refl (omega arith)
drop-numbers_from (suc j) first (suc count) =
    drop-numbers_from j (suc first) count
    ∙ same_numbers (suc first + j) (first + suc j) (count - j) (suc count - suc j) (omega arith) (omega arith)

-- which numbers stand in it
pub within_numbers_from : (first count n : ℕ) → contains (numbers_from first count) n ≡ true
    → (first ≤ n) × (n < first + count)
within_numbers_from first zero n h = absurd (true≢false (sym h))
within_numbers_from first (suc count) n h =
    ⊎_elim
    (λ e. (omega arith, omega arith))
    (λ later. let rest : (suc first ≤ n) × (n < suc first + count) = within_numbers_from (suc first) count n later in
    (omega (arith, rest.0), omega (arith, rest.1)))
    (contains_in_cons first n (numbers_from (suc first) count) h)

-- no number stands there twice
pub IsOnce-numbers_from : (first count : ℕ) → IsOnce (numbers_from first count)
IsOnce-numbers_from first zero = tt
IsOnce-numbers_from first (suc count) = (
  absent_from (numbers_from (suc first) count) first
      (λ h. let low : (suc first ≤ first) × (first < suc first + count) = within_numbers_from (suc first) count
      first h in omega (arith, low.0)),
  IsOnce-numbers_from (suc first) count,
)

-- ---- the history

-- the last of so many messages that were sent, which have the numbers from 1 on
abbrev pub recent : (limit sent : ℕ) → List ℕ
recent limit sent = numbers_from (suc (sent - limit)) (min limit sent)

-- one more message is sent
pub recent_next : (limit sent : ℕ) → last_n limit (recent limit sent ++ suc sent ∷ []) ≡ recent limit (suc sent)
recent_next limit sent =
    let whole : recent limit sent ++ suc sent ∷ [] ≡ numbers_from (suc (sent - limit)) (suc (min limit sent)) =
    numbers_from_push (suc (sent - limit)) (min limit sent) (suc sent) (omega arith) in
    ap (last_n limit) whole
    ∙ ap (λ k. drop (k - limit) (numbers_from (suc (sent - limit)) (suc (min limit sent))))
    (length-numbers_from (suc (sent - limit)) (suc (min limit sent)))
    ∙ drop-numbers_from (suc (min limit sent) - limit) (suc (sent - limit)) (suc (min limit sent))
    ∙ same_numbers (suc (sent - limit) + (suc (min limit sent) - limit)) (suc (suc sent - limit))
    (suc (min limit sent) - (suc (min limit sent) - limit))
    (min limit (suc sent))
    (omega arith) (omega arith)

-- ---- places

-- the ports that stand there
pub occupants-ports_from : (first count : ℕ) → occupants (ports_from first count) ≡ numbers_from first count
occupants-ports_from first zero = refl
occupants-ports_from first (suc count) = ap (λ r. first ∷ r) (occupants-ports_from (suc first) count)

-- the lowest free place is behind them
pub lowest_free-ports_from : (first count : ℕ) → lowest_free (ports_from first count) ≡ count
lowest_free-ports_from first zero = refl
lowest_free-ports_from first (suc count) = ap suc (lowest_free-ports_from (suc first) count)

-- one more port stands at the next place
pub set_place-ports_from : (first count next : ℕ) → next ≡ first + count
    → set_place (ports_from first count) count (Some next) ≡ ports_from first (suc count)
set_place-ports_from first zero next e = let same : next ≡ first = omega arith in ap (λ n. Some n ∷ []) same
set_place-ports_from first (suc count) next e =
    ap (λ r. Some first ∷ r) (set_place-ports_from (suc first) count next (omega arith))

-- the last one stands behind the others
pub ports_from_push : (first count : ℕ)
    → ports_from first (suc count) ≡ ports_from first count ++ Some (first + count) ∷ []
ports_from_push first zero = let same : first ≡ first + zero = omega arith in ap (λ n. Some n ∷ []) same
ports_from_push first (suc count) =
    let same : suc first + count ≡ first + suc count = omega arith in
    ap (λ r. Some first ∷ r)
    (ports_from_push (suc first) count ∙ ap (λ n. ports_from (suc first) count ++ Some n ∷ []) same)

-- who stands at a place
pub occupant-ports_from : (first count place : ℕ) → place < count
    → occupant (ports_from first count) place ≡ Some (first + place)
occupant-ports_from first zero place low = absurd (omega arith)
occupant-ports_from first (suc count) zero low = let same : first ≡ first + zero = omega arith in ap (λ n. Some n) same
occupant-ports_from first (suc count) (suc place) low =
    let same : suc first + place ≡ first + suc place = omega arith in
    occupant-ports_from (suc first) count place (omega arith) ∙ ap (λ n. Some n) same

-- nobody stands behind them
pub nobody-ports_from : (first count : ℕ) → occupant (ports_from first count) count ≡ None
nobody-ports_from first zero = refl
nobody-ports_from first (suc count) = nobody-ports_from (suc first) count

-- ---- functions

-- two functions that agree at the numbers of a list give the same lists there
pub flat_map_agrees : (f g : ℕ → List ℕ) (first count : ℕ) → ((n : ℕ) → first ≤ n → n < first + count → f n ≡ g n)
    → flat_map f (numbers_from first count) ≡ flat_map g (numbers_from first count)
flat_map_agrees f g first zero same = refl
flat_map_agrees f g first (suc count) same =
    ap (λ r. r ++ flat_map f (numbers_from (suc first) count)) (same first (omega arith) (omega arith))
    ∙ ap (λ r. g first ++ r) (flat_map_agrees f g (suc first) count (λ n low high. same n (omega arith) (omega arith)))

-- the lists of so many numbers and one further
pub flat_map_push : (f : ℕ → List ℕ) (first count : ℕ)
    → flat_map f (numbers_from first (suc count)) ≡ flat_map f (numbers_from first count) ++ f (first + count)
flat_map_push f first count =
    ap (flat_map f) (sym (numbers_from_push first count (first + count) refl))
    ∙ flat_map-append f (numbers_from first count) ((first + count) ∷ [])
    ∙ ap (λ r. flat_map f (numbers_from first count) ++ r) (append_nil (f (first + count)))
  where
    append_nil : (xs : List ℕ) → xs ++ [] ≡ xs
    append_nil [] = refl
    append_nil (x ∷ xs) = ap (λ r. x ∷ r) (append_nil xs)

-- lists of the same length each
pub length-flat_map_each : (f : ℕ → List ℕ) (each first count : ℕ)
    → ((n : ℕ) → first ≤ n → n < first + count → length (f n) ≡ each)
    → length (flat_map f (numbers_from first count)) ≡ count * each
length-flat_map_each f each first zero h = omega arith
length-flat_map_each f each first (suc count) h =
    omega (
      arith,
      length-append (f first) (flat_map f (numbers_from (suc first) count)),
      h first (omega arith) (omega arith),
      length-flat_map_each f each
          (suc first) count (λ n low high. h n (omega arith) (omega arith)),
    )
