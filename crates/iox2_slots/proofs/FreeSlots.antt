-- What a change of one slot's count of holders does to the list of free slots.
use Rattle.std.proofs.Common.{◌≡◌, ℕ, ◌+◌, ◌<◌, List, [], ◌∷◌, ◌++◌, length, false, cond, suc, slice_index_or}
use Rattle.std.proofs.Common.{slice_index, slice_set, map, replicate, All, refl, sym, subst, ◌∙◌, arith, count_by, eqb}
use Rattle.std.proofs.Math.Seq.{map-set_same}
use Rattle.std.proofs.lemmas.Bool.{eqb-true}
use Rattle.std.proofs.lemmas.Grind.{common_steps, get_or_default_zero, replicate_next}
use Rattle.std.proofs.lemmas.List.{map-set, map-append, length-map, get_or-map, length-append, length-set}
use Rattle.std.proofs.lemmas.List.{length-replicate}
use Rattle.std.proofs.lemmas.List.Sums.{count_by-le-length, sum_by-cons}
use Rattle.iox2_slots.specs.SlotFree.{HasFree}
use Rattle.iox2_slots.proofs.EachOnce.{within, last_test, pushed, popped, extended}

busy : (n : ℕ) → 0 < n → eqb n 0 ≡ false
busy n h = grind arith

-- A slot with holders isn't free.
was_busy : (holders : List ℕ) (i : ℕ) → i < length holders → 0 < slice_index holders i
    → slice_index_or (map (λ n. eqb n 0) holders) i false ≡ false
was_busy holders i h above = get_or-map (λ n. eqb n 0) holders i 0 false h ∙ busy _ above

-- A count changes and stays above zero: the same slots are free.
pub free_kept : (holders free : List ℕ) (i n : ℕ) → i < length holders → 0 < slice_index holders i → 0 < n
    → HasFree holders free → HasFree (slice_set holders i n) free
free_kept holders free i n h above now has =
    record {
      each = rw
          (map-set_same (λ n. eqb n 0) holders i n 0 (busy n now ∙ sym (busy (slice_index holders i) above))) has.each;
    }

-- A count falls to zero: the slot is appended.
pub free_pushed : (holders free : List ℕ) (i : ℕ) → i < length holders → 0 < slice_index holders i
    → HasFree holders free → HasFree (slice_set holders i 0) (free ++ i ∷ [])
free_pushed holders free i h above has =
    let inside : i < length (map (λ n. eqb n 0) holders) = rw (length-map holders (λ n. eqb n 0)) h in
    record {
      each = rw map-set
          (pushed (map (λ n. eqb n 0) holders) free i inside (was_busy holders i h above) has.each);
    }

-- While a slot has holders, not every slot is free.
pub free_room : (holders free : List ℕ) (i : ℕ) → i < length holders → 0 < slice_index holders i → HasFree holders free
    → length free < length holders
free_room holders free i h above has =
    let more = free_pushed holders free i h above has in
    let after = slice_set holders i 0 in
    omega (
      arith,
      more.each.count,
      count_by-le-length (λ b. b) (map (λ n. eqb n 0) after),
      length-append free (i ∷ []),
      length-map after (λ n. eqb n 0),
      length-set holders i 0,
    )

-- The last free slot is a slot,
pub popped_within : (holders free rest : List ℕ) (i : ℕ) → free ≡ rest ++ i ∷ [] → HasFree holders free
    → i < length holders
popped_within holders free rest i e has =
    let here : HasFree holders (rest ++ i ∷ []) = rw (← e) has in
    let tests = map (λ n. eqb n 0) holders in
    omega (arith, within tests i (last_test tests rest i here.each), length-map holders (λ n. eqb n 0))

-- it has no holder,
pub popped_count : (holders free rest : List ℕ) (i : ℕ) → free ≡ rest ++ i ∷ [] → HasFree holders free
    → slice_index holders i ≡ 0
popped_count holders free rest i e has =
    let here : HasFree holders (rest ++ i ∷ []) = rw (← e) has in
    let test = last_test (map (λ n. eqb n 0) holders) rest i here.each in
    eqb-true _ _ (sym (get_or-map (λ n. eqb n 0) holders i 0 false (popped_within holders free rest i e has)) ∙ test)

-- so that not every slot has one,
pub popped_not_all : (holders free rest : List ℕ) (i : ℕ) → free ≡ rest ++ i ∷ [] → HasFree holders free
    → All (λ n. 0 < n) holders → ⊥
popped_not_all holders free rest i e has all =
    omega (arith, popped_count holders free rest i e has, all i 0 (popped_within holders free rest i e has))

-- and the rest are the free ones once it has some.
pub free_popped : (holders free rest : List ℕ) (i n : ℕ) → free ≡ rest ++ i ∷ [] → 0 < n → HasFree holders free
    → HasFree (slice_set holders i n) rest
free_popped holders free rest i n e now has =
    let here : HasFree holders (rest ++ i ∷ []) = rw (← e) has in
    record { each = rw (map-set, busy n now) (popped (map (λ n. eqb n 0) holders) rest i here.each) }

-- No slot is free: each has a holder.
pub none_free : (holders free : List ℕ) → free ≡ [] → HasFree holders free → All (λ n. 0 < n) holders
none_free holders free e has k d h =
    let here : HasFree holders [] = rw (← e) has in
    grind (arith, here.each.times k, get_or-map (λ n. eqb n 0) holders k d false h)

no_count : (holders : List ℕ) → All (λ n. 0 < n) holders → count_by (λ b. b) (map (λ n. eqb n 0) holders) ≡ 0
no_count [] all = refl
no_count (n ∷ holders) all =
    let in_use = busy n (all 0 0 (omega arith)) in
    let rest = no_count holders (λ k d h. all (suc k) d (omega arith)) in
    grind (arith, common_steps, sum_by-cons (λ b. cond b 1 0) (eqb n 0) (map (λ n. eqb n 0) holders))

-- Each slot has a holder: none is free.
pub free_none : (holders free : List ℕ) → All (λ n. 0 < n) holders → HasFree holders free → length free ≡ 0
free_none holders free all has = has.each.count ∙ no_count holders all

-- The list of free slots is empty: each slot has a holder.
pub none_free_length : (holders free : List ℕ) → length free ≡ 0 → HasFree holders free → All (λ n. 0 < n) holders
none_free_length holders [] e has = none_free holders [] refl has
none_free_length holders (i ∷ free) e has = absurd (omega arith)

-- As many slots are free as there are slots: none has a holder.
pub all_free : (holders free : List ℕ) → length free ≡ length holders → HasFree holders free → All (λ n. n ≡ 0) holders
all_free holders free e has k d h =
    let short : 0 < slice_index holders k → length free < length holders =
    λ above. free_room holders free k h above has in
    let same = get_or_default_zero holders k d h in
    grind arith

count_free : (holders : List ℕ) → All (λ n. n ≡ 0) holders
    → count_by (λ b. b) (map (λ n. eqb n 0) holders) ≡ length holders
count_free [] all = refl
count_free (n ∷ holders) all =
    let none : n ≡ 0 = all 0 0 (omega arith) in
    let rest = count_free holders (λ k d h. all (suc k) d (omega arith)) in
    grind (arith, common_steps, sum_by-cons (λ b. cond b 1 0) (eqb n 0) (map (λ n. eqb n 0) holders))

-- No slot has a holder: as many are free as there are slots.
pub free_all : (holders free : List ℕ) → All (λ n. n ≡ 0) holders → HasFree holders free → length free ≡ length holders
free_all holders free all has = has.each.count ∙ count_free holders all

-- A slot more without a holder: it is appended.
free_extended : (holders free : List ℕ) → HasFree holders free
    → HasFree (holders ++ 0 ∷ []) (free ++ length holders ∷ [])
free_extended holders free has =
    record {
      each = rw (map-append, ← length-map holders (λ n. eqb n 0))
          (extended (map (λ n. eqb n 0) holders) free has.each);
    }

-- The free slots of so many without holders, and of one more.
pub free_next : (slots : ℕ) (free : List ℕ) → HasFree (replicate slots 0) free
    → HasFree (replicate (slots + 1) 0) (free ++ slots ∷ [])
free_next slots free has =
    let P : ℕ → Type 0 = λ n. HasFree (replicate slots 0 ++ 0 ∷ []) (free ++ n ∷ []) in
    rw replicate_next (subst P (length-replicate slots 0) (free_extended (replicate slots 0) free has))

-- What the search needs where a slot is taken.
pub ruleset taking = (popped_within, none_free)
