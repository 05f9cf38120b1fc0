-- A list that has each index at which the tests say true once.
use Rattle.std.proofs.Common.{◌≡◌, ℕ, ◌<◌, zero, suc, List, [], ◌∷◌, ◌++◌, length, Bool, true, false, cond}
use Rattle.std.proofs.Common.{slice_index_or, slice_set, eqb, arith}
use Rattle.std.proofs.lemmas.List.Sums.{sum_by-append, sum_by-set}
use Rattle.std.proofs.lemmas.List.{get_or-set_same, get_or-set_other, get_or_past}
use Rattle.std.proofs.lemmas.Bool.Decides.{eqb_tells}
use Rattle.std.proofs.lemmas.Grind.{common_steps}
use Rattle.iox2_slots.specs.SlotFree.{HasEachOnce}

-- A test that says true stands in the list.
pub within : (tests : List Bool) (i : ℕ) → slice_index_or tests i false ≡ true → i < length tests
within [] i h = cc
within (b ∷ bs) zero h = omega arith
within (b ∷ bs) (suc i) h = let e = within bs i h in omega arith

-- The last index of the list is one at which the tests say true.
pub last_test : (tests : List Bool) (rest : List ℕ) (i : ℕ) → HasEachOnce tests (rest ++ i ∷ [])
    → slice_index_or tests i false ≡ true
last_test tests rest i each =
    grind (arith, common_steps, each.times i, sum_by-append (λ j. cond (eqb j i) 1 0) rest (i ∷ []), eqb_tells i i)

-- A test turns true, and its index is appended.
pub pushed : (tests : List Bool) (indices : List ℕ) (i : ℕ) → i < length tests → slice_index_or tests i false ≡ false
    → HasEachOnce tests indices → HasEachOnce (slice_set tests i true) (indices ++ i ∷ [])
pushed tests indices i h e each = record {
  times = λ k. grind (
    arith,
    common_steps,
    each.times k,
    sum_by-append (λ j. cond (eqb j k) 1 0) indices (i ∷ []),
    eqb_tells i k,
    get_or-set_same tests i true false h,
    get_or-set_other tests i k true false,
  );
  count = grind (arith, common_steps, each.count, sum_by-set (λ b. cond b 1 0) tests i true false h);
}

-- The last index is removed, and its test turns false.
pub popped : (tests : List Bool) (rest : List ℕ) (i : ℕ) → HasEachOnce tests (rest ++ i ∷ [])
    → HasEachOnce (slice_set tests i false) rest
popped tests rest i each =
    let test = last_test tests rest i each in
    let h = within tests i test in
    record {
      times = λ k. grind (
        arith,
        common_steps,
        each.times k,
        sum_by-append (λ j. cond (eqb j k) 1 0) rest (i ∷ []),
        eqb_tells i k,
        get_or-set_same tests i false false h,
        get_or-set_other tests i k false false,
      );
      count = grind (arith, common_steps, each.count, sum_by-set (λ b. cond b 1 0) tests i false false h);
    }

-- A test that says true is appended, and its index too.
pub extended : (tests : List Bool) (indices : List ℕ) → HasEachOnce tests indices
    → HasEachOnce (tests ++ true ∷ []) (indices ++ length tests ∷ [])
extended tests indices each = record {
  times = λ k. grind (
    arith,
    common_steps,
    each.times k,
    sum_by-append (λ j. cond (eqb j k) 1 0) indices
        (length tests ∷ []),
    eqb_tells (length tests) k,
    get_or_past tests k false,
  );
  count = grind (arith, common_steps, each.count, sum_by-append (λ b. cond b 1 0) tests (true ∷ []));
}
