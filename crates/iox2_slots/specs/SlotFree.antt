-- The list of a publisher's free slots, which no contract shows.
use Rattle.std.specs.Prelude.{◌≡◌, ◌+◌, ◌<◌, ◌++◌, ℕ, List, length, slice_index, slice_index_or, map, take, drop, Bool}
use Rattle.std.specs.Prelude.{false, if◌then◌else◌, ◌==◌}
use Rattle.std.specs.List.{count_by}

-- The list has each index at which the tests say true once, and no other.
pub record HasEachOnce (tests : List Bool) (indices : List ℕ) : Type 0 where
  pub times : (i : ℕ) → count_by (λ j. j == i) indices ≡ (if slice_index_or tests i false then 1 else 0)
  pub count : length indices ≡ count_by (λ b. b) tests

-- The list has each slot that isn't in use once, and no other.
pub record HasFree (holders free : List ℕ) : Type 0 where
  pub each : HasEachOnce (map (λ n. n == 0) holders) free

-- The slot at a place of the list is taken out of it.
pub record IsTakenOut (old new : List ℕ) (place slot : ℕ) : Type 0 where
  pub there : place < length old
  pub is : slice_index old place ≡ slot
  pub rest : new ≡ take place old ++ drop (place + 1) old
