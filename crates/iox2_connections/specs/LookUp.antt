-- The record with some key, in a list of places.
use Rattle.std.specs.Prelude.{◌≡◌, ℕ, List, [], ◌∷◌, Bool, true, if◌then◌else◌, slice_index_or}
use Rattle.std.specs.declared.option.Option.{Option}
use Rattle.std.specs.declared.option.Option.TheVariants.{None, Some}

module _ {A : Type 0} where
  -- The first record that passes the test.
  abbrev pub look_up : (A → Bool) → List (Option A) → Option A
  look_up test [] = None
  look_up test (None ∷ xs) = look_up test xs
  look_up test (Some x ∷ xs) = if test x then Some x else look_up test xs

  -- The test holds of one record at most.
  pub record IsOnly (test : A → Bool) (xs : List (Option A)) : Type 0 where
    pub one : (i j : ℕ) (x y : A) → slice_index_or xs i None ≡ Some x → slice_index_or xs j None ≡ Some y
        → test x ≡ true → test y ≡ true → i ≡ j
