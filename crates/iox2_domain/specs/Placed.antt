-- Places of records: the lowest free one, and a record that is put at one.
use Rattle.std.specs.Prelude.{ℕ, zero, suc, List, [], ◌∷◌}
use Rattle.std.specs.declared.option.Option.{Option}
use Rattle.std.specs.declared.option.Option.TheVariants.{None, Some}

-- The lowest place at which nothing stands.
abbrev pub lowest_empty : {A : Type 0} → List (Option A) → ℕ
lowest_empty [] = 0
lowest_empty (None ∷ xs) = 0
lowest_empty (Some x ∷ xs) = suc (lowest_empty xs)

-- The list with the record at the place; it grows where it is too short.
abbrev pub placed : {A : Type 0} → List (Option A) → (place : ℕ) → A → List (Option A)
placed [] zero x = Some x ∷ []
placed [] (suc place) x = None ∷ placed [] place x
placed (y ∷ ys) zero x = Some x ∷ ys
placed (y ∷ ys) (suc place) x = y ∷ placed ys place x
