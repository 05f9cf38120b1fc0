-- The lists that a publisher keeps for the cells of its loans, which no public contract shows.
use Rattle.std.specs.Prelude.{ℕ, List, [], ◌∷◌}
use Rattle.std.specs.List.{All}

-- How many cells can be shown and listed, how many lists are to spare, and for how many of these there is room.
pub record SpareLists : Type 0 where
  pub most : ℕ
  pub spare : ℕ
  pub room : ℕ

module _ {A : Type 0} where
  -- What is counted of the first one, and 0 where there is none.
  abbrev pub of_first : (count : A → ℕ) → List A → ℕ
  of_first count [] = 0
  of_first count (x ∷ xs) = count x

  -- There is a first one. P holds for it, and Q holds for it and each other one.
  abbrev pub FirstAnd : (P : A → Type 0) → (Q : A → A → Type 0) → List A → Type 0
  FirstAnd P Q [] = ⊥
  FirstAnd P Q (x ∷ xs) = P x × All (Q x) xs
