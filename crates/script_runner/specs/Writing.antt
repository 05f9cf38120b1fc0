-- Writing to a stream that may fail.
use Rattle.std.specs.Prelude.{ℕ, List, Option, ◌++◌, ◌∷◌, ◌≡◌}
use Rattle.std.specs.Io.KnownBytes.{Appends}

-- Known bytes grew by some first ones of these bytes, and not by all.
abbrev pub AppendsPart : Option (List ℕ) → Option (List ℕ) → List ℕ → Type 0
AppendsPart old new bytes =
    (part : List ℕ) × (next : ℕ) × (others : List ℕ) × (bytes ≡ part ++ next ∷ others) × Appends old new part
