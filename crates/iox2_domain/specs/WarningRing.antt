-- The warnings of a domain as they are kept: in a ring.
use Rattle.std.specs.Prelude.{ℕ}
use Rattle.iox2_machine.specs.machine.State.{Warnings}

-- The warnings that are kept, and how many of the last ones have room.
pub record WarningRing : Type 0 where
  pub items : Warnings
  pub capacity : ℕ

-- The ring with that room which keeps these.
abbrev pub warning_ring : Warnings → (capacity : ℕ) → WarningRing
warning_ring items capacity = record { items = items; capacity = capacity }
