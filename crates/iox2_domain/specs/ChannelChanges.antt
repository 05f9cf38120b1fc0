-- Channels of some connections are changed.
use Rattle.std.specs.Prelude.{◌≡◌, ◌⊎◌, ℕ}
use Rattle.std.specs.Option.{option_map}
use Rattle.slab.specs.Slab.{Slab, get}
use Rattle.iox2_connections.specs.Link.{Link}

-- The connections at these keys are changed so, and perhaps others of the same change; all others stay.
pub record ChangesLinks (change : Link → Link) (keys : ℕ → Type 0) (old new : Slab Link) : Type 0 where
  pub at : (key : ℕ) → keys key → get new key ≡ option_map change (get old key)
  pub others : (key : ℕ) → (get new key ≡ get old key) ⊎ (get new key ≡ option_map change (get old key))
  pub only : (key : ℕ) → (keys key → ⊥) → get new key ≡ get old key
