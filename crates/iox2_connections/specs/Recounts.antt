-- A publisher's connections and the counters of its slots change together.
use Rattle.std.specs.Prelude.{◌≡◌, ℕ, ◌<◌, ◌≤◌, List, length, slice_index}
use Rattle.std.specs.Option.{option_map_or}
use Rattle.slab.specs.Slab.{Slab, get}
use Rattle.iox2_connections.specs.Link.{Link}
use Rattle.iox2_connections.specs.Homes.{SameHomes, KeepsOthers}
use Rattle.iox2_connections.specs.Counters.{CountersFollow}

-- How many slots were given back in the connection at the key and aren't reclaimed yet.
abbrev pub returned_count : Slab Link → (key : ℕ) → ℕ
returned_count connections key = option_map_or (λ (c : Link). length c.returned) (get connections key) 0

-- What stands in the connections of the publisher p changed, and the counters of its slots with it. A slot that wasn't
-- in use still isn't, and nothing was given back.
pub record Recounts (p : ℕ) (holders : List ℕ) (old : Slab Link) (holders' : List ℕ) (new : Slab Link) : Type 0 where
  pub homes : SameHomes old new
  pub others : KeepsOthers p old new
  pub counters : CountersFollow p holders old.slots holders' new.slots
  pub slots : length holders' ≡ length holders
  pub in_use : (slot : ℕ) → 0 < slice_index holders' slot → 0 < slice_index holders slot
  pub fewer : (key : ℕ) → returned_count new key ≤ returned_count old key
