-- Between which ports the connections of a slab stand.
use Rattle.std.specs.Prelude.{◌≡◌, ◌≢◌, ℕ, Bool, List, IsSomeAnd, slice_index_or}
use Rattle.std.specs.declared.option.Option.{Option}
use Rattle.std.specs.declared.option.Option.TheVariants.{None, Some}
use Rattle.std.specs.Option.{option_map}
use Rattle.slab.specs.Slab.{Slab, get}
use Rattle.iox2_connections.specs.Link.{Link}
use Rattle.iox2_machine.specs.machine.Channel.{Channel}
use Rattle.iox2_connections.specs.declared.connection.Home.{Home}
use Rattle.iox2_connections.specs.LookUp.{IsOnly}
use Rattle.iox2_connections.specs.Mailboxes.{is_between}

-- No two connections stand between the same ports.
pub record IsApart (connections : Slab Link) : Type 0 where
  pub one : (p q : ℕ) → IsOnly (is_between p q) connections.slots

-- What no work on messages changes of a connection: where it stands, how many slots may wait, how many may be borrowed,
-- whether it is marked as open, and its channels.
abbrev pub fixed_of : Link → Home × ℕ × ℕ × Bool × List Channel
fixed_of c = (c.home, c.buffer, c.limit, c.is_open, c.channels)

-- No connection is made, none goes, and none moves.
pub record SameHomes (old new : Slab Link) : Type 0 where
  pub same : (key : ℕ) → option_map fixed_of (get new key) ≡ option_map fixed_of (get old key)

-- Each connection of another publisher stays as it is.
pub record KeepsOthers (p : ℕ) (old new : Slab Link) : Type 0 where
  pub stay : (key : ℕ) (c : Link) → get old key ≡ Some c → c.home.publisher ≢ p → get new key ≡ Some c

-- The connection is the publisher p's, which knows it at the place i.
pub record IsSenders (p i : ℕ) (c : Link) : Type 0 where
  pub publisher : c.home.publisher ≡ p
  pub place : c.home.subscriber_place ≡ i

-- Each key that a publisher has at a place names a connection that knows that place.
pub record IsSenderLinked (p : ℕ) (connections : Slab Link) (keys : List (Option ℕ)) : Type 0 where
  pub at : (i key : ℕ) → slice_index_or keys i None ≡ Some key → IsSomeAnd (get connections key) (IsSenders p i)
