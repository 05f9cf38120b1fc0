-- Connections that are marked as open, while their ports close.
use Rattle.std.specs.Prelude.{◌≡◌, ◌≢◌, ℕ, true}
use Rattle.std.specs.declared.option.Option.TheVariants.{Some}
use Rattle.slab.specs.Slab.{Slab, get}
use Rattle.iox2_connections.specs.Link.{Link}
use Rattle.iox2_domain.specs.Fields.{Fields, kept_of}
use Rattle.iox2_domain.specs.Invariant.{IsDomain}
use Rattle.iox2_domain.specs.KeptLinks.{SameChannels}

-- No connection with the publisher's place i is marked as open.
pub record IsUnmarkedSender (connections : Slab Link) (i : ℕ) : Type 0 where
  pub at : (key : ℕ) (c : Link) → get connections key ≡ Some c → c.is_open ≡ true → c.home.publisher_place ≢ i

-- No connection with the subscriber's place j is marked as open.
pub record IsUnmarkedReceiver (connections : Slab Link) (j : ℕ) : Type 0 where
  pub at : (key : ℕ) (c : Link) → get connections key ≡ Some c → c.is_open ≡ true → c.home.subscriber_place ≢ j

-- Nothing changed except marks of connections, which nothing that is kept knows of.
pub record ChangesMarks {T U : Type 0} (f f' : Fields T U) : Type 0 where
  pub agrees : IsDomain f'
  pub fields : f' ≡ record f { connections = f'.connections }
  pub kept : kept_of f' ≡ kept_of f
  pub same : SameChannels f.connections f'.connections

-- The same, and no connection was newly marked as open.
pub record ClearsMarks {T U : Type 0} (f f' : Fields T U) : Type 0 where
  pub changes : ChangesMarks f f'
  pub fewer : (key : ℕ) (c : Link) → get f'.connections key ≡ Some c → c.is_open ≡ true → get f.connections key ≡ Some c

-- The same, and the connection that the publisher at the place i has at the subscriber's place j isn't marked as open.
pub record ClearsEnd {T U : Type 0} (f : Fields T U) (i j : ℕ) (f' : Fields T U) : Type 0 where
  pub clears : ClearsMarks f f'
  pub done : (key : ℕ) (c : Link) → get f'.connections key ≡ Some c → c.is_open ≡ true → c.home.publisher_place ≡ i
      → c.home.subscriber_place ≢ j
