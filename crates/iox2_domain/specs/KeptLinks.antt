-- What becomes of connections, and of their channels, in a step that may make some and lose others.
use Rattle.std.specs.Prelude.{◌≡◌, ◌⊎◌, ℕ, List}
use Rattle.std.specs.declared.option.Option.TheVariants.{Some}
use Rattle.slab.specs.Slab.{Slab, get}
use Rattle.iox2_connections.specs.Link.{Link, channel_at}
use Rattle.iox2_connections.specs.declared.connection.Home.{Home}
use Rattle.std.specs.Option.{option_map}
use Rattle.iox2_machine.specs.machine.Channel.{Channel, new_channels}

-- A connection stands there between the same ports, with the same channels.
pub record HasLink (connections : Slab Link) (d : Link) : Type 0 where
  pub key : ℕ
  pub link : Link
  pub stands : get connections key ≡ Some link
  pub home : link.home ≡ d.home
  pub channels : link.channels ≡ d.channels

-- Each connection stands where it stood, with its channels, and no other does.
pub record SameChannels (old new : Slab Link) : Type 0 where
  pub same : (key : ℕ) → option_map {U = Home × List Channel} (λ (c : Link). (c.home, c.channels))
      (get new key) ≡ option_map (λ (c : Link). (c.home, c.channels)) (get old key)

-- No connection stands between p and q.
abbrev pub NoLink : Slab Link → (p q : ℕ) → Type 0
NoLink connections p q =
    (key : ℕ) (c : Link) → get connections key ≡ Some c → c.home.publisher ≡ p → c.home.subscriber ≡ q → ⊥

-- The connection is one of these, and was made: its channels are new, none stood there before, and neither port is
-- gone.
pub record IsMade (Own : Home → Type 0) (Gone : ℕ → ℕ → Type 0) (old : Slab Link) (d : Link) : Type 0 where
  pub own : Own d.home
  pub is_new : channel_at d.channels ≡ new_channels
  pub none : NoLink old d.home.publisher d.home.subscriber
  pub present : Gone d.home.publisher d.home.subscriber → ⊥

-- Some of these connections were made, between ports that are there. Others were lost, each with a port that is gone.
-- All others keep their channels.
pub record ChannelsFollow (Own : Home → Type 0) (Gone : ℕ → ℕ → Type 0) (old new : Slab Link) : Type 0 where
  pub kept : (key : ℕ) (d : Link) → get new key ≡ Some d → HasLink old d ⊎ IsMade Own Gone old d
  pub lost : (key : ℕ) (c : Link) → get old key ≡ Some c
      → HasLink new c ⊎ (Own c.home × Gone c.home.publisher c.home.subscriber)
