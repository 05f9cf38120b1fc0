-- The subscribers at their places, as a publisher that delivers sees them.
use Rattle.std.specs.Prelude.{◌≡◌, ◌<◌, ℕ, length, Bool, true, false, if◌then◌else◌, not, ◌&&◌, ◌==◌, List, []}
use Rattle.std.specs.Prelude.{slice_index_or}
use Rattle.std.specs.declared.option.Option.{Option}
use Rattle.std.specs.declared.option.Option.TheVariants.{None, Some}
use Rattle.std.specs.Option.{option_and_then}
use Rattle.slab.specs.Slab.{Slab, get}
use Rattle.iox2_connections.specs.Link.{Link, is_shut_in}
use Rattle.iox2_machine.specs.machine.Channel.{is_closed}
use Rattle.iox2_connections.specs.LookUp.{look_up, IsOnly}
use Rattle.iox2_connections.specs.Mailboxes.{channels_in}
use Rattle.iox2_connections.specs.Homes.{IsApart, IsSenderLinked}
use Rattle.iox2_connections.specs.declared.sender.ReceiverDetails.{ReceiverDetails}

-- The receiver has this id.
abbrev pub has_id : ℕ → ReceiverDetails → Bool
has_id q y = y.port_id == q

-- The buffer of a receiver that is open.
abbrev pub buffer_if_open : ReceiverDetails → Option ℕ
buffer_if_open y = if y.is_open then Some y.buffer_size else None

-- The buffers of the receivers that are open, by id.
abbrev pub buffers_of : List (Option ReceiverDetails) → ℕ → Option ℕ
buffers_of receivers q = option_and_then buffer_if_open (look_up (has_id q) receivers)

-- The buffers of the receivers that take messages of the publisher p in that channel, by id: they are open, and so is
-- the channel.
abbrev pub taking_buffers : Slab Link → (p channel : ℕ) → List (Option ReceiverDetails) → ℕ → Option ℕ
taking_buffers connections p channel receivers q =
    if is_closed (channels_in connections p q channel) then None else buffers_of receivers q

-- It is the receiver with that id, and open.
abbrev pub is_open_one : (q : ℕ) → Option ReceiverDetails → Bool
is_open_one q None = false
is_open_one q (Some y) = (y.port_id == q) && y.is_open

-- The receiver with that id stands at the place, and is open.
abbrev pub is_open_at : List (Option ReceiverDetails) → (place q : ℕ) → Bool
is_open_at receivers place q = is_open_one q (slice_index_or receivers place None)

-- The connection takes messages in that channel: its receiver stands at the place and is open, and the channel isn't
-- closed.
abbrev pub takes_at : List (Option ReceiverDetails) → (place channel : ℕ) → Link → Bool
takes_at receivers place channel c = is_open_at receivers place c.home.subscriber && not (is_shut_in channel c)

-- A subscriber that is there stands at the place that its connections name, and has their buffer.
pub record KnowsReceivers (connections : Slab Link) (receivers : List (Option ReceiverDetails)) : Type 0 where
  pub at : (key i : ℕ) (c : Link) (y : ReceiverDetails) → get connections key ≡ Some c
      → slice_index_or receivers i None ≡ Some y → y.port_id ≡ c.home.subscriber
      → (i ≡ c.home.subscriber_place) × (c.buffer ≡ y.buffer_size)

-- The connections at these keys have no slot that was given back and not yet reclaimed.
pub record HasReclaimed (connections : Slab Link) (keys : List (Option ℕ)) : Type 0 where
  pub at : (i key : ℕ) (c : Link) → slice_index_or keys i None ≡ Some key → get connections key ≡ Some c
      → c.returned ≡ []

-- Each connection has a channel with that number. Channel 0 is always there.
pub record HaveChannel (channel : ℕ) (connections : Slab Link) : Type 0 where
  pub at : (key : ℕ) (c : Link) → get connections key ≡ Some c → 0 < channel → channel < length c.channels

-- What a delivery of the publisher p needs of connections, keys and receivers.
pub record IsReadyToDeliver (p : ℕ) (connections : Slab Link) (keys : List (Option ℕ))
    (receivers : List (Option ReceiverDetails)) : Type 0 where
  pub linked : IsSenderLinked p connections keys
  pub apart : IsApart connections
  pub knows : KnowsReceivers connections receivers
  -- The subscriber of a connection that is marked as open is so.
  pub marked : (key : ℕ) (c : Link) → get connections key ≡ Some c → c.is_open ≡ true
      → is_open_at receivers c.home.subscriber_place c.home.subscriber ≡ true
  pub one_id : (q : ℕ) → IsOnly (has_id q) receivers
