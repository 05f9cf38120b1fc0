-- What the close of a publisher leaves of a domain's fields.
use Rattle.std.specs.Prelude.{◌≡◌, ◌⊎◌, ℕ, Bool, true, false, if◌then◌else◌, ◌==◌, ◌&&◌, List, slice_index_or}
use Rattle.std.specs.Prelude.{slice_set}
use Rattle.std.specs.declared.option.Option.{Option}
use Rattle.std.specs.declared.option.Option.TheVariants.{None, Some}
use Rattle.std.specs.Option.{option_map_or, option_and_then}
use Rattle.slab.specs.Slab.{Slab, get}
use Rattle.iox2_connections.specs.Link.{Link}
use Rattle.iox2_machine.specs.machine.Places.{is_port}
use Rattle.iox2_connections.specs.Leaves.{left_link, holds_slots}
use Rattle.iox2_domain.specs.Ports.{PublisherFields, SubscriberFields}
use Rattle.iox2_domain.specs.Departures.{HasKey}
use Rattle.iox2_domain.specs.Updates.{receiver_key}

-- ---- one connection

-- This subscriber is the connection's, is open, and has it at this key.
abbrev pub joins : (key : ℕ) → Link → SubscriberFields → Bool
joins key c y =
    (y.id == c.home.subscriber) && (y.is_open && is_port (slice_index_or y.keys c.home.publisher_place None) key)

-- What waits in the connection at the key waits for somebody: its subscriber is open and has its end.
abbrev pub is_awaited : List (Option SubscriberFields) → (key : ℕ) → Link → Bool
is_awaited subscribers key c =
    option_map_or (joins key c) (slice_index_or subscribers c.home.subscriber_place None) false

-- The connection, where some slot waits or is borrowed.
abbrev pub if_holding : Link → Option Link
if_holding c = if holds_slots c then Some c else None

-- What is left of the connection at the key when the publisher p leaves.
abbrev pub after_close : (p : ℕ) → List (Option SubscriberFields) → (key : ℕ) → Link → Option Link
after_close p subscribers key c =
    if c.home.publisher == p then if_holding (left_link (is_awaited subscribers key c) c) else Some c

-- ---- some of them

-- Some subscriber has the key at the publisher's place.
abbrev pub SomeHasKey : List (Option SubscriberFields) → (place key : ℕ) → Type 0
SomeHasKey subscribers place key = (j : ℕ) × (receiver_key subscribers j place ≡ Some key)

-- The publisher p has left its connections at these keys, and perhaps others of its connections.
pub record LeavesAt (p : ℕ) (subscribers : List (Option SubscriberFields)) (keys : ℕ → Type 0)
    (old new : Slab Link) : Type 0 where
  pub at : (key : ℕ) → keys key → get new key ≡ option_and_then (after_close p subscribers key) (get old key)
  pub others : (key : ℕ)
      → (get new key ≡ get old key) ⊎ (get new key ≡ option_and_then (after_close p subscribers key) (get old key))

-- Each connection of the publisher x at the place stands at one of its keys, or at one that a subscriber has at that
-- place.
pub record FindsAll (x : PublisherFields) (place : ℕ) (subscribers : List (Option SubscriberFields))
    (connections : Slab Link) : Type 0 where
  pub at : (key : ℕ) (c : Link) → get connections key ≡ Some c → c.home.publisher ≡ x.id
      → HasKey x.keys key ⊎ SomeHasKey subscribers place key

-- ---- all of them

-- The publisher p has left its connections. Where nothing waits or is borrowed any more, the connection is gone.
pub record LeavesConnections (p : ℕ) (subscribers : List (Option SubscriberFields)) (old new : Slab Link) : Type 0 where
  pub at : (key : ℕ) → get new key ≡ option_and_then (after_close p subscribers key) (get old key)

-- The keys without the one at the place, where it leads to no connection any more.
abbrev pub keys_left : Slab Link → (place : ℕ) → List (Option ℕ) → List (Option ℕ)
keys_left connections place keys =
    elim (option_and_then (get connections) (slice_index_or keys place None))
    [ None ↦ slice_set keys place None | Some c ↦ keys ]

-- The subscriber without its end at the publisher's place, where that led to a connection that is gone; and due.
abbrev pub left_subscriber : Slab Link → (place : ℕ) → SubscriberFields → SubscriberFields
left_subscriber connections place y = record y { keys = keys_left connections place y.keys; is_due = true }
