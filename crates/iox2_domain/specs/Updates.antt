-- What an update changes of a port and of a domain's fields.
use Rattle.std.specs.Prelude.{◌≡◌, ℕ, Bool, false, if◌then◌else◌, List, slice_index_or, slice_set}
use Rattle.std.specs.declared.option.Option.{Option}
use Rattle.std.specs.declared.option.Option.TheVariants.{None, Some}
use Rattle.std.specs.Option.{option_map, option_map_or, option_and_then}
use Rattle.slab.specs.Slab.{Slab, Updates, get}
use Rattle.iox2_connections.specs.Link.{Link, empty_link}
use Rattle.iox2_machine.specs.machine.Places.{set_place, is_port}
use Rattle.iox2_connections.specs.declared.connection.Home.{Home}
use Rattle.iox2_machine.specs.declared.degradation.DegradationInfo.{DegradationInfo}
use Rattle.iox2_connections.specs.Mailboxes.{publisher_of_key}
use Rattle.iox2_domain.specs.Ports.{PublisherFields, SubscriberFields}

-- The list with the record at the place changed so, if there is one.
abbrev pub changed_at : {A : Type 0} → (A → A) → List (Option A) → (place : ℕ) → List (Option A)
changed_at change xs place = slice_set xs place (option_map change (slice_index_or xs place None))

-- The publisher, with the key of its connection at a subscriber's place.
abbrev pub with_sender_key : (place key : ℕ) → PublisherFields → PublisherFields
with_sender_key place key x = record x { keys = set_place x.keys place (Some key) }

-- The subscriber, with the key of its connection at a publisher's place.
abbrev pub with_receiver_key : (place key : ℕ) → SubscriberFields → SubscriberFields
with_receiver_key place key y = record y { keys = set_place y.keys place (Some key) }

-- The publisher, with no key at a subscriber's place.
abbrev pub without_sender_key : (place : ℕ) → PublisherFields → PublisherFields
without_sender_key place x = record x { keys = slice_set x.keys place None }

-- The subscriber, with no key at a publisher's place.
abbrev pub without_receiver_key : (place : ℕ) → SubscriberFields → SubscriberFields
without_receiver_key place y = record y { keys = slice_set y.keys place None }

-- The publisher, with room for that many keys.
abbrev pub with_sender_room : (room : ℕ) → PublisherFields → PublisherFields
with_sender_room room x = record x { key_room = room }

-- The subscriber, with room for that many keys.
abbrev pub with_receiver_room : (room : ℕ) → SubscriberFields → SubscriberFields
with_receiver_room room y = record y { key_room = room }

-- The subscriber, with room for `room` keys and `expired_room` expired ones.
abbrev pub with_receiver_rooms : (room expired_room : ℕ) → SubscriberFields → SubscriberFields
with_receiver_rooms room expired_room y = record y { key_room = room; expired_room = expired_room }

-- How many keys the port at a place has room for, as `room` says for each port, or 0 if no port is there.
abbrev pub room_at : {A : Type 0} → (A → ℕ) → List (Option A) → (at : ℕ) → ℕ
room_at room ports at = option_map_or room (slice_index_or ports at None) 0

-- How many keys the publisher at a place has room for.
abbrev pub sender_room : List (Option PublisherFields) → (at : ℕ) → ℕ
sender_room publishers at = room_at (λ (x : PublisherFields). x.key_room) publishers at

-- How many keys the subscriber at a place has room for.
abbrev pub receiver_room : List (Option SubscriberFields) → (at : ℕ) → ℕ
receiver_room subscribers at = room_at (λ (y : SubscriberFields). y.key_room) subscribers at

-- How many expired keys the subscriber at a place has room for.
abbrev pub expired_room_at : List (Option SubscriberFields) → (at : ℕ) → ℕ
expired_room_at subscribers at = room_at (λ (y : SubscriberFields). y.expired_room) subscribers at

-- The publisher, whatever room it has for keys.
abbrev pub publisher_but_room : PublisherFields → PublisherFields
publisher_but_room x = with_sender_room 0 x

-- The subscriber, whatever room it has for keys.
abbrev pub subscriber_but_room : SubscriberFields → SubscriberFields
subscriber_but_room y = with_receiver_rooms 0 0 y

-- The key that the port at a place has for its connection at a place of the other side, where a port has these keys.
abbrev pub key_at : {A : Type 0} → (A → List (Option ℕ)) → List (Option A) → (at place : ℕ) → Option ℕ
key_at {A} keys ports at place =
    option_and_then (λ (x : A). slice_index_or (keys x) place None) (slice_index_or ports at None)

-- The key of the publisher's connection at a subscriber's place.
abbrev pub sender_key : List (Option PublisherFields) → (at place : ℕ) → Option ℕ
sender_key publishers at place = key_at (λ (x : PublisherFields). x.keys) publishers at place

-- The key of the subscriber's connection at a publisher's place.
abbrev pub receiver_key : List (Option SubscriberFields) → (at place : ℕ) → Option ℕ
receiver_key subscribers at place = key_at (λ (y : SubscriberFields). y.keys) subscribers at place

-- An open subscriber stands at the place.
abbrev pub is_open_subscriber : List (Option SubscriberFields) → (place : ℕ) → Bool
is_open_subscriber subscribers place =
    option_map_or (λ (y : SubscriberFields). y.is_open) (slice_index_or subscribers place None) false

-- The key, where it leads to a connection of the publisher p.
abbrev pub key_from : Slab Link → (p : ℕ) → Option ℕ → Option ℕ
key_from connections p key = if is_port (publisher_of_key connections key) p then key else None

-- A connection with `count` new channels, in which no slot stands, was made at a key that was free.
pub record MakesConnection (old : Slab Link) (home : Home) (buffer limit count key : ℕ) (new : Slab Link) : Type 0 where
  pub was_free : get old key ≡ None
  pub made : Updates old new key (Some (empty_link home buffer limit count))

-- Where the connection stands of the publisher x at the place i and the subscriber y at the place j.
abbrev pub home_of : (i j : ℕ) → PublisherFields → SubscriberFields → Home
home_of i j x y =
    record { publisher = x.id; subscriber = y.id; publisher_place = i; subscriber_place = j; book = x.book }

-- What a handler is told of the connection that was to stand there, in the service with this number.
abbrev pub refused_between : (service_id : ℕ) → Home → DegradationInfo
refused_between service_id home =
    record { service_id = service_id; sender_port_id = home.publisher; receiver_port_id = home.subscriber }

-- A publisher stands at the place i, and a subscriber with that buffer at the place j; this is where their connection
-- stands.
pub record StandApart (publishers : List (Option PublisherFields)) (subscribers : List (Option SubscriberFields))
    (i j : ℕ) (home : Home) (buffer : ℕ) : Type 0 where
  pub publisher : PublisherFields
  pub subscriber : SubscriberFields
  pub publisher_stands : slice_index_or publishers i None ≡ Some publisher
  pub subscriber_stands : slice_index_or subscribers j None ≡ Some subscriber
  pub home_is : home ≡ home_of i j publisher subscriber
  pub buffer_is : buffer ≡ subscriber.buffer

-- No delivery of the publisher at the place is blocked.
abbrev pub IsUnblockedAt : List (Option PublisherFields) → (place : ℕ) → Type 0
IsUnblockedAt publishers place =
    (x : PublisherFields) → slice_index_or publishers place None ≡ Some x → x.blocked ≡ None

-- The port at the place is due for an update, where a port is due so.
abbrev pub is_due_at : {A : Type 0} → (A → Bool) → List (Option A) → (place : ℕ) → Bool
is_due_at is_due ports place = option_map_or is_due (slice_index_or ports place None) false

-- The publisher at the place is due for an update.
abbrev pub is_publisher_due : List (Option PublisherFields) → (place : ℕ) → Bool
is_publisher_due publishers place = is_due_at (λ (x : PublisherFields). x.is_due) publishers place

-- The subscriber at the place is due for an update.
abbrev pub is_subscriber_due : List (Option SubscriberFields) → (place : ℕ) → Bool
is_subscriber_due subscribers place = is_due_at (λ (y : SubscriberFields). y.is_due) subscribers place
