-- A subscriber gets keys of its connections, one of which may be new.
use Rattle.std.proofs.Common.{◌≡◌, ◌<◌, ◌≤◌, ℕ, Bool, false, List, [], length, get_or, slice_set, ◌⊎◌}
use Rattle.std.specs.declared.option.Option.{Option}
use Rattle.std.specs.declared.option.Option.TheVariants.{None, Some}
use Rattle.slab.specs.Slab.{Slab, get}
use Rattle.iox2_connections.specs.Link.{Link}
use Rattle.iox2_machine.specs.machine.Limits.{channel_count}
use Rattle.iox2_connections.specs.Finds.{IsReceiverLinked}
use Rattle.iox2_domain.specs.WarningRing.{WarningRing}
use Rattle.iox2_domain.specs.Ports.{PublisherFields, SubscriberFields}
use Rattle.iox2_domain.specs.Fields.{Fields}
use Rattle.iox2_domain.specs.Invariant.{HasExpiredRoom}
use Rattle.iox2_domain.proofs.lemmas.containers.Extensions.{Extends}

-- the subscriber with these keys
abbrev pub with_keys : SubscriberFields → List (Option ℕ) → (key_room expired_room : ℕ) → Bool → SubscriberFields
with_keys y keys key_room expired_room is_due =
    record y { keys = keys; key_room = key_room; expired_room = expired_room; is_due = is_due }

-- the fields with these keys of the subscriber y at the place j, these connections and these warnings
abbrev pub with_receiver : {T U : Type 0} → Fields T U → (j : ℕ) → SubscriberFields → List (Option ℕ)
    → (key_room expired_room : ℕ) → Bool → Slab Link → WarningRing → Fields T U
with_receiver f j y keys key_room expired_room is_due connections warnings =
    record f {
      subscribers = slice_set f.subscribers j (Some (with_keys y keys key_room expired_room is_due));
      connections = connections;
      warnings = warnings;
    }

-- A new connection of the subscriber y, which stands at the place j, with a publisher that is there.
pub record IsNewOfReceiver {T U : Type 0} (f : Fields T U) (j : ℕ) (y : SubscriberFields) (keys : List (Option ℕ))
    (key_room key : ℕ) (c : Link) : Type 0 where
  pub subscriber : c.home.subscriber ≡ y.id
  pub subscriber_place : c.home.subscriber_place ≡ j
  pub has : get_or keys c.home.publisher_place None ≡ Some key
  pub room : c.home.publisher_place < key_room
  pub limit : c.limit ≡ (f.config).subscriber_max_borrowed_samples
  pub channels : length c.channels ≡ channel_count f.config
  pub unmarked : c.is_open ≡ false
  pub buffer : c.buffer ≡ y.buffer
  pub returned : c.returned ≡ []
  pub publisher : PublisherFields
  pub stands : get_or f.publishers c.home.publisher_place None ≡ Some publisher
  pub is_its : publisher.id ≡ c.home.publisher
  pub book : c.home.book ≡ publisher.book
  pub publisher_room : c.home.subscriber_place < publisher.key_room

-- The keys may be those of the subscriber y at the place j, among these connections.
pub record FitsReceiver {T U : Type 0} (f : Fields T U) (j : ℕ) (y : SubscriberFields) (keys : List (Option ℕ))
    (key_room expired_room : ℕ) (connections : Slab Link) : Type 0 where
  pub extends : Extends f.connections connections
  pub grows : y.key_room ≤ key_room
  pub expired_grows : y.expired_room ≤ expired_room
  pub rooms : HasExpiredRoom f.subscribers connections
  pub linked : IsReceiverLinked y.id (f.config).subscriber_max_borrowed_samples connections keys
  pub places : (place key : ℕ) (c : Link) → get_or keys place None ≡ Some key → get connections key ≡ Some c
      → c.home.publisher_place ≡ place
  pub keeps : (place key : ℕ) → get_or y.keys place None ≡ Some key → get_or keys place None ≡ Some key
  pub news : (key : ℕ) (c : Link) → get connections key ≡ Some c
      → (get f.connections key ≡ Some c) ⊎ IsNewOfReceiver f j y keys key_room key c
