-- A publisher gets keys of its connections, one of which may be new.
use Rattle.std.proofs.Common.{◌≡◌, ◌<◌, ◌≤◌, le_refl, ℕ, Bool, false, List, length, map, get_or, slice_set, refl, ap}
use Rattle.std.proofs.Common.{sym, ◌∙◌, ◌⊎◌, inl, inr}
use Rattle.std.proofs.lemmas.List.{map-set}
use Rattle.std.specs.declared.option.Option.{Option}
use Rattle.std.specs.declared.option.Option.TheVariants.{None, Some}
use Rattle.std.specs.Option.{option_map}
use Rattle.slab.specs.Slab.{Slab, get}
use Rattle.iox2_connections.specs.Link.{Link}
use Rattle.iox2_machine.specs.machine.Limits.{channel_count}
use Rattle.iox2_machine.specs.machine.Numbers.{put_at}
use Rattle.iox2_machine.specs.machine.Records.{Publisher}
use Rattle.iox2_connections.specs.Homes.{IsSenderLinked}
use Rattle.iox2_connections.specs.Mailboxes.{sender_ends}
use Rattle.iox2_domain.specs.KeptLinks.{ChannelsFollow}
use Rattle.iox2_domain.proofs.lemmas.fields.ConnectionEnds.{subscriber-stands}
use Rattle.iox2_domain.proofs.lemmas.fields.KeptChannels.{channels-are}
use Rattle.iox2_steps.proofs.updates.FollowedChannels.{follow-more}
use Rattle.std.proofs.lemmas.Option.{none-some}
use Rattle.iox2_domain.specs.WarningRing.{WarningRing}
use Rattle.iox2_domain.specs.Ports.{PublisherFields, SubscriberFields}
use Rattle.iox2_domain.specs.Kept.{Named, state_of, port_named, ids, is_named}
use Rattle.iox2_domain.specs.Fields.{Fields, kept_of, publisher_of, number_in_slot, blocked_send}
use Rattle.iox2_domain.specs.Invariant.{IsDomain, HasExpiredRoom, is_publisher}
use Rattle.iox2_domain.proofs.lemmas.containers.LookUps.{IsOnly-map, map-at}
use Rattle.iox2_domain.proofs.lemmas.containers.ChangedRecords.{changed-ids, changed-ports}
use Rattle.iox2_domain.proofs.lemmas.containers.Extensions.{Extends}
use mathlib.Core.Path.{fun_ext}
use Rattle.iox2_steps.proofs.receivers.MoreConnections.{publishers-same, subscribers-same, mailboxes-same}

-- the publisher with these keys
abbrev pub with_keys : PublisherFields → List (Option ℕ) → (key_room : ℕ) → Bool → PublisherFields
with_keys x keys key_room is_due = record x { keys = keys; key_room = key_room; is_due = is_due }

-- the fields with these keys of the publisher x at the place i, these connections and these warnings
abbrev pub with_sender : {T U : Type 0} → Fields T U → (i : ℕ) → PublisherFields → List (Option ℕ) → (key_room : ℕ)
    → Bool → Slab Link → WarningRing → Fields T U
with_sender f i x keys key_room is_due connections warnings =
    record f {
      publishers = slice_set f.publishers i (Some (with_keys x keys key_room is_due));
      connections = connections;
      warnings = warnings;
    }

-- A new connection of the publisher x, which stands at the place i, with a subscriber that is there.
pub record IsNewOfSender {T U : Type 0} (f : Fields T U) (i : ℕ) (x : PublisherFields) (keys : List (Option ℕ))
    (key_room key : ℕ) (c : Link) : Type 0 where
  pub publisher : c.home.publisher ≡ x.id
  pub publisher_place : c.home.publisher_place ≡ i
  pub book : c.home.book ≡ x.book
  pub has : get_or keys c.home.subscriber_place None ≡ Some key
  pub room : c.home.subscriber_place < key_room
  pub limit : c.limit ≡ (f.config).subscriber_max_borrowed_samples
  pub channels : length c.channels ≡ channel_count f.config
  pub unmarked : c.is_open ≡ false
  pub subscriber : SubscriberFields
  pub stands : get_or f.subscribers c.home.subscriber_place None ≡ Some subscriber
  pub is_its : subscriber.id ≡ c.home.subscriber
  pub subscriber_room : c.home.publisher_place < subscriber.key_room
  pub buffer : c.buffer ≡ subscriber.buffer

-- The keys may be those of the publisher x at the place i, among these connections. What remains of its blocked
-- delivery stays.
pub record FitsSender {T U : Type 0} (f : Fields T U) (i : ℕ) (x : PublisherFields) (keys : List (Option ℕ))
    (key_room : ℕ) (connections : Slab Link) : Type 0 where
  pub extends : Extends f.connections connections
  pub grows : x.key_room ≤ key_room
  pub rooms : HasExpiredRoom f.subscribers connections
  pub linked : IsSenderLinked x.id connections keys
  pub keeps : (place key : ℕ) → get_or x.keys place None ≡ Some key → get_or keys place None ≡ Some key
  pub news : (key : ℕ) (c : Link) → get connections key ≡ Some c
      → (get f.connections key ≡ Some c) ⊎ IsNewOfSender f i x keys key_room key c
  pub blocked : option_map (blocked_send (number_in_slot f.books x.id) (sender_ends connections keys)) x.blocked
      ≡ option_map (blocked_send (number_in_slot f.books x.id) (sender_ends f.connections x.keys)) x.blocked

module _ {T U : Type 0} (f : Fields T U) (sound : IsDomain f) (i : ℕ) (x : PublisherFields)
    (at : get_or f.publishers i None ≡ Some x)
    (keys : List (Option ℕ)) (key_room : ℕ) (is_due : Bool) (connections : Slab Link) (warnings : WarningRing)
    (fits : FitsSender f i x keys key_room connections) where
  abbrev shown : List (Option (Named Publisher))
  shown = map (option_map (publisher_of f.books f.connections)) f.publishers

  -- the machine's publisher before and after
  abbrev pub port : Publisher
  port = (publisher_of f.books f.connections x).port

  abbrev pub port_after : Publisher
  port_after = record port { ends = sender_ends connections keys; is_due = is_due }

  after-shown : map (option_map (publisher_of f.books connections))
      (slice_set f.publishers i (Some (with_keys x keys key_room is_due)))
      ≡ slice_set shown i (Some (publisher_of f.books connections (with_keys x keys key_room is_due)))
  after-shown =
      map-set (option_map (publisher_of f.books connections)) f.publishers i (Some (with_keys x keys key_room is_due))
      ∙ ap (λ ns. slice_set ns i (Some (publisher_of f.books connections (with_keys x keys key_room is_due))))
      (publishers-same f sound.parts connections fits.extends)

  -- the machine's publisher afterwards
  after-port : (publisher_of f.books connections (with_keys x keys key_room is_due)).port ≡ port_after
  after-port = λ k. record port_after { blocked = fits.blocked k }

  stands-shown : get_or shown i None ≡ Some (publisher_of f.books f.connections x)
  stands-shown = map-at (publisher_of f.books f.connections) f.publishers i
      ∙ ap (option_map (publisher_of f.books f.connections)) at

  -- the machine's state
  pub sender-is : state_of
      (kept_of (with_sender f i x keys key_room is_due connections warnings)) ≡ record (state_of (kept_of f)) {
        publishers = put_at (state_of (kept_of f)).publishers x.id (Some port_after);
        warnings = warnings.items;
      }
  sender-is = λ k. record (state_of (kept_of f)) {
    publishers = all k;
    subscribers = λ q. port_named q (subscribers-same f sound.parts connections fits.extends k);
    subscriber_places = ids (subscribers-same f sound.parts connections fits.extends k);
    mailboxes = mailboxes-same f sound.parts connections fits.extends k;
    channels = (channels-are (with_sender f i x keys key_room is_due connections warnings)
        ∙ fun_ext (λ p. fun_ext (λ q. fits.extends.channels p q)) ∙ sym (channels-are f)) k;
    publisher_places = places k;
    warnings = warnings.items;
  } where
    all : (state_of (kept_of (with_sender f i x keys key_room is_due connections warnings))).publishers ≡ put_at
        (state_of (kept_of f)).publishers x.id (Some port_after)
    all = fun_ext (λ p. ap (port_named p) after-shown
        ∙ changed-ports shown i (publisher_of f.books f.connections x)
        (publisher_of f.books connections (with_keys x keys key_room is_due)) stands-shown refl
        (λ id. IsOnly-map (publisher_of f.books f.connections) (is_publisher id) (is_named id) (λ z. refl) f.publishers
        (sound.parts.publisher_ids id)) p
        ∙ ap (λ (w : Publisher). put_at (state_of (kept_of f)).publishers x.id (Some w) p) after-port)

    places : (state_of (kept_of (with_sender f i x keys key_room is_due connections warnings))).publisher_places
        ≡ (state_of (kept_of f)).publisher_places
    places = ap ids after-shown ∙ changed-ids shown i (publisher_of f.books f.connections x)
        (publisher_of f.books connections (with_keys x keys key_room is_due)) stands-shown refl

  -- channels stay, and new ones are new
  pub fits-follow : ChannelsFollow (λ home. home.publisher ≡ x.id)
      (λ p q. (state_of (kept_of f)).subscribers q ≡ None) f.connections connections
  fits-follow = follow-more (λ home. home.publisher ≡ x.id) (λ p q. (state_of (kept_of f)).subscribers q ≡ None)
      f.connections connections fits.extends (λ key d at_d. elim (fits.news key d at_d) [
        | inl old ↦ inl old
        | inr n ↦
            inr (
              n.publisher,
              λ gone. none-some _ (sym (ap (state_of (kept_of f)).subscribers n.is_its ∙ gone)
                  ∙ subscriber-stands f sound.parts d.home.subscriber_place n.subscriber n.stands),
            )
      ])

module _ {T U : Type 0} (f : Fields T U) (sound : IsDomain f) (i : ℕ) (x : PublisherFields)
    (at : get_or f.publishers i None ≡ Some x) where
  -- its own keys fit, whatever room there is for connections, and for more keys
  pub fits-grown : (n key_room : ℕ) → x.key_room ≤ key_room
      → FitsSender f i x x.keys key_room (record f.connections { capacity = n })
  fits-grown n key_room grows = record {
    grows = grows;
    rooms = record { at = sound.parts.expired_room.at };
    extends = record {
      apart = record { one = sound.parts.apart.one };
      sums = λ p slot. refl;
      boxes = λ number p q. refl;
      channels = λ p q. refl;
      grows = λ key c at. at;
    };
    linked = record { at = (sound.parts.linked.senders i x at).at };
    keeps = λ place key at. at;
    news = λ key c at. inl at;
    blocked = refl;
  }

  -- with the room that it has
  pub fits-same : (n : ℕ) → FitsSender f i x x.keys x.key_room (record f.connections { capacity = n })
  fits-same n = fits-grown n x.key_room (le_refl x.key_room)
