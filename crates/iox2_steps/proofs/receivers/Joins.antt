-- A subscriber gets its end to a publisher, at whose place it has none.
use Rattle.std.proofs.Common.{◌<◌, le_refl, ◌≡◌, ◌≢◌, ℕ, List, get_or, slice_set, refl, ap, sym, subst, ◌∙◌, inl, inr}
use Rattle.std.proofs.lemmas.List.{set-get_or, length-replicate}
use Rattle.std.proofs.lemmas.Bool.{ne_eqb}
use Rattle.std.specs.Prelude.{false}
use Rattle.std.specs.declared.option.Option.{Option}
use Rattle.std.specs.declared.option.Option.TheVariants.{None, Some}
use Rattle.std.specs.Option.{option_map, option_map_or}
use Rattle.slab.specs.Slab.{Slab, get}
use Rattle.iox2_machine.specs.machine.Connections.{DegradationAnswers, failure_of, warnings_after}
use Rattle.iox2_machine.specs.machine.Channel.{new_channel}
use Rattle.iox2_machine.specs.machine.Limits.{channel_count, warning_limit, expired_limit}
use Rattle.iox2_connections.specs.Link.{Link, empty_link}
use Rattle.iox2_machine.specs.machine.Numbers.{put_at}
use Rattle.iox2_machine.specs.machine.Places.{occupant, set_place, is_port}
use Rattle.iox2_machine.specs.machine.Records.{Publisher, Subscriber, Environment}
use Rattle.iox2_machine.specs.machine.State.{has_sender_end}
use Rattle.iox2_machine.specs.machine.SubscriberUpdate.{ReceiverSide, ConnectReceiver, with_receiver_side}
use Rattle.iox2_machine.specs.machine.WellFormed.{IsWellFormed}
use Rattle.iox2_machine.specs.declared.degradation.DegradationAction.{DegradationAction}
use Rattle.iox2_machine.specs.declared.errors.ConnectionFailure.{ConnectionFailure}
use Rattle.iox2_connections.specs.LookUp.{look_up}
use Rattle.iox2_connections.specs.Finds.{IsReceiverLinked, IsReceivers}
use Rattle.iox2_connections.specs.Mailboxes.{is_between, receiver_ends, subscriber_of_key, publisher_of_key}
use Rattle.iox2_connections.proofs.MailboxChanges.{put_at-own}
use Rattle.iox2_laws.proofs.ReceiverSides.{connect_at_place_keeps}
use Rattle.iox2_laws.proofs.SubscriberUpdates.{with_receiver_side_keeps}
use Rattle.iox2_domain.proofs.lemmas.fields.KeptChannels.{but-channels}
use Rattle.iox2_domain.specs.WarningRing.{WarningRing, warning_ring}
use Rattle.iox2_domain.specs.Ports.{PublisherFields, SubscriberFields}
use Rattle.iox2_domain.specs.Kept.{state_of}
use Rattle.iox2_domain.specs.Invariant.{HasParts, IsDomain, connection_count}
use Rattle.iox2_domain.specs.Fields.{Fields, kept_of, publisher_of}
use Rattle.iox2_domain.specs.Updates.{MakesConnection, home_of}
use Rattle.iox2_domain.specs.ReceiverSteps.{current_side, ConnectsEnd}
use Rattle.iox2_domain.proofs.lemmas.containers.ConnectionKeys.{map-set_place, set_place-here, set_place-keeps}
use Rattle.iox2_domain.proofs.lemmas.containers.ConnectionKeys.{set_place-stood}
use Rattle.iox2_domain.proofs.lemmas.fields.ConnectionEnds.{occupant-sender_ends, publisher-stands, subscriber-stands}
use Rattle.iox2_domain.proofs.lemmas.fields.ExpiredRoom.{room-made, room-here}
use Rattle.iox2_domain.proofs.lemmas.fields.Standing.{no-connection, occupant-receiver_ends, publisher-listed}
use Rattle.iox2_domain.proofs.lemmas.fields.Standing.{sender-joins, some_is, subscriber-place}
use Rattle.iox2_domain.proofs.lemmas.containers.Extensions.{Extends, receiver_linked, receiver_ends-same}
use Rattle.iox2_domain.proofs.lemmas.containers.MadeConnections.{made-extends, made-news}
use Rattle.iox2_steps.proofs.updates.ReceiverActions.{connect-makes}
use Rattle.iox2_steps.proofs.updates.ReceiverChanges.{FitsReceiver}
use Rattle.iox2_steps.proofs.receivers.LeftChanges.{present, side-well_formed}
use Rattle.iox2_steps.proofs.receivers.JoinChanges.{joins-follow, receiver-is, receiver_fits-same}
use Rattle.iox2_steps.proofs.receivers.JoinAgrees.{receiver-agrees}
use Rattle.iox2_domain.proofs.lemmas.fields.NamedPorts.{seen, seen_subscriber}
use Rattle.iox2_domain.proofs.lemmas.fields.PlacesKept.{places-still}

module _ {T U : Type 0} (environment : Environment) (f : Fields T U) (sound : IsDomain f) (i j : ℕ)
    (x : PublisherFields) (y : SubscriberFields)
    (at_x : get_or f.publishers i None ≡ Some x) (at_y : get_or f.subscribers j None ≡ Some y)
    (none : get_or y.keys i None ≡ None) where
  abbrev parts : HasParts f
  parts = sound.parts

  abbrev channels : ℕ
  channels = channel_count f.config

  abbrev most : ℕ
  most = (f.config).subscriber_max_borrowed_samples

  -- the subscriber's side with these keys, connections and warnings
  abbrev side_with : List (Option ℕ) → Slab Link → WarningRing → ReceiverSide
  side_with keys connections warnings =
      record {
        ends = receiver_ends connections keys;
        expired = (seen_subscriber f y).expired;
        is_due = y.is_due;
        mailboxes = λ p. (seen f).mailboxes p y.id;
        warnings = warnings.items;
      }

  -- the fields with these
  abbrev pub joined_fields : List (Option ℕ) → Slab Link → WarningRing → Fields T U
  joined_fields keys connections warnings =
      record f {
        subscribers = slice_set f.subscribers j (Some (record y { keys = keys }));
        connections = connections;
        warnings = warnings;
      }

  abbrev Step : ReceiverSide → Option ConnectionFailure → Type 0
  Step side failure =
      ConnectReceiver environment (f.config).service_id y.id (seen_subscriber f y).degradation_handler
      (expired_limit f.config) (λ r. has_sender_end (seen f) r y.id)
      (current_side (seen f) y.id (seen_subscriber f y)) i x.id side failure

  no_end : occupant (seen_subscriber f y).ends i ≡ None
  no_end = occupant-receiver_ends f.connections y.keys i ∙ ap (publisher_of_key f.connections) none

  -- the machine's step is done where the fields change so
  steps-join : (keys : List (Option ℕ)) (connections : Slab Link) (warnings : WarningRing)
      (failure : Option ConnectionFailure) → FitsReceiver f j y keys y.key_room y.expired_room connections
      → warnings.capacity ≡ warning_limit → Step (side_with keys connections warnings) failure
      → ConnectsEnd environment f j i y x.id (joined_fields keys connections warnings) failure
  steps-join keys connections warnings failure fits room step = (
    side_with keys connections warnings,
    record {
      agrees = receiver-agrees f sound j y at_y keys y.key_room y.expired_room y.is_due connections warnings fits room
          (rw state well);
      keys = keys;
      key_room = y.key_room;
      expired = y.expired;
      expired_room = y.expired_room;
      fields = refl;
      others = refl;
      state = but-channels (joined_fields keys connections warnings)
          (with_receiver_side (seen f) y.id (seen_subscriber f y) (side_with keys connections warnings)) state;
      channels = joins-follow f sound.parts j y at_y keys y.key_room y.expired_room y.is_due connections warnings fits;
      entries = λ n entry e. e;
      places = places-still;
    },
    step,
  ) where
    state : state_of (kept_of (joined_fields keys connections warnings)) ≡ with_receiver_side (seen f) y.id
        (seen_subscriber f y) (side_with keys connections warnings)
    state =
        receiver-is f sound.parts j y at_y keys y.key_room y.expired_room y.is_due connections warnings fits
        ∙ (λ k. record (seen f) {
          subscribers = put_at (seen f).subscribers y.id
              (Some (record (seen_subscriber f y) { ends = receiver_ends connections keys; is_due = y.is_due }));
          mailboxes = λ p. put_at-own ((seen f).mailboxes p) y.id k;
          warnings = warnings.items;
        })

    well : IsWellFormed (with_receiver_side (seen f) y.id (seen_subscriber f y) (side_with keys connections warnings))
    well = with_receiver_side_keeps (seen f) sound.well_formed y.id (seen_subscriber f y)
        (side_with keys connections warnings) (present f sound j y at_y)
        (connect_at_place_keeps environment (seen f) sound.well_formed y.id (seen_subscriber f y).degradation_handler
        (λ r. has_sender_end (seen f) r y.id) i
        (current_side (seen f) y.id (seen_subscriber f y)) (side_with keys connections warnings) failure
        (side-well_formed f sound j y at_y)
        (connect-makes environment (f.config).service_id y.id (seen_subscriber f y).degradation_handler
        (expired_limit f.config) (λ r. has_sender_end (seen f) r y.id) i x.id
        (occupant (seen f).publisher_places i) (current_side (seen f) y.id (seen_subscriber f y))
        (publisher-listed f sound.parts i x at_x) (side_with keys connections warnings) failure no_end step))

  abbrev keys_with : (key : ℕ) → List (Option ℕ)
  keys_with key = set_place y.keys i (Some key)

  -- where the new key leads to the publisher, the new ends are the machine's
  leads : (connections : Slab Link) (key : ℕ) (c : Link) → receiver_ends connections y.keys ≡ (seen_subscriber f y).ends
      → get connections key ≡ Some c → c.home.publisher ≡ x.id
      → receiver_ends connections (keys_with key) ≡ set_place (seen_subscriber f y).ends i (Some x.id)
  leads connections key c same at to =
      map-set_place (publisher_of_key connections) refl y.keys i (Some key)
      ∙ (λ k. set_place (same k) i ((ap (option_map (λ (d : Link). d.home.publisher)) at ∙ ap Some to) k))

  -- a key that leads to the publisher may be set
  linked-with : (connections : Slab Link) (key : ℕ) (c : Link) → IsReceiverLinked y.id most connections y.keys
      → get connections key ≡ Some c
      → c.home.subscriber ≡ y.id → c.limit ≡ most → IsReceiverLinked y.id most connections (keys_with key)
  linked-with connections key c old at own limit = record {
    at = λ k other there. elim (set_place-stood y.keys i key k other there) [
      | inl here ↦ rw (here.1, at) (record { subscriber = own; limit = limit })
      | inr before ↦ old.at k other before
    ];
  }

  -- the place of the connection to which a key leads
  places-with : (connections : Slab Link) (key : ℕ) (c : Link) → Extends f.connections connections
      → get connections key ≡ Some c → c.home.publisher_place ≡ i
      → (place k : ℕ) (d : Link) → get_or (keys_with key) place None ≡ Some k → get connections k ≡ Some d
      → d.home.publisher_place ≡ place
  places-with connections key c extends at here place k d at_k at_d = elim (set_place-stood y.keys i key place k at_k) [
    | inl new ↦
        let same : Some d ≡ Some c = sym at_d ∙ ap (get connections) new.1 ∙ at in
        let is : d ≡ c = cc in
        ap (λ (e : Link). e.home.publisher_place) is ∙ here ∙ sym new.0
    | inr before ↦
        let joined = some_is (IsReceivers y.id most) (get f.connections k)
        ((sound.parts.linked.receivers j y at_y).at place k before) in
        let same : Some d ≡ Some joined.0 = sym at_d ∙ extends.grows k joined.0 joined.1 in
        let is : d ≡ joined.0 = cc in
        ap (λ (e : Link). e.home.publisher_place) is
        ∙ sound.parts.linked.receiver_places j place k y joined.0 at_y before joined.1
  ]

  -- the end is made where the keys lead to it
  makes-end : (keys : List (Option ℕ)) (connections : Slab Link) → receiver_ends connections keys ≡ set_place
      (seen_subscriber f y).ends i (Some x.id) → Step (side_with keys connections f.warnings) None
  makes-end keys connections to =
      inl (λ k. record (current_side (seen f) y.id (seen_subscriber f y)) { ends = to k }, refl)

  -- the subscriber joins the publisher's connection
  pub joins-connection : (key : ℕ) (c : Link) → get_or x.keys j None ≡ Some key → get f.connections key ≡ Some c
      → c.home.subscriber ≡ y.id
      → ConnectsEnd environment f j i y x.id
      (joined_fields (set_place y.keys i (Some key)) f.connections f.warnings) None
  joins-connection key c at there its =
      let own = sender-joins f sound.parts i j x y at_x at_y key c at there its in
      let extends = (receiver_fits-same f sound.parts j y at_y f.connections.capacity).extends in
      steps-join (keys_with key) f.connections f.warnings None (record {
        extends = extends;
        grows = le_refl y.key_room;
        expired_grows = le_refl y.expired_room;
        rooms = sound.parts.expired_room;
        linked = linked-with f.connections key c (sound.parts.linked.receivers j y at_y) own.stands own.subscriber
            (sound.parts.linked.limits key c own.stands);
        places = places-with f.connections key c extends own.stands own.publisher_place;
        keeps = set_place-keeps y.keys i key none;
        news = λ k d found. inl found;
      }) sound.parts.warning_room
      (makes-end (keys_with key) f.connections (leads f.connections key c refl own.stands own.publisher))

  -- ---- the publisher has no end to the subscriber either

  module _ (none_x : (key : ℕ) (c : Link) → get_or x.keys j None ≡ Some key → get f.connections key ≡ Some c
      → c.home.subscriber ≢ y.id) where
    abbrev link : Link
    link = empty_link (home_of i j x y) y.buffer most channels

    -- a connection is made
    pub makes-connection : j < x.key_room → i < y.key_room → connection_count f.connections y.id < y.expired_room
        → (key : ℕ) (new : Slab Link)
        → MakesConnection f.connections (home_of i j x y) y.buffer (f.config).subscriber_max_borrowed_samples
        (channel_count f.config) key new
        → ConnectsEnd environment f j i y x.id (joined_fields (set_place y.keys i (Some key)) new f.warnings) None
    makes-connection room_x room room_expired key new made =
        steps-join (keys_with key) new f.warnings None (record {
          extends = extends;
          grows = le_refl y.key_room;
          expired_grows = le_refl y.expired_room;
          rooms = room-made f.subscribers f.connections new key link made.was_free made.made
              (room-here f sound j y at_y room_expired) sound.parts.expired_room;
          linked = linked-with new key link (receiver_linked f.connections new extends y.id most y.keys
              (sound.parts.linked.receivers j y at_y)) made.made.changed refl refl;
          places = places-with new key link extends made.made.changed refl;
          keeps = set_place-keeps y.keys i key none;
          news = λ k c at. elim (made-news f.connections new
              (home_of i j x y) y.buffer most channels key sound.parts.apart nobody made k c at) [
                | inl old ↦ inl old
                | inr is ↦ inr (rw (is.0, is.1) (record {
                  subscriber = refl;
                  subscriber_place = refl;
                  has = set_place-here y.keys i (Some key);
                  room = room;
                  limit = refl;
                  channels = length-replicate channels new_channel;
                  unmarked = refl;
                  buffer = refl;
                  returned = refl;
                  publisher = x;
                  stands = at_x;
                  is_its = refl;
                  book = refl;
                  publisher_room = room_x;
                }))
              ];
        }) sound.parts.warning_room
        (makes-end (keys_with key) new
        (leads new key link (receiver_ends-same f.connections new extends y.id most y.keys
        (sound.parts.linked.receivers j y at_y)) made.made.changed refl))
      where
        nobody : look_up (is_between x.id y.id) f.connections.slots ≡ None
        nobody = no-connection f sound.parts i j x y at_x at_y sound.well_formed none_x
            (λ key c has _ _. let no : None ≡ Some key = sym none ∙ has in absurd cc)

        extends : Extends f.connections new
        extends =
            made-extends f.connections new (home_of i j x y) y.buffer most channels key sound.parts.apart nobody made

    no_sender : has_sender_end (seen f) x.id y.id ≡ false
    no_sender =
        ap (λ o. option_map_or (λ (w : Publisher).
        option_map_or (λ (z : Subscriber). is_port (occupant w.ends z.place) y.id) ((seen f).subscribers y.id) false) o
        false) (publisher-stands f sound.parts i x at_x)
        ∙ ap
        (λ o. option_map_or (λ (z : Subscriber).
        is_port (occupant ((publisher_of f.books f.connections x).port).ends z.place) y.id) o false)
        (subscriber-stands f sound.parts j y at_y)
        ∙ ap (λ o. is_port o y.id)
        (ap (occupant ((publisher_of f.books f.connections x).port).ends)
        (subscriber-place f sound.parts sound.well_formed j y at_y)
        ∙ occupant-sender_ends f.connections x.keys j)
        ∙ by (get_or x.keys j None) refl
      where
        by : (o : Option ℕ) → get_or x.keys j None ≡ o → is_port (subscriber_of_key f.connections o) y.id ≡ false
        by None e = refl
        by (Some key) e = there (get f.connections key) refl where
          there : (l : Option Link) → get f.connections key ≡ l
              → is_port (option_map (λ (d : Link). d.home.subscriber) l) y.id ≡ false
          there None h = refl
          there (Some c) h = ne_eqb c.home.subscriber y.id (none_x key c e h)

    same_subscribers : slice_set f.subscribers j (Some y) ≡ f.subscribers
    same_subscribers = ap (slice_set f.subscribers j) (sym at_y) ∙ set-get_or f.subscribers j None

    -- memory for it is refused, and the subscriber's handler says what comes of that
    pub misses-connection : environment.may_refuse_memory → (action : DegradationAction)
        → DegradationAnswers environment y.id y.degradation_handler
        (record { service_id = (f.config).service_id; sender_port_id = x.id; receiver_port_id = y.id }) action
        → (n : ℕ) → ConnectsEnd environment f j i y x.id (record f {
          connections = record f.connections { capacity = n };
          warnings = warning_ring (warnings_after x.id y.id action f.warnings.items) warning_limit;
        }) (failure_of action)
    misses-connection may action answers n =
        subst (λ (h : Fields T U). ConnectsEnd environment f j i y x.id h (failure_of action)) (λ k. record f {
          subscribers = same_subscribers k;
          connections = record f.connections { capacity = n };
          warnings = warning_ring (warnings_after x.id y.id action f.warnings.items) warning_limit;
        })
        (steps-join y.keys (record f.connections { capacity = n })
        (warning_ring (warnings_after x.id y.id action f.warnings.items) warning_limit) (failure_of action)
        (receiver_fits-same f sound.parts j y at_y n) refl
        (inr (no_sender, warnings_after x.id y.id action f.warnings.items, (action, may, answers, refl, refl), refl)))
