-- What a publisher's update comes to at one place, whoever stands there.
use Rattle.std.proofs.Common.{◌≡◌, ℕ, false, cond, List, [], map, get_or, slice_set, refl, ap, sym, subst, ◌∙◌, set-set}
use Rattle.std.proofs.lemmas.Bool.{ne_eqb}
use Rattle.std.proofs.lemmas.List.{set-get_or}
use Rattle.std.proofs.lemmas.Option.{same_Some}
use Rattle.std.specs.declared.option.Option.{Option}
use Rattle.std.specs.declared.option.Option.TheVariants.{None, Some}
use Rattle.std.specs.Option.{option_map, option_map_or, option_and_then}
use Rattle.slab.specs.Slab.{get}
use Rattle.iox2_connections.specs.Link.{Link}
use Rattle.iox2_machine.specs.machine.Numbers.{put_at}
use Rattle.iox2_machine.specs.machine.Places.{occupant, set_place, is_port}
use Rattle.iox2_machine.specs.machine.Records.{Publisher, Subscriber, Environment}
use Rattle.iox2_machine.specs.machine.State.{State, receiving_buffer, has_receiver_end}
use Rattle.iox2_machine.specs.machine.PublisherUpdate.{SenderSide, UpdateSenderPlace, dropped, disconnected}
use Rattle.iox2_machine.specs.machine.PublisherUpdate.{sender_side, with_sender_side}
use Rattle.iox2_machine.specs.declared.errors.ConnectionFailure.{ConnectionFailure}
use Rattle.iox2_connections.proofs.MailboxChanges.{put_at-own}
use Rattle.iox2_laws.proofs.SenderSides.{end_set}
use Rattle.iox2_laws.proofs.Puts.{put_at-same}
use Rattle.iox2_machine.specs.machine.Channel.{Channel, is_closed}
use Rattle.iox2_domain.specs.KeptLinks.{ChannelsFollow}
use Rattle.iox2_domain.specs.Midway.{with_channels_of}
use Rattle.iox2_domain.proofs.lemmas.fields.KeptChannels.{but-channels, channels-are}
use Rattle.iox2_steps.proofs.updates.FollowedChannels.{follow-both, follow-present, follow-same}
use Rattle.iox2_steps.proofs.updates.SenderPresent.{stands-present}
use Rattle.iox2_domain.specs.Ports.{PublisherFields, SubscriberFields}
use Rattle.iox2_domain.specs.Kept.{state_of}
use Rattle.iox2_domain.specs.Fields.{Fields, kept_of, publisher_of, subscriber_of}
use Rattle.iox2_domain.specs.Invariant.{IsDomain}
use Rattle.iox2_domain.specs.Updates.{is_open_subscriber, subscriber_but_room}
use Rattle.iox2_domain.specs.Connects.{histories_of, ConnectsSender}
use Rattle.iox2_domain.specs.Drops.{LosesWaiting, LosesSenderEnd, StandsElsewhere}
use Rattle.iox2_domain.proofs.lemmas.containers.ChangedRecords.{changed-here}
use Rattle.iox2_domain.proofs.lemmas.fields.ConnectionEnds.{publisher-stands, subscriber-stands, occupant-sender_ends}
use Rattle.iox2_domain.proofs.lemmas.fields.Standing.{subscriber-listed}
use Rattle.iox2_steps.proofs.updates.SenderActions.{update-nothing, update-drops, update-after}
use Rattle.iox2_steps.proofs.updates.SenderSteps.{StepsSender, now, port}
use Rattle.iox2_steps.proofs.updates.SenderWalk.{publisher_mid, state-again, step-again}
use Rattle.iox2_steps.proofs.updates.WaitingDropped.{end-leads, dropped-side}
use Rattle.iox2_domain.proofs.lemmas.fields.NamedPorts.{seen, seen_publisher, named-at}
use Rattle.iox2_domain.proofs.lemmas.fields.PlacesKept.{places-still, places-then}

module _ {T U : Type 0} (environment : Environment) (f : Fields T U) (sound : IsDomain f) (i j : ℕ)
    (x : PublisherFields)
    (here : get_or f.publishers i None ≡ Some x) (due : x.is_due ≡ false) where
  abbrev side : SenderSide
  side = sender_side (seen f) x.id (seen_publisher f x)

  same_publishers : slice_set f.publishers i (Some x) ≡ f.publishers
  same_publishers = ap (slice_set f.publishers i) (sym here) ∙ set-get_or f.publishers i None

  -- who stands at the place, to the machine
  who : occupant (seen f).subscriber_places j ≡ option_map (λ (y : SubscriberFields). y.id)
      (get_or f.subscribers j None)
  who = named-at (subscriber_of f.books f.connections) f.subscribers j

  -- a closed subscriber takes no messages
  closed-buffer : (y : SubscriberFields) → get_or f.subscribers j None ≡ Some y → y.is_open ≡ false
      → receiving_buffer (seen f) y.id ≡ None
  closed-buffer y at closed =
      ap (option_and_then (λ (z : Subscriber). cond z.is_open (Some z.buffer) None))
      (subscriber-stands f sound.parts j y at)
      ∙ ap (λ b. cond b (Some y.buffer) None) closed

  nobody-takes : is_open_subscriber f.subscribers j ≡ false
      → option_and_then (receiving_buffer (seen f)) (occupant (seen f).subscriber_places j) ≡ None
  nobody-takes closed =
      ap (option_and_then (receiving_buffer (seen f))) who ∙ by (get_or f.subscribers j None) refl where
        by : (o : Option SubscriberFields) → get_or f.subscribers j None ≡ o
            → option_and_then (receiving_buffer (seen f)) (option_map (λ (y : SubscriberFields). y.id) o) ≡ None
        by None e = refl
        by (Some y) e =
            closed-buffer y e (sym (ap (λ o. option_map_or (λ (z : SubscriberFields). z.is_open) o false) e) ∙ closed)

  -- ---- nothing is done

  pub stays-as : StepsSender f environment j x (sender_side (now f) x.id (port f x)) None
      → ConnectsSender environment f i j x f None
  stays-as step = record {
    agrees = sound;
    keys = x.keys;
    key_room = x.key_room;
    fields = λ t. record f { publishers = sym same_publishers t };
    others = refl;
    side = side;
    steps = step;
    state = but-channels f (with_sender_side (seen f) x.id (seen_publisher f x) side) (λ t. record (seen f) {
      publishers = (put_at-own (seen f).publishers x.id ∙ ap (put_at (seen f).publishers x.id)
          (publisher-stands f sound.parts i x here)
          ∙ (λ k. put_at (seen f).publishers x.id (Some (record (seen_publisher f x) { is_due = due k })))) t;
      mailboxes = put_at-own (seen f).mailboxes x.id t;
    });
    channels = follow-same (λ home. home.publisher ≡ x.id)
        (λ p q. (seen f).subscribers q ≡ None) f.connections f.connections (record { same = λ k. refl });
    entries = λ n entry e. e;
    places = places-still;
  }

  -- where it has no end and no open subscriber stands
  pub nothing-as : get_or x.keys j None ≡ None → is_open_subscriber f.subscribers j ≡ false
      → ConnectsSender environment f i j x f None
  nothing-as none closed =
      stays-as (update-nothing environment (f.config).service_id x.id (seen_publisher f x).degradation_handler
      (histories_of f x) (receiving_buffer (seen f)) (has_receiver_end (seen f) x.id) j
      (occupant (seen f).subscriber_places j) side (occupant-sender_ends f.connections x.keys j
      ∙ ap (λ o. option_map (λ (c : Link). c.home.subscriber) (option_and_then (get f.connections) o)) none)
      (nobody-takes closed))

  -- ---- what waits is lost

  pub drops-as : (key : ℕ) (c : Link) (y : SubscriberFields) → get_or x.keys j None ≡ Some key
      → get f.connections key ≡ Some c
      → get_or f.subscribers j None ≡ Some y → c.home.subscriber ≡ y.id → y.is_open ≡ false
      → (f' : Fields T U) → LosesWaiting f x c f' → ConnectsSender environment f i j x f' None
  drops-as key c y has there at to closed f' loses = record {
    agrees = loses.agrees;
    keys = x.keys;
    key_room = x.key_room;
    fields = loses.fields ∙ (λ t. record f {
      publishers = sym same_publishers t;
      subscribers = sym subscribers t;
      connections = f'.connections;
      books = f'.books;
      warnings = sym warnings t;
    });
    others = ap (λ (ys : List (Option SubscriberFields)). map (option_map subscriber_but_room) ys) subscribers;
    side = dropped side c.home.subscriber;
    steps = update-drops environment (f.config).service_id x.id (seen_publisher f x).degradation_handler
        (histories_of f x) (receiving_buffer (seen f)) (has_receiver_end (seen f) x.id) j
        (occupant (seen f).subscriber_places j) side c.home.subscriber
        (subscriber-listed f sound.parts j y at ∙ ap Some (sym to))
        (ap (receiving_buffer (seen f)) to ∙ closed-buffer y at closed)
        (end-leads f sound i j x here due key has c there);
    state = but-channels f' (with_sender_side (seen f) x.id (seen_publisher f x) (dropped side c.home.subscriber))
        (loses.state ∙ dropped-side f sound i j x here due key has c there);
    channels = follow-same (λ home. home.publisher ≡ x.id)
        (λ p q. (seen f).subscribers q ≡ None) f.connections f'.connections loses.homes;
    entries = loses.entries;
    places = loses.places;
  } where
    subscribers : f'.subscribers ≡ f.subscribers
    subscribers = ap (λ (h : Fields T U). h.subscribers) loses.fields

    warnings : f'.warnings ≡ f.warnings
    warnings = ap (λ (h : Fields T U). h.warnings) loses.fields

  -- ---- the end goes first

  module _ (key : ℕ) (c : Link) (has : get_or x.keys j None ≡ Some key) (there : get f.connections key ≡ Some c)
      (elsewhere : StandsElsewhere f.subscribers j c.home.subscriber) (f1 : Fields T U)
      (loses : LosesSenderEnd f i j x f1) where
    abbrev pub without_end : PublisherFields
    without_end = record x { keys = set_place x.keys j None }

    abbrev side1 : SenderSide
    side1 = disconnected side j (occupant (seen_publisher f x).ends j)

    pub without-stands : get_or f1.publishers i None ≡ Some without_end
    without-stands = ap (λ (h : Fields T U). get_or h.publishers i None) loses.fields
        ∙ changed-here f.publishers i x without_end here

    -- whoever stands there, the end leads to another
    other : (q : ℕ) → occupant (seen f).subscriber_places j ≡ Some q
        → is_port (occupant (seen_publisher f x).ends j) q ≡ false
    other q stands = ap (λ o. is_port o q) (end-leads f sound i j x here due key has c there)
        ∙ ne_eqb c.home.subscriber q (λ same. by (get_or f.subscribers j None) refl same) where
          by : (o : Option SubscriberFields) → get_or f.subscribers j None ≡ o → c.home.subscriber ≡ q → ⊥
          by None e same = let none : None ≡ Some q = sym (who ∙ ap (option_map (λ (y : SubscriberFields). y.id)) e)
              ∙ stands in absurd cc
          by (Some y) e same =
              let is : Some y.id ≡ Some q = sym (who ∙ ap (option_map (λ (y : SubscriberFields). y.id)) e) ∙ stands in
              elsewhere y e (same_Some y.id q is ∙ sym same)

    cleared : occupant side1.ends j ≡ None
    cleared = by (occupant (seen_publisher f x).ends j) refl where
      by : (o : Option ℕ) → occupant (seen_publisher f x).ends j ≡ o → occupant (disconnected side j o).ends j ≡ None
      by None e = e
      by (Some q) e = end_set (seen_publisher f x).ends j None

    port-is : (publisher_of f1.books f1.connections without_end).port ≡ publisher_mid environment (seen f) x.id
        (seen_publisher f x) (publisher-stands f sound.parts i x here) side1
    port-is =
        same_Some _ _ (sym (publisher-stands f1 loses.agrees.parts i without_end without-stands)
        ∙ ap (λ (t : State T U). t.publishers x.id) loses.state
        ∙ put_at-same (seen f).publishers x.id
        (Some (publisher_mid environment (seen f) x.id (seen_publisher f x)
        (publisher-stands f sound.parts i x here) side1)))

    pub loses-then : (f2 : Fields T U) (failure : Option ConnectionFailure)
        → ConnectsSender environment f1 i j without_end f2 failure → ConnectsSender environment f i j x f2 failure
    loses-then f2 failure step = record {
      agrees = step.agrees;
      keys = step.keys;
      key_room = step.key_room;
      fields = step.fields
          ∙ (λ t. record (loses.fields t) {
            publishers = slice_set (loses.fields t).publishers i
                (Some (record x { keys = step.keys; key_room = step.key_room }));
            subscribers = f2.subscribers;
            connections = f2.connections;
            books = f2.books;
            warnings = f2.warnings;
          })
          ∙ ap (λ (xs : List (Option PublisherFields)). record f {
            publishers = xs;
            subscribers = f2.subscribers;
            connections = f2.connections;
            books = f2.books;
            warnings = f2.warnings;
          })
          (set-set f.publishers i (Some without_end) (Some (record x { keys = step.keys; key_room = step.key_room })));
      others = step.others ∙ ap (λ (h : Fields T U). map (option_map subscriber_but_room) h.subscribers) loses.fields;
      side = step.side;
      steps = update-after environment (f.config).service_id x.id (seen_publisher f x).degradation_handler
          (histories_of f x) (receiving_buffer (seen f)) (has_receiver_end (seen f) x.id) j
          (occupant (seen f).subscriber_places j) side
          (occupant (seen_publisher f x).ends j) refl other step.side failure cleared machine;
      state = step.state
          ∙ (λ t. with_channels_of f2 (with_sender_side (loses.state t) x.id (port-is t) step.side))
          ∙ ap (with_channels_of f2) (state-again environment (seen f) x.id (seen_publisher f x)
          (publisher-stands f sound.parts i x here) side1 step.side);
      channels = follow-both (λ home. home.publisher ≡ x.id)
          (λ p q. (seen f).subscribers q ≡ None) f.connections f1.connections f2.connections loses.channels
          (subst (λ (subscribers : ℕ → Option Subscriber). ChannelsFollow (λ home. home.publisher ≡ x.id)
          (λ p q. subscribers q ≡ None) f1.connections f2.connections)
          (ap (λ (t : State T U). t.subscribers) loses.state) step.channels);
      entries = λ n entry e. loses.entries n entry (step.entries n entry e);
      places = places-then loses.places step.places;
    } where
      same-history : (q : ℕ) → occupant (seen f).subscriber_places j ≡ Some q
          → histories_of f1 without_end q ≡ histories_of f x q
      same-history q stands =
          (λ k. cond (is_closed ((channels-kept k) 0)) [] (port-is k).history)
        where
          channels-kept : (state_of (kept_of f1)).channels x.id q ≡ (seen f).channels x.id q
          channels-kept =
              ap (λ (channels : ℕ → ℕ → ℕ → Channel). channels x.id q) (channels-are f1)
              ∙ follow-present (λ home. home.publisher ≡ x.id) (λ p r. (seen f).subscribers r ≡ None) f.connections
              f1.connections sound.parts.apart loses.agrees.parts.apart loses.channels x.id q
              (λ gone. stands-present f sound j q stands gone)
              ∙ sym (ap (λ (channels : ℕ → ℕ → ℕ → Channel). channels x.id q) (channels-are f))

      machine : UpdateSenderPlace environment (f.config).service_id x.id (seen_publisher f x).degradation_handler
          (histories_of f x) (receiving_buffer (seen f)) (has_receiver_end (seen f) x.id) j
          (occupant (seen f).subscriber_places j) side1 step.side failure
      machine = step-again environment (seen f) x.id (seen_publisher f x)
          (publisher-stands f sound.parts i x here) side1 (histories_of f1 without_end) j step.side failure same-history
          (subst (λ (z : Publisher). UpdateSenderPlace environment (f.config).service_id x.id z.degradation_handler
          (histories_of f1 without_end) (receiving_buffer (with_sender_side (seen f) x.id (seen_publisher f x) side1))
          (has_receiver_end (with_sender_side (seen f) x.id (seen_publisher f x) side1) x.id) j
          (occupant (seen f).subscriber_places j)
          (sender_side (with_sender_side (seen f) x.id (seen_publisher f x) side1) x.id z) step.side failure) port-is
          (subst (λ (t : State T U). UpdateSenderPlace environment (t.config).service_id x.id
          (publisher_of f1.books f1.connections without_end).port.degradation_handler (histories_of f1 without_end)
          (receiving_buffer t) (has_receiver_end t x.id) j (occupant t.subscriber_places j)
          (sender_side t x.id (publisher_of f1.books f1.connections without_end).port) step.side failure) loses.state
          step.steps))
