-- A publisher's update of a domain's fields.
use Rattle.std.proofs.Common.{◌≡◌, ℕ, ◌+◌, ◌<◌, ◌≤◌, true, false, cond, List, [], map, length, drop, get_or, slice_set}
use Rattle.std.proofs.Common.{refl, ap, sym, subst, ◌∙◌, arith}
use Rattle.std.proofs.lemmas.List.{set-set, set-get_or, length-map}
use Rattle.std.proofs.lemmas.Option.{same_Some}
use Rattle.std.specs.declared.option.Option.{Option}
use Rattle.std.specs.declared.option.Option.TheVariants.{None, Some}
use Rattle.std.specs.Option.{option_map, option_map_or}
use Rattle.iox2_machine.specs.machine.Connections.{ForEachPlace, first_failure}
use Rattle.iox2_machine.specs.machine.Numbers.{put_at}
use Rattle.iox2_machine.specs.machine.Places.{occupant}
use Rattle.iox2_machine.specs.machine.PublisherUpdate.{SenderSide, UpdateSenderPlace, sender_side, with_sender_side}
use Rattle.iox2_machine.specs.machine.Records.{Entry, Publisher, Subscriber, Environment}
use Rattle.iox2_machine.specs.machine.State.{sender_channels_reset, State, receiving_buffer, has_receiver_end}
use Rattle.iox2_laws.proofs.Puts.{put_at-same}
use Rattle.iox2_laws.proofs.SenderSides.{sender_side_begins}
use Rattle.iox2_laws.proofs.PublisherUpdates.{with_sender_side_keeps}
use Rattle.iox2_machine.specs.declared.errors.ConnectionFailure.{ConnectionFailure}
use Rattle.iox2_connections.proofs.MailboxChanges.{put_at-own}
use Rattle.iox2_machine.specs.machine.Channel.{Channel, is_closed}
use Rattle.iox2_domain.specs.KeptLinks.{ChannelsFollow}
use Rattle.iox2_domain.specs.Midway.{with_channels_of}
use Rattle.iox2_domain.proofs.lemmas.fields.KeptChannels.{but-channels, channels-are}
use Rattle.iox2_steps.proofs.updates.FollowedChannels.{follow-both, follow-present, follow-same}
use Rattle.iox2_steps.proofs.updates.ResetChannels.{sender-reset}
use Rattle.iox2_steps.proofs.updates.SenderPresent.{stands-present}
use Rattle.iox2_domain.specs.Ports.{PublisherFields}
use Rattle.iox2_domain.specs.Kept.{state_of, entries_of}
use Rattle.iox2_domain.specs.Fields.{Fields, kept_of, publisher_of, subscriber_of}
use Rattle.iox2_domain.specs.Invariant.{IsDomain}
use Rattle.iox2_domain.specs.Updates.{is_publisher_due, subscriber_but_room}
use Rattle.iox2_domain.specs.Connects.{histories_of, SenderChannelsFollow, ConnectsSender, UpdatesKeptPublisher}
use Rattle.iox2_domain.proofs.lemmas.fields.Views.{unblocked}
use Rattle.iox2_domain.proofs.lemmas.fields.ConnectionEnds.{publisher-stands}
use Rattle.iox2_domain.proofs.lemmas.containers.ChangedRecords.{changed-here}
use Rattle.iox2_steps.proofs.updates.SenderChanges.{sender-is, fits-same}
use Rattle.iox2_steps.proofs.updates.SenderAgrees.{sender-agrees}
use Rattle.iox2_steps.proofs.updates.SenderWalk.{AtPlace, publisher_mid, state-again, step-again, walk-goes-on}
use Rattle.iox2_steps.proofs.updates.SenderWalk.{walk-ends, due-updates, idle-updates as machine-idle}
use Rattle.iox2_steps.proofs.updates.SenderWalk.{first_failure-none, first_failure-assoc}
use Rattle.iox2_domain.proofs.lemmas.fields.NamedPorts.{seen, seen_publisher}
use Rattle.iox2_domain.proofs.lemmas.fields.PlacesKept.{places-still, places-then}
use Rattle.iox2_domain.specs.KeptPlaces.{KeepsPlaces}

-- The publisher x at the place i was updated at the places below j, with this failure if any: whatever the rest of the
-- walk comes to from here, the whole walk comes to.
pub record WalksSender {T U : Type 0} (environment : Environment) (f : Fields T U) (i : ℕ) (x : PublisherFields) (j : ℕ)
    (f' : Fields T U) (failure : Option ConnectionFailure) : Type 0 where
  pub agrees : IsDomain f'
  pub keys : List (Option ℕ)
  pub key_room : ℕ
  pub fields : f' ≡ record f {
    publishers = slice_set f.publishers i
        (Some (record x { keys = keys; key_room = key_room; is_due = false }));
    subscribers = f'.subscribers;
    connections = f'.connections;
    books = f'.books;
    warnings = f'.warnings;
  }
  pub others : map (option_map subscriber_but_room) f'.subscribers ≡ map (option_map subscriber_but_room) f.subscribers
  pub side : SenderSide
  pub state : state_of (kept_of f') ≡ with_channels_of f'
      (with_sender_side (state_of (kept_of f)) x.id (publisher_of f.books f.connections x).port side)
  pub channels : SenderChannelsFollow f x f'
  pub walk : (end : SenderSide) (later : Option ConnectionFailure)
      → ForEachPlace (UpdateSenderPlace environment (f.config).service_id x.id
      (publisher_of f.books f.connections x).port.degradation_handler (histories_of f x)
      (receiving_buffer (state_of (kept_of f))) (has_receiver_end (state_of (kept_of f)) x.id)) j
      (drop j (state_of (kept_of f)).subscriber_places) side end later
      → ForEachPlace (UpdateSenderPlace environment (f.config).service_id x.id
      (publisher_of f.books f.connections x).port.degradation_handler (histories_of f x)
      (receiving_buffer (state_of (kept_of f))) (has_receiver_end (state_of (kept_of f)) x.id)) 0
      (state_of (kept_of f)).subscriber_places
      (sender_side (state_of (kept_of f)) x.id (publisher_of f.books f.connections x).port) end
      (first_failure failure later)
  pub entries : (n : ℕ) (entry : Entry T U) → entries_of (kept_of f') n ≡ Some entry
      → entries_of (kept_of f) n ≡ Some entry
  pub places : KeepsPlaces f f'

module _ {T U : Type 0} (environment : Environment) (f : Fields T U) (sound : IsDomain f) (i : ℕ) (x : PublisherFields)
    (at : get_or f.publishers i None ≡ Some x) where
  -- the walk over all places
  abbrev Whole : SenderSide → Option ConnectionFailure → Type 0
  Whole end failure =
      ForEachPlace (AtPlace environment (seen f) x.id (seen_publisher f x) (publisher-stands f sound.parts i x at)) 0
      (seen f).subscriber_places (sender_side (seen f) x.id (seen_publisher f x)) end failure

  -- the publisher that is due no more
  abbrev settled : Fields T U
  settled = record f { publishers = slice_set f.publishers i (Some (record x { is_due = false })) }

  settled-is : state_of (kept_of settled) ≡ with_sender_side (seen f) x.id (seen_publisher f x)
      (sender_side (seen f) x.id (seen_publisher f x))
  settled-is =
      sender-is f sound i x at x.keys x.key_room false f.connections f.warnings
      (fits-same f sound i x at f.connections.capacity)
      ∙ (λ k. record (seen f) {
        publishers = put_at (seen f).publishers x.id
            (Some (record (seen_publisher f x) { is_due = false }));
        mailboxes = put_at-own (seen f).mailboxes x.id k;
      })

  -- the walk begins where the publisher is due no more
  pub walk-begins : x.blocked ≡ None → WalksSender environment f i x 0 settled None
  walk-begins free = record {
    agrees = sender-agrees f sound i x at x.keys x.key_room false f.connections f.warnings
        (fits-same f sound i x at f.connections.capacity) sound.parts.warning_room
        (rw settled-is (with_sender_side_keeps (seen f) sound.well_formed x.id (seen_publisher f x)
        (publisher-stands f sound.parts i x at) (unblocked f.books f.connections x free)
        (sender_side (seen f) x.id (seen_publisher f x))
        (sender_side_begins (seen f) sound.well_formed x.id (seen_publisher f x)
        (publisher-stands f sound.parts i x at))));
    keys = x.keys;
    key_room = x.key_room;
    fields = refl;
    others = refl;
    side = sender_side (seen f) x.id (seen_publisher f x);
    state = but-channels settled (with_sender_side (seen f) x.id (seen_publisher f x)
        (sender_side (seen f) x.id (seen_publisher f x))) settled-is;
    channels = follow-same (λ home. home.publisher ≡ x.id)
        (λ p q. (seen f).subscribers q ≡ None) f.connections f.connections (record { same = λ key. refl });
    walk = λ end later rest. rest;
    entries = λ n entry e. e;
    places = places-still;
  }

  listed : length (seen f).subscriber_places ≡ length f.subscribers
  listed =
      length-map (map (option_map (subscriber_of f.books f.connections)) f.subscribers) (option_map (λ (n : _). n.id))
      ∙ length-map f.subscribers (option_map (subscriber_of f.books f.connections))

  module _ (j : ℕ) (f' : Fields T U) (failure : Option ConnectionFailure)
      (walks : WalksSender environment f i x j f' failure) where
    -- the publisher on its way
    abbrev pub walking : PublisherFields
    walking = record x { keys = walks.keys; key_room = walks.key_room; is_due = false }

    pub walking-stands : get_or f'.publishers i None ≡ Some walking
    walking-stands =
        ap (λ (g : Fields T U). get_or g.publishers i None) walks.fields ∙ changed-here f.publishers i x walking at

    -- as the machine sees it
    port-is : (publisher_of f'.books f'.connections walking).port ≡ publisher_mid environment (seen f) x.id
        (seen_publisher f x) (publisher-stands f sound.parts i x at) walks.side
    port-is =
        same_Some _ _ (sym (publisher-stands f' walks.agrees.parts i walking walking-stands)
        ∙ ap (λ (t : State T U). t.publishers x.id) walks.state
        ∙ put_at-same (seen f).publishers x.id
        (Some (publisher_mid environment (seen f) x.id (seen_publisher f x)
        (publisher-stands f sound.parts i x at) walks.side)))

    -- one place more
    pub walk-more : j < length f.subscribers → (f'' : Fields T U) (first : Option ConnectionFailure)
        → ConnectsSender environment f' i j walking f'' first
        → WalksSender environment f i x (j + 1) f'' (first_failure failure first)
    walk-more low f'' first step = record {
      agrees = step.agrees;
      keys = step.keys;
      key_room = step.key_room;
      fields = step.fields
          ∙ (λ k. record (walks.fields k) {
            publishers = slice_set ((walks.fields k).publishers) i
                (Some (record x { keys = step.keys; key_room = step.key_room; is_due = false }));
            subscribers = f''.subscribers;
            connections = f''.connections;
            books = f''.books;
            warnings = f''.warnings;
          })
          ∙ ap (λ (xs : List (Option PublisherFields)). record f {
            publishers = xs;
            subscribers = f''.subscribers;
            connections = f''.connections;
            books = f''.books;
            warnings = f''.warnings;
          })
          (set-set f.publishers i (Some walking)
          (Some (record x { keys = step.keys; key_room = step.key_room; is_due = false })));
      others = step.others ∙ walks.others;
      side = step.side;
      state = step.state ∙ (λ k. with_channels_of f'' (with_sender_side (walks.state k) x.id (port-is k) step.side))
          ∙ ap (with_channels_of f'') (state-again environment (seen f) x.id (seen_publisher f x)
          (publisher-stands f sound.parts i x at) walks.side step.side);
      channels = follow-both (λ home. home.publisher ≡ x.id)
          (λ p q. (seen f).subscribers q ≡ None) f.connections f'.connections f''.connections walks.channels
          (subst (λ (subscribers : ℕ → Option Subscriber). ChannelsFollow (λ home. home.publisher ≡ x.id)
          (λ p q. subscribers q ≡ None) f'.connections f''.connections)
          (ap (λ (t : State T U). t.subscribers) walks.state) step.channels);
      walk = λ end later rest. subst (Whole end) (sym (first_failure-assoc failure first later))
          (walks.walk end (first_failure first later)
          (walk-goes-on environment (seen f) x.id (seen_publisher f x) (publisher-stands f sound.parts i x at) j
          walks.side step.side end first later (omega (arith, listed)) machine rest));
      entries = λ n entry e. walks.entries n entry (step.entries n entry e);
      places = places-then walks.places step.places;
    } where
      -- what is handed out to whoever stands there
      same-history : (q : ℕ) → occupant (seen f).subscriber_places j ≡ Some q
          → histories_of f' walking q ≡ histories_of f x q
      same-history q stands =
          (λ k. cond (is_closed ((channels-kept k) 0)) [] (port-is k).history)
        where
          channels-kept : (state_of (kept_of f')).channels x.id q ≡ (seen f).channels x.id q
          channels-kept =
              ap (λ (channels : ℕ → ℕ → ℕ → Channel). channels x.id q) (channels-are f')
              ∙ follow-present (λ home. home.publisher ≡ x.id) (λ p r. (seen f).subscribers r ≡ None) f.connections
              f'.connections sound.parts.apart walks.agrees.parts.apart walks.channels x.id q
              (λ gone. stands-present f sound j q stands gone)
              ∙ sym (ap (λ (channels : ℕ → ℕ → ℕ → Channel). channels x.id q) (channels-are f))

      machine : AtPlace environment (seen f) x.id (seen_publisher f x) (publisher-stands f sound.parts i x at) j
          (occupant (seen f).subscriber_places j) walks.side step.side first
      machine = step-again environment (seen f) x.id (seen_publisher f x)
          (publisher-stands f sound.parts i x at) walks.side (histories_of f' walking) j step.side first same-history
          (subst (λ (z : Publisher). UpdateSenderPlace environment (f.config).service_id x.id z.degradation_handler
          (histories_of f' walking) (receiving_buffer (with_sender_side (seen f) x.id (seen_publisher f x) walks.side))
          (has_receiver_end (with_sender_side (seen f) x.id (seen_publisher f x) walks.side) x.id) j
          (occupant (seen f).subscriber_places j)
          (sender_side (with_sender_side (seen f) x.id (seen_publisher f x) walks.side) x.id z) step.side first) port-is
          (subst (λ (t : State T U). UpdateSenderPlace environment (t.config).service_id x.id
          (publisher_of f'.books f'.connections walking).port.degradation_handler (histories_of f' walking)
          (receiving_buffer t) (has_receiver_end t x.id) j (occupant t.subscriber_places j)
          (sender_side t x.id (publisher_of f'.books f'.connections walking).port) step.side first) walks.state
          step.steps))

    -- the publisher is updated where the walk is over
    pub walk-updates : x.is_due ≡ true → length f.subscribers ≤ j → UpdatesKeptPublisher environment f i x f' failure
    walk-updates due past = record {
      after = sender_channels_reset (with_sender_side (seen f) x.id (seen_publisher f x) walks.side) x.id;
      updates = due-updates environment (seen f) x.id (seen_publisher f x) (publisher-stands f sound.parts i x at) due
          walks.side failure (subst (Whole walks.side) (first_failure-none failure)
          (walks.walk walks.side None (walk-ends environment (seen f) x.id (seen_publisher f x)
          (publisher-stands f sound.parts i x at) j walks.side (omega (arith, listed)))));
      reaches = record {
        agrees = walks.agrees;
        state = sender-reset f f' sound.parts walks.agrees.parts x.id (λ p q. (seen f).subscribers q ≡ None)
            walks.channels (with_sender_side (seen f) x.id (seen_publisher f x) walks.side) walks.state refl;
        entries = walks.entries;
        places = walks.places;
      };
      keys = walks.keys;
      key_room = walks.key_room;
      fields = walks.fields;
      others = walks.others;
    }

  -- a publisher that isn't due is as it is
  pub idle-updates : x.is_due ≡ false → UpdatesKeptPublisher environment f i x f None
  idle-updates due = record {
    after = (seen f);
    updates = machine-idle environment (seen f) x.id (seen_publisher f x) (publisher-stands f sound.parts i x at) due;
    reaches = record { agrees = sound; state = refl; entries = λ n entry e. e; places = places-still };
    keys = x.keys;
    key_room = x.key_room;
    others = refl;
    fields = sym (ap (λ (xs : List (Option PublisherFields)). record f { publishers = xs })
        (ap (slice_set f.publishers i) (ap (λ b. Some (record x { is_due = b })) (sym due) ∙ sym at)
        ∙ set-get_or f.publishers i None));
  }

-- what a publisher is due for by its place
pub due-at : (xs : List (Option PublisherFields)) (i : ℕ) (x : PublisherFields) → get_or xs i None ≡ Some x
    → is_publisher_due xs i ≡ x.is_due
due-at xs i x at = ap (λ o. option_map_or (λ (z : PublisherFields). z.is_due) o false) at

pub walking-subscribers : {T U : Type 0} (environment : Environment) (f : Fields T U) (i : ℕ) (x : PublisherFields)
    (j : ℕ) (f' : Fields T U) (failure : Option ConnectionFailure) → WalksSender environment f i x j f' failure
    → length f'.subscribers ≡ length f.subscribers
walking-subscribers environment f i x j f' failure walks =
    sym (length-map f'.subscribers (option_map subscriber_but_room)) ∙ ap length walks.others
    ∙ length-map f.subscribers (option_map subscriber_but_room)
