-- Two ports get more room for the keys of their connections, and of expired ones, which no state shows.
use Rattle.std.proofs.Common.{◌≡◌, ◌≤◌, ℕ, List, [], map, get_or, slice_set, refl, ap, sym, subst, ◌∙◌}
use Rattle.std.proofs.lemmas.List.{map-set, set-set, set-get_or}
use Rattle.std.specs.declared.option.Option.{Option}
use Rattle.std.specs.declared.option.Option.TheVariants.{None, Some}
use Rattle.std.specs.Option.{option_map}
use Rattle.iox2_machine.specs.machine.Places.{occupant}
use Rattle.iox2_machine.specs.machine.PublisherUpdate.{history_for, UpdateSenderPlace, connected, sender_side}
use Rattle.iox2_machine.specs.machine.PublisherUpdate.{with_sender_side}
use Rattle.iox2_machine.specs.machine.Records.{Publisher, Environment}
use Rattle.iox2_machine.specs.machine.State.{State, receiving_buffer, has_receiver_end}
use Rattle.iox2_machine.specs.machine.WellFormed.{IsWellFormed}
use Rattle.iox2_machine.specs.declared.errors.ConnectionFailure.{ConnectionFailure}
use Rattle.iox2_domain.specs.KeptLinks.{ChannelsFollow}
use Rattle.iox2_domain.specs.Midway.{with_channels_of}
use Rattle.iox2_domain.specs.Ports.{PublisherFields, SubscriberFields}
use Rattle.iox2_domain.specs.Kept.{state_of}
use Rattle.iox2_domain.specs.Fields.{Fields, kept_of, publisher_of, subscriber_of}
use Rattle.iox2_domain.specs.Invariant.{IsDomain}
use Rattle.iox2_domain.specs.Updates.{with_sender_room, with_receiver_rooms, subscriber_but_room}
use Rattle.iox2_domain.specs.Connects.{ConnectsSender, MakesSenderEnd}
use Rattle.iox2_domain.proofs.lemmas.containers.LookUps.{map-at}
use Rattle.iox2_steps.proofs.updates.SenderChanges.{fits-grown}
use Rattle.iox2_steps.proofs.updates.SenderAgrees.{sender-agrees}
use Rattle.iox2_steps.proofs.receivers.JoinChanges.{receiver_fits-grown}
use Rattle.iox2_steps.proofs.receivers.JoinAgrees.{receiver-agrees}

-- a record that changes in what a view doesn't show
pub same-shown : {A B : Type 0} (g : A → B) (xs : List (Option A)) (i : ℕ) (x z : A) → get_or xs i None ≡ Some x
    → g z ≡ g x
    → map (option_map g) (slice_set xs i (Some z)) ≡ map (option_map g) xs
same-shown g xs i x z at same =
    map-set (option_map g) xs i (Some z)
    ∙ ap (slice_set (map (option_map g) xs) i) (ap Some same ∙ sym (map-at g xs i ∙ ap (option_map g) at))
    ∙ set-get_or (map (option_map g) xs) i None

module _ {T U : Type 0} (f : Fields T U) (i j : ℕ) (x : PublisherFields) (y : SubscriberFields) (n m e : ℕ) where
  -- the fields with that room
  abbrev pub grown : Fields T U
  grown = record f {
    publishers = slice_set f.publishers i (Some (with_sender_room n x));
    subscribers = slice_set f.subscribers j (Some (with_receiver_rooms m e y));
  }

  module _ (sound : IsDomain f) (at_x : get_or f.publishers i None ≡ Some x)
      (at_y : get_or f.subscribers j None ≡ Some y) (more_x : x.key_room ≤ n) (more_y : y.key_room ≤ m)
      (more_e : y.expired_room ≤ e) where
    -- the publisher's room alone
    abbrev sender : Fields T U
    sender = record f { publishers = slice_set f.publishers i (Some (with_sender_room n x)) }

    shown_publishers : map (option_map (publisher_of f.books f.connections))
        (slice_set f.publishers i (Some (with_sender_room n x))) ≡ map
        (option_map (publisher_of f.books f.connections)) f.publishers
    shown_publishers = same-shown (publisher_of f.books f.connections) f.publishers i x (with_sender_room n x) at_x refl

    shown_subscribers : map (option_map (subscriber_of f.books f.connections))
        (slice_set f.subscribers j (Some (with_receiver_rooms m e y))) ≡ map
        (option_map (subscriber_of f.books f.connections)) f.subscribers
    shown_subscribers =
        same-shown (subscriber_of f.books f.connections) f.subscribers j y (with_receiver_rooms m e y) at_y refl

    sender-state : state_of (kept_of sender) ≡ state_of (kept_of f)
    sender-state = λ k. state_of (record (kept_of f) { publishers = shown_publishers k })

    -- the state is the same
    pub grown-state : state_of (kept_of grown) ≡ state_of (kept_of f)
    grown-state =
        λ k. state_of (record (kept_of f) { publishers = shown_publishers k; subscribers = shown_subscribers k })

    sender-stands : IsDomain sender
    sender-stands =
        sender-agrees f sound i x at_x x.keys n x.is_due f.connections f.warnings
        (fits-grown f sound i x at_x f.connections.capacity n more_x) sound.parts.warning_room
        (subst IsWellFormed (sym sender-state) sound.well_formed)

    -- the fields agree
    pub grown-agrees : IsDomain grown
    grown-agrees =
        receiver-agrees sender sender-stands j y at_y y.keys m e y.is_due f.connections f.warnings
        (receiver_fits-grown sender sender-stands.parts j y at_y f.connections.capacity m e more_y more_e)
        sound.parts.warning_room
        (subst IsWellFormed (sym grown-state) sound.well_formed)

    abbrev P : Publisher
    P = (publisher_of f.books f.connections x).port

    -- what a publisher does from there it does from here
    pub sender-from : (environment : Environment) (f' : Fields T U) (failure : Option ConnectionFailure)
        → ConnectsSender environment grown i j (with_sender_room n x) f' failure
        → ConnectsSender environment f i j x f' failure
    sender-from environment f' failure step = record {
      agrees = step.agrees;
      keys = step.keys;
      key_room = step.key_room;
      fields = step.fields
          ∙ ap (λ (xs : List (Option PublisherFields)). record f {
            publishers = xs;
            subscribers = f'.subscribers;
            connections = f'.connections;
            books = f'.books;
            warnings = f'.warnings;
          })
          (set-set f.publishers i (Some (with_sender_room n x))
          (Some (record x { keys = step.keys; key_room = step.key_room })));
      others = step.others ∙ same-shown subscriber_but_room f.subscribers j y (with_receiver_rooms m e y) at_y refl;
      side = step.side;
      steps = subst (λ (s : State T U). UpdateSenderPlace environment (f.config).service_id x.id P.degradation_handler
          (history_for s x.id P) (receiving_buffer s) (has_receiver_end s x.id)
          j (occupant s.subscriber_places j) (sender_side s x.id P) step.side failure) grown-state step.steps;
      state =
          step.state ∙ ap (λ (s : State T U). with_channels_of f' (with_sender_side s x.id P step.side)) grown-state;
      channels = subst (λ (s : State T U). ChannelsFollow (λ home. home.publisher ≡ x.id)
          (λ p q. s.subscribers q ≡ None) f.connections f'.connections) grown-state step.channels;
      entries = step.entries;
      places = step.places;
    }

    -- an end that it gets from there it gets from here
    pub end-from : (environment : Environment) (key : ℕ) (f' : Fields T U)
        → MakesSenderEnd environment grown i j (with_sender_room n x) key f' → MakesSenderEnd environment f i j x key f'
    end-from environment key f' step = record {
      agrees = step.agrees;
      keys = step.keys;
      key_room = step.key_room;
      fields = step.fields
          ∙ ap (λ (xs : List (Option PublisherFields)).
          record f { publishers = xs; subscribers = f'.subscribers; connections = f'.connections })
          (set-set f.publishers i (Some (with_sender_room n x))
          (Some (record x { keys = step.keys; key_room = step.key_room })));
      others = step.others ∙ same-shown subscriber_but_room f.subscribers j y (with_receiver_rooms m e y) at_y refl;
      link = step.link;
      stands = step.stands;
      is_its = step.is_its;
      empty = step.empty;
      steps = subst (λ (s : State T U). UpdateSenderPlace environment (f.config).service_id x.id P.degradation_handler
          (history_for s x.id P) (receiving_buffer s) (has_receiver_end s x.id)
          j (occupant s.subscriber_places j) (sender_side s x.id P)
          (connected (history_for s x.id P (step.link).home.subscriber) (sender_side s x.id P) j
          (step.link).home.subscriber (step.link).buffer) None) grown-state step.steps;
      state = step.state ∙ ap (λ (s : State T U). with_sender_side s x.id P
          (connected [] (sender_side s x.id P) j (step.link).home.subscriber (step.link).buffer)) grown-state;
      channels = subst (λ (s : State T U). ChannelsFollow (λ home. home.publisher ≡ x.id)
          (λ p q. s.subscribers q ≡ None) f.connections f'.connections) grown-state step.channels;
    }
