-- A publisher's update at one subscriber's place.
use Rattle.std.proofs.Common.{◌≡◌, ℕ, ◌-◌, List, [], true, false, Bool, cond, get_or, slice_set, refl, ap, sym, subst}
use Rattle.std.proofs.Common.{◌∙◌, inl, arith}
use Rattle.std.proofs.lemmas.List.{drop_all}
use Rattle.std.specs.declared.option.Option.{Option}
use Rattle.std.specs.declared.option.Option.TheVariants.{None, Some}
use Rattle.std.specs.Option.{option_and_then}
use Rattle.slab.specs.Slab.{Slab, get}
use Rattle.iox2_machine.specs.machine.Limits.{warning_limit}
use Rattle.iox2_connections.specs.Link.{Link, load}
use Rattle.iox2_machine.specs.machine.Mailbox.{has_numbers, with_waiting, other_numbers}
use Rattle.iox2_machine.specs.machine.Numbers.{put_at, last_n}
use Rattle.iox2_machine.specs.machine.Places.{occupant, set_place}
use Rattle.iox2_machine.specs.machine.Records.{Publisher, Subscriber, Environment}
use Rattle.iox2_machine.specs.machine.State.{State, receiving_buffer, has_receiver_end}
use Rattle.iox2_machine.specs.machine.PublisherUpdate.{SenderSide, UpdateSenderPlace, ConnectSender, connected}
use Rattle.iox2_machine.specs.machine.PublisherUpdate.{sender_side, with_sender_side}
use Rattle.iox2_machine.specs.machine.WellFormed.{LeadsTo, IsWellFormed}
use Rattle.iox2_machine.specs.declared.errors.ConnectionFailure.{ConnectionFailure}
use Rattle.iox2_connections.specs.Mailboxes.{sender_ends, subscriber_of_key}
use Rattle.iox2_connections.proofs.MailboxChanges.{put_at-own}
use Rattle.iox2_laws.proofs.PlaceLemmas.{occupied_within}
use Rattle.iox2_laws.proofs.SenderSides.{sender_side_begins, performed_keeps, connected_with_keeps}
use Rattle.iox2_laws.proofs.PublisherUpdates.{with_sender_side_keeps}
use Rattle.iox2_domain.specs.WarningRing.{WarningRing}
use Rattle.iox2_domain.specs.Ports.{PublisherFields, SubscriberFields}
use Rattle.iox2_domain.specs.Kept.{state_of}
use Rattle.iox2_domain.specs.Fields.{Fields, kept_of, publisher_of, subscriber_of}
use Rattle.iox2_domain.specs.Invariant.{IsDomain}
use Rattle.iox2_domain.specs.Connects.{histories_of, ConnectsSender, MakesSenderEnd}
use Rattle.iox2_domain.proofs.lemmas.fields.Views.{unblocked}
use Rattle.iox2_domain.proofs.lemmas.fields.ConnectionEnds.{publisher-stands, subscriber-stands, occupant-sender_ends}
use Rattle.iox2_domain.proofs.lemmas.fields.KeptChannels.{but-channels}
use Rattle.iox2_steps.proofs.updates.SenderChanges.{FitsSender, sender-is, fits-follow}
use Rattle.iox2_steps.proofs.updates.SenderActions.{update-keeps, update-connects}
use Rattle.iox2_steps.proofs.updates.SenderAgrees.{sender-agrees}
use Rattle.iox2_domain.proofs.lemmas.fields.Standing.{subscriber-listed, subscriber-place}
use Rattle.iox2_laws.proofs.MailboxLemmas.{nothing_anywhere}
use Rattle.iox2_domain.proofs.lemmas.fields.NamedPorts.{seen, seen_publisher}
use Rattle.iox2_domain.proofs.lemmas.fields.PlacesKept.{places-still}

module _ {T U : Type 0} (f : Fields T U) where
  abbrev pub now : State T U
  now = state_of (kept_of f)

  abbrev pub port : PublisherFields → Publisher
  port x = (publisher_of f.books f.connections x).port

  -- the machine's step of the publisher x at the place j
  abbrev pub StepsSender : Environment → (j : ℕ) → PublisherFields → SenderSide → Option ConnectionFailure → Type 0
  StepsSender environment j x side failure =
      UpdateSenderPlace environment (f.config).service_id x.id (port x).degradation_handler (histories_of f x)
      (receiving_buffer now) (has_receiver_end now x.id)
      j (occupant now.subscriber_places j) (sender_side now x.id (port x)) side failure

  -- the publisher's side with these keys, connections and warnings
  abbrev pub side_with : PublisherFields → List (Option ℕ) → Slab Link → WarningRing → SenderSide
  side_with x keys connections warnings =
      record { ends = sender_ends connections keys; mailboxes = now.mailboxes x.id; warnings = warnings.items }

  -- the fields with these keys, connections and warnings
  abbrev pub connected_sender : (i : ℕ) → PublisherFields → List (Option ℕ) → Slab Link → WarningRing → Fields T U
  connected_sender i x keys connections warnings =
      record f {
        publishers = slice_set f.publishers i (Some (record x { keys = keys }));
        connections = connections;
        warnings = warnings;
      }

module _ {T U : Type 0} (environment : Environment) (f : Fields T U) (sound : IsDomain f) (i j : ℕ)
    (x : PublisherFields) (y : SubscriberFields)
    (at_x : get_or f.publishers i None ≡ Some x) (at_y : get_or f.subscribers j None ≡ Some y) (due : x.is_due ≡ false)
    (free : x.blocked ≡ None) (opened : y.is_open ≡ true) where
  -- the machine's step is done where the fields change so
  pub steps-connect : (keys : List (Option ℕ)) (connections : Slab Link) (warnings : WarningRing)
      (failure : Option ConnectionFailure) → FitsSender f i x keys x.key_room connections
      → warnings.capacity ≡ warning_limit
      → StepsSender f environment j x (side_with f x keys connections warnings) failure
      → ConnectsSender environment f i j x (connected_sender f i x keys connections warnings) failure
  steps-connect keys connections warnings failure fits room step = record {
    agrees = sender-agrees f sound i x at_x keys x.key_room x.is_due connections warnings fits room (rw state well);
    keys = keys;
    key_room = x.key_room;
    fields = refl;
    others = refl;
    side = side_with f x keys connections warnings;
    steps = step;
    state = but-channels (connected_sender f i x keys connections warnings)
        (with_sender_side (seen f) x.id (seen_publisher f x) (side_with f x keys connections warnings)) state;
    channels = fits-follow f sound i x at_x keys x.key_room x.is_due connections warnings fits;
    entries = λ n entry e. e;
    places = places-still;
  } where
    after : SenderSide
    after = side_with f x keys connections warnings

    state : state_of (kept_of (connected_sender f i x keys connections warnings)) ≡ with_sender_side (seen f) x.id
        (seen_publisher f x) (side_with f x keys connections warnings)
    state =
        sender-is f sound i x at_x keys x.key_room x.is_due connections warnings fits
        ∙ (λ k. record (seen f) {
          publishers = put_at (seen f).publishers x.id
              (Some (record (seen_publisher f x) { ends = sender_ends connections keys; is_due = due k }));
          mailboxes = put_at-own (seen f).mailboxes x.id k;
          warnings = warnings.items;
        })

    well : IsWellFormed (with_sender_side (seen f) x.id (seen_publisher f x) (side_with f x keys connections warnings))
    well = with_sender_side_keeps (seen f) sound.well_formed x.id (seen_publisher f x)
        (publisher-stands f sound.parts i x at_x) (unblocked f.books f.connections x free)
        (side_with f x keys connections warnings)
        (performed_keeps (seen f) sound.well_formed x.id (seen_publisher f x)
        (publisher-stands f sound.parts i x at_x) environment j _ _ (sender_side (seen f) x.id (seen_publisher f x))
        (side_with f x keys connections warnings) failure
        (occupied_within (seen f).subscriber_places j y.id (subscriber-listed f sound.parts j y at_y)) refl refl
        (sender_side_begins (seen f) sound.well_formed x.id (seen_publisher f x)
        (publisher-stands f sound.parts i x at_x)) step)

  -- ---- what the machine does

  abbrev Q : Subscriber
  Q = (subscriber_of f.books f.connections y).port

  abbrev Step : SenderSide → Option ConnectionFailure → Type 0
  Step side failure = StepsSender f environment j x side failure

  -- the subscriber takes messages
  open_buffer : receiving_buffer (seen f) y.id ≡ Some y.buffer
  open_buffer =
      ap (option_and_then (λ (z : Subscriber). cond z.is_open (Some z.buffer) None))
      (subscriber-stands f sound.parts j y at_y)
      ∙ ap (λ b. cond b (Some y.buffer) None) opened

  -- an end to the subscriber stays
  pub keeps-end : occupant (seen_publisher f x).ends j ≡ Some y.id
      → Step (sender_side (seen f) x.id (seen_publisher f x)) None
  keeps-end there =
      update-keeps environment (f.config).service_id x.id (seen_publisher f x).degradation_handler (histories_of f x)
      (receiving_buffer (seen f)) (has_receiver_end (seen f) x.id) j y.id y.buffer
      (occupant (seen f).subscriber_places j) (sender_side (seen f) x.id (seen_publisher f x))
      (subscriber-listed f sound.parts j y at_y) open_buffer there

  -- without an end one is made
  pub makes-end : occupant (seen_publisher f x).ends j ≡ None → (side : SenderSide) (failure : Option ConnectionFailure)
      → ConnectSender environment (f.config).service_id x.id (seen_publisher f x).degradation_handler (histories_of f x)
      (receiving_buffer (seen f)) (has_receiver_end (seen f) x.id)
      (sender_side (seen f) x.id (seen_publisher f x)) j y.id y.buffer side failure
      → Step side failure
  makes-end none side failure step =
      update-connects environment (f.config).service_id x.id (seen_publisher f x).degradation_handler (histories_of f x)
      (receiving_buffer (seen f)) (has_receiver_end (seen f) x.id) j y.id y.buffer
      (occupant (seen f).subscriber_places j) (sender_side (seen f) x.id (seen_publisher f x))
      (subscriber-listed f sound.parts j y at_y) open_buffer side failure none step

  pub no_end : get_or x.keys j None ≡ None → occupant (seen_publisher f x).ends j ≡ None
  no_end none = occupant-sender_ends f.connections x.keys j ∙ ap (subscriber_of_key f.connections) none

  -- ---- the mailbox

  -- without an end there is nothing in the mailbox
  pub no-numbers : get_or x.keys j None ≡ None → (other_numbers ((seen f).mailboxes x.id y.id) ≡ [])
      × (((seen f).mailboxes x.id y.id).waiting ≡ []) × (((seen f).mailboxes x.id y.id).borrowed ≡ [])
  no-numbers none =
      nothing_anywhere ((seen f).mailboxes x.id y.id) (by (has_numbers ((seen f).mailboxes x.id y.id)) refl) where
        by : (b : Bool) → has_numbers ((seen f).mailboxes x.id y.id) ≡ b → b ≡ false
        by false e = refl
        by true e =
            let leads : LeadsTo (seen_publisher f x).ends y.id =
            (sound.well_formed.mailboxes x.id y.id).sender_end (seen_publisher f x)
            (publisher-stands f sound.parts i x at_x) e in
            let place : y.place ≡ leads.0 =
            (sound.well_formed.publishers x.id (seen_publisher f x)
            (publisher-stands f sound.parts i x at_x)).ends_stand leads.0 y.id Q leads.1
            (subscriber-stands f sound.parts j y at_y) in
            let here : leads.0 ≡ j = sym place ∙ subscriber-place f sound.parts sound.well_formed j y at_y in
            absurd (let no : None ≡ Some y.id = sym (no_end none) ∙ ap (occupant (seen_publisher f x).ends) (sym here)
            ∙ leads.1 in cc)

  last_of_none : (n : ℕ) → last_n {X = ℕ} n [] ≡ []
  last_of_none n = drop_all (0 - n) [] (omega arith)

  -- no message adds nothing to it
  same_mailboxes : get_or x.keys j None ≡ None → (seen f).mailboxes x.id ≡ put_at ((seen f).mailboxes x.id) y.id
      (with_waiting (last_n y.buffer []) ((seen f).mailboxes x.id y.id))
  same_mailboxes none =
      put_at-own ((seen f).mailboxes x.id) y.id
      ∙ ap (λ (ns : List ℕ). put_at ((seen f).mailboxes x.id) y.id (with_waiting ns ((seen f).mailboxes x.id y.id)))
      ((no-numbers none).1 ∙ sym (last_of_none y.buffer))

  -- an end is made where the keys lead to it, and nothing waits there yet
  pub makes-empty : get_or x.keys j None ≡ None → (keys : List (Option ℕ)) (connections : Slab Link)
      → FitsSender f i x keys x.key_room connections
      → sender_ends connections keys ≡ set_place (seen_publisher f x).ends j (Some y.id)
      → (key : ℕ) (c : Link) → get connections key ≡ Some c → c.home.publisher ≡ x.id → c.home.subscriber ≡ y.id
      → c.buffer ≡ y.buffer → load c ≡ 0
      → MakesSenderEnd environment f i j x key (connected_sender f i x keys connections f.warnings)
  makes-empty none keys connections fits leads key c at its to size nobody = record {
    agrees = sender-agrees f sound i x at_x keys x.key_room x.is_due connections f.warnings fits
        sound.parts.warning_room (rw state well);
    keys = keys;
    key_room = x.key_room;
    fields = refl;
    others = refl;
    link = c;
    stands = at;
    is_its = its;
    empty = nobody;
    steps = subst (λ (q : ℕ). Step
        (connected (histories_of f x q) (sender_side (seen f) x.id (seen_publisher f x)) j q c.buffer) None) (sym to)
        (subst (λ (n : ℕ). Step (connected (histories_of f x y.id)
        (sender_side (seen f) x.id (seen_publisher f x)) j y.id n) None) (sym size)
        (makes-end (no_end none) (connected (histories_of f x y.id)
        (sender_side (seen f) x.id (seen_publisher f x)) j y.id y.buffer) None (inl (refl, refl))));
    channels = fits-follow f sound i x at_x keys x.key_room x.is_due connections f.warnings fits;
    state = subst (λ (q : ℕ). state_of (kept_of after) ≡ with_sender_side (seen f) x.id (seen_publisher f x)
        (connected [] (sender_side (seen f) x.id (seen_publisher f x)) j q c.buffer)) (sym to)
        (subst (λ (n : ℕ). state_of (kept_of after) ≡ with_sender_side (seen f) x.id (seen_publisher f x)
        (connected [] (sender_side (seen f) x.id (seen_publisher f x)) j y.id n)) (sym size) state);
  } where
    after : Fields T U
    after = connected_sender f i x keys connections f.warnings

    bare : SenderSide
    bare = connected [] (sender_side (seen f) x.id (seen_publisher f x)) j y.id y.buffer

    side-is : side_with f x keys connections f.warnings ≡ bare
    side-is = λ k. record { ends = leads k; mailboxes = same_mailboxes none k; warnings = f.warnings.items }

    state : state_of (kept_of (connected_sender f i x keys connections f.warnings)) ≡ with_sender_side (seen f) x.id
        (seen_publisher f x) (connected [] (sender_side (seen f) x.id (seen_publisher f x)) j y.id y.buffer)
    state =
        sender-is f sound i x at_x keys x.key_room x.is_due connections f.warnings fits
        ∙ (λ k. record (seen f) {
          publishers = put_at (seen f).publishers x.id
              (Some (record (seen_publisher f x) { ends = sender_ends connections keys; is_due = due k }));
          mailboxes = put_at-own (seen f).mailboxes x.id k;
          warnings = f.warnings.items;
        })
        ∙ ap (with_sender_side (seen f) x.id (seen_publisher f x)) side-is

    well : IsWellFormed (with_sender_side (seen f) x.id (seen_publisher f x)
        (connected [] (sender_side (seen f) x.id (seen_publisher f x)) j y.id y.buffer))
    well = with_sender_side_keeps (seen f) sound.well_formed x.id (seen_publisher f x)
        (publisher-stands f sound.parts i x at_x) (unblocked f.books f.connections x free)
        (connected [] (sender_side (seen f) x.id (seen_publisher f x)) j y.id y.buffer)
        (connected_with_keeps (seen f) sound.well_formed x.id (seen_publisher f x)
        (publisher-stands f sound.parts i x at_x) [] tt (λ n no. absurd cc)
        (sender_side (seen f) x.id (seen_publisher f x)) j y.id y.buffer
        (occupied_within (seen f).subscriber_places j y.id (subscriber-listed f sound.parts j y at_y))
        (subscriber-listed f sound.parts j y at_y) open_buffer (no_end none)
        (sender_side_begins (seen f) sound.well_formed x.id (seen_publisher f x)
        (publisher-stands f sound.parts i x at_x)))
