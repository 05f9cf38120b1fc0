-- A subscriber's update where publishers may have been closed: what it changes, and its steps.
use Rattle.std.specs.Prelude.{◌≡◌, ◌≢◌, ℕ, Bool, true, false, List, [], ◌∷◌, ◌++◌, map, slice_index_or, slice_set}
use Rattle.std.specs.declared.option.Option.{Option}
use Rattle.std.specs.declared.option.Option.TheVariants.{None, Some}
use Rattle.std.specs.Option.{option_map}
use Rattle.slab.specs.Slab.{get, with_value}
use Rattle.iox2_connections.specs.Link.{Link}
use Rattle.iox2_slots.specs.SlotBook.{Book}
use Rattle.iox2_machine.specs.machine.Limits.{warning_limit, expired_limit}
use Rattle.iox2_machine.specs.machine.Numbers.{without}
use Rattle.iox2_machine.specs.machine.Places.{occupant, set_place}
use Rattle.iox2_machine.specs.machine.Records.{Entry, Subscriber, Environment, Handler}
use Rattle.iox2_machine.specs.machine.State.{State, warned, has_sender_end}
use Rattle.iox2_machine.specs.machine.SubscriberUpdate.{ReceiverSide, Retirement, Refuse, retirement_of}
use Rattle.iox2_machine.specs.machine.SubscriberUpdate.{after_retirement, is_refused, with_end, with_receiver_side}
use Rattle.iox2_machine.specs.machine.SubscriberUpdate.{ConnectReceiver, ConnectAtPlace, DisconnectAtPlace}
use Rattle.iox2_machine.specs.machine.SubscriberUpdate.{UpdateSubscriber}
use Rattle.iox2_machine.specs.declared.errors.ConnectionFailure.{ConnectionFailure}
use Rattle.iox2_machine.specs.declared.warning.Warning.TheVariants.{ExpiredDataDiscarded}
use Rattle.iox2_connections.specs.Counters.{with_counters}
use Rattle.iox2_connections.specs.Drops.{RemovesDropped}
use Rattle.iox2_domain.specs.WarningRing.{warning_ring}
use Rattle.iox2_domain.specs.Ports.{PublisherFields, SubscriberFields}
use Rattle.iox2_domain.specs.Kept.{state_of, entries_of}
use Rattle.iox2_domain.specs.Fields.{Fields, kept_of, subscriber_of}
use Rattle.iox2_domain.specs.Invariant.{IsDomain}
use Rattle.iox2_domain.specs.KeptPlaces.{KeepsPlaces}
use Rattle.iox2_domain.specs.KeptLinks.{ChannelsFollow}
use Rattle.iox2_domain.specs.Midway.{with_channels_of}
use Rattle.iox2_domain.specs.Updates.{publisher_but_room}
use Rattle.iox2_machine.specs.declared.degradation.DegradationAction.{DegradationAction}

-- The subscriber, with the key from a publisher's place among the expired ones.
abbrev pub with_expired : (place key : ℕ) → SubscriberFields → SubscriberFields
with_expired place key y = record y { keys = set_place y.keys place None; expired = y.expired ++ key ∷ [] }

-- The subscriber, without an expired key.
abbrev pub without_expired : (key : ℕ) → SubscriberFields → SubscriberFields
without_expired key y = record y { expired = without key y.expired }

-- The subscriber, with the key from a publisher's place among the expired ones in the place of another.
abbrev pub replacing_expired : (place key first : ℕ) → SubscriberFields → SubscriberFields
replacing_expired place key first y = with_expired place key (without_expired first y)

module _ {T U : Type 0} where
  -- The subscriber's side of the state, due as it is.
  abbrev pub current_side : State T U → (q : ℕ) → Subscriber → ReceiverSide
  current_side s q y = record {
    ends = y.ends;
    expired = y.expired;
    is_due = y.is_due;
    mailboxes = λ p. s.mailboxes p q;
    warnings = s.warnings;
  }

  -- What the retirement of p from the place i leaves of the side of the subscriber y.
  abbrev pub retired : (f : Fields T U) (i : ℕ) → SubscriberFields → (p : ℕ) → Retirement → ReceiverSide
  retired f i y p how =
      with_end (after_retirement y.id
      (current_side (state_of (kept_of f)) y.id (subscriber_of f.books f.connections y).port) p how) i None

  -- What a retirement of p that is refused leaves of it.
  abbrev pub refused : (f : Fields T U) → SubscriberFields → (p : ℕ) → ReceiverSide
  refused f y p = after_retirement y.id
      (current_side (state_of (kept_of f)) y.id (subscriber_of f.books f.connections y).port) p Refuse

  -- What the machine does with the departed publisher p of the subscriber y.
  abbrev pub machine_retirement : (f : Fields T U) → SubscriberFields → (p : ℕ) → Retirement
  machine_retirement f y p =
      retirement_of (expired_limit f.config) (λ r. (state_of (kept_of f)).mailboxes r y.id)
      (subscriber_of f.books f.connections y).port.expired p

  -- The subscriber y at the place j has at the publishers' place i the key of a connection whose publisher isn't there.
  pub record HasDepartedEnd (f : Fields T U) (j i : ℕ) (y : SubscriberFields) (key : ℕ) (c : Link) : Type 0 where
    pub stands : slice_index_or f.subscribers j None ≡ Some y
    pub has : slice_index_or y.keys i None ≡ Some key
    pub link : get f.connections key ≡ Some c
    pub gone : (x : PublisherFields) → slice_index_or f.publishers i None ≡ Some x → x.id ≢ c.home.publisher

  -- The subscriber y at the place j has this side now, and the fields agree so. Nothing changed except its keys, its
  -- mark, connections, what departed publishers left, warnings and the room for keys.
  pub record ChangesReceiverTo (Agrees : Fields T U → Type 0) (f : Fields T U) (j : ℕ) (y : SubscriberFields)
      (side : ReceiverSide) (f' : Fields T U) : Type 0 where
    pub agrees : Agrees f'
    pub keys : List (Option ℕ)
    pub key_room : ℕ
    pub expired : List ℕ
    pub expired_room : ℕ
    pub fields : f' ≡ record f {
      subscribers = slice_set f.subscribers j
          (Some (record y {
            keys = keys;
            key_room = key_room;
            expired = expired;
            expired_room = expired_room;
            is_due = side.is_due;
          }));
      publishers = f'.publishers;
      connections = f'.connections;
      books = f'.books;
      contents = f'.contents;
      warnings = f'.warnings;
    }
    pub others : map (option_map publisher_but_room) f'.publishers ≡ map (option_map publisher_but_room) f.publishers
    pub state : state_of (kept_of f') ≡ with_channels_of f'
        (with_receiver_side (state_of (kept_of f)) y.id (subscriber_of f.books f.connections y).port side)
    pub channels : ChannelsFollow (λ home. home.subscriber ≡ y.id)
        (λ p q. (state_of (kept_of f)).publishers p ≡ None) f.connections f'.connections
    pub entries : (n : ℕ) (entry : Entry T U) → entries_of (kept_of f') n ≡ Some entry
        → entries_of (kept_of f) n ≡ Some entry
    pub places : KeepsPlaces f f'

  -- The same, and the fields agree with one another.
  abbrev pub ChangesReceiver : (f : Fields T U) (j : ℕ) → SubscriberFields → ReceiverSide → (f' : Fields T U) → Type 0
  ChangesReceiver f j y side f' = ChangesReceiverTo IsDomain f j y side f'

  -- The departed publisher p of the subscriber y at the place j was retired from the place i, or that was refused.
  pub data RetiresReceiver (f : Fields T U) (j i : ℕ) (y : SubscriberFields) (p : ℕ)
      (f' : Fields T U) : (is_retired : Bool) → Type 0 where
    Retired : is_refused (machine_retirement f y p) ≡ false
        → ChangesReceiver f j y (retired f i y p (machine_retirement f y p)) f' → RetiresReceiver f j i y p f' true
    Refused : machine_retirement f y p ≡ Refuse → ChangesReceiver f j y (refused f y p) f'
        → RetiresReceiver f j i y p f' false

  -- The connection c at the key is gone, and with it what waited there, which its publisher's book b counts.
  pub record LosesConnection (f : Fields T U) (key : ℕ) (c : Link) (b : Book) (f' : Fields T U) : Type 0 where
    pub holders : List ℕ
    pub removes : RemovesDropped b.holders f.connections key c holders f'.connections
    pub fields : f' ≡ record f {
      connections = f'.connections;
      books = with_value f.books c.home.book (with_counters b holders);
      warnings = warning_ring
          (warned f.warnings.items (ExpiredDataDiscarded c.home.publisher c.home.subscriber)) warning_limit;
    }

module _ {T U : Type 0} where
  -- The publisher x has no connection with the subscriber q at its place j.
  pub record NotJoined (f : Fields T U) (x : PublisherFields) (j q : ℕ) : Type 0 where
    pub at : (key : ℕ) (c : Link) → slice_index_or x.keys j None ≡ Some key → get f.connections key ≡ Some c
        → c.home.subscriber ≢ q

  -- The publisher x has its connection with the subscriber q, at its place j, at the key.
  pub record JoinsAt (f : Fields T U) (x : PublisherFields) (j q key : ℕ) : Type 0 where
    pub link : Link
    pub has : slice_index_or x.keys j None ≡ Some key
    pub stands : get f.connections key ≡ Some link
    pub its : link.home.subscriber ≡ q

module _ {T U : Type 0} (environment : Environment) where
  -- The subscriber y at the place j has got its end to p at the publishers' place i, or memory for that was refused.
  abbrev pub ConnectsEnd : (f : Fields T U) (j i : ℕ) → SubscriberFields → (p : ℕ) → (f' : Fields T U)
      → Option ConnectionFailure → Type 0
  ConnectsEnd f j i y p f' failure =
      (side : ReceiverSide) × ChangesReceiver f j y side f'
      × ConnectReceiver environment (f.config).service_id y.id
      (subscriber_of f.books f.connections y).port.degradation_handler (expired_limit f.config)
      (λ r. has_sender_end (state_of (kept_of f)) r y.id)
      (current_side (state_of (kept_of f)) y.id (subscriber_of f.books f.connections y).port) i p side failure

  -- The subscriber y at the place j has done this step of its update at the publishers' place i.
  abbrev StepsAt : (Step : (service_id q : ℕ) → Handler DegradationAction → (limit : ℕ) → (ℕ → Bool) → (place : ℕ)
      → Option ℕ → ReceiverSide → ReceiverSide → Option ConnectionFailure → Type 0)
      → (f : Fields T U) (j i : ℕ) → SubscriberFields → (f' : Fields T U) → Option ConnectionFailure → Type 0
  StepsAt Step f j i y f' failure =
      (side : ReceiverSide) × ChangesReceiver f j y side f'
      × Step (f.config).service_id y.id (subscriber_of f.books f.connections y).port.degradation_handler
      (expired_limit f.config)
      (λ r. has_sender_end (state_of (kept_of f)) r y.id) i (occupant (state_of (kept_of f)).publisher_places i)
      (current_side (state_of (kept_of f)) y.id (subscriber_of f.books f.connections y).port) side failure

  -- The subscriber y at the place j has done the step of the first walk at the publishers' place i.
  abbrev pub ConnectsAt : (f : Fields T U) (j i : ℕ) → SubscriberFields → (f' : Fields T U) → Option ConnectionFailure
      → Type 0
  ConnectsAt = StepsAt (ConnectAtPlace environment)

  -- The subscriber y at the place j has done the step of the second walk at the publishers' place i.
  abbrev pub DisconnectsAt : (f : Fields T U) (j i : ℕ) → SubscriberFields → (f' : Fields T U)
      → Option ConnectionFailure → Type 0
  DisconnectsAt = StepsAt (DisconnectAtPlace environment)

  -- The subscriber y at the place j is updated, with this failure if any.
  pub record UpdatesReceiver (f : Fields T U) (j : ℕ) (y : SubscriberFields) (f' : Fields T U)
      (failure : Option ConnectionFailure) : Type 0 where
    pub side : ReceiverSide
    pub changes : ChangesReceiver f j y side f'
    pub updates : UpdateSubscriber environment (state_of (kept_of f)) y.id (state_of (kept_of f')) failure
