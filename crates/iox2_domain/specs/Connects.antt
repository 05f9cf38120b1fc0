-- An update of a port, and a step of it at one place of the other side.
use Rattle.std.specs.Prelude.{◌≡◌, ◌≤◌, ℕ, false, List, [], map, slice_set}
use Rattle.std.specs.declared.option.Option.{Option}
use Rattle.std.specs.declared.option.Option.TheVariants.{None, Some}
use Rattle.std.specs.Option.{option_map}
use Rattle.slab.specs.Slab.{get}
use Rattle.iox2_connections.specs.Link.{Link, load}
use Rattle.iox2_machine.specs.machine.Places.{occupant}
use Rattle.iox2_machine.specs.machine.PublisherUpdate.{SenderSide, UpdateSenderPlace, connected, history_for}
use Rattle.iox2_machine.specs.machine.PublisherUpdate.{sender_side, with_sender_side, UpdatePublisher}
use Rattle.iox2_machine.specs.machine.Records.{Entry, Environment}
use Rattle.iox2_machine.specs.machine.State.{State, receiving_buffer, has_receiver_end}
use Rattle.iox2_machine.specs.declared.errors.ConnectionFailure.{ConnectionFailure}
use Rattle.iox2_domain.specs.Ports.{PublisherFields}
use Rattle.iox2_domain.specs.Kept.{state_of, entries_of}
use Rattle.iox2_domain.specs.Fields.{Fields, kept_of, publisher_of}
use Rattle.iox2_domain.specs.Invariant.{IsDomain}
use Rattle.iox2_domain.specs.KeptPlaces.{KeepsPlaces}
use Rattle.iox2_domain.specs.Updates.{changed_at, with_sender_room, with_receiver_rooms, sender_room, receiver_room}
use Rattle.iox2_domain.specs.Updates.{expired_room_at, subscriber_but_room}
use Rattle.iox2_domain.specs.KeptLinks.{ChannelsFollow}
use Rattle.iox2_domain.specs.Midway.{with_channels_of}
use Rattle.iox2_domain.specs.Reaches.{Reaches}

module _ {T U : Type 0} where
  -- The ports at the places i and j may have got more room for keys, and the subscriber for expired ones. Nothing else
  -- changed but connections.
  pub record MakesRoom (f : Fields T U) (i j : ℕ) (f' : Fields T U) : Type 0 where
    pub sender : sender_room f.publishers i ≤ sender_room f'.publishers i
    pub receiver : receiver_room f.subscribers j ≤ receiver_room f'.subscribers j
    pub expired : expired_room_at f.subscribers j ≤ expired_room_at f'.subscribers j
    pub fields : f' ≡ record f {
      publishers = changed_at (with_sender_room (sender_room f'.publishers i)) f.publishers i;
      subscribers = changed_at
          (with_receiver_rooms (receiver_room f'.subscribers j) (expired_room_at f'.subscribers j)) f.subscribers j;
      connections = f'.connections;
    }

  -- What the publisher x hands out to each new receiver: its history, or nothing to one whose channel is closed.
  abbrev pub histories_of : Fields T U → PublisherFields → ℕ → List ℕ
  histories_of f x q = history_for (state_of (kept_of f)) x.id (publisher_of f.books f.connections x).port q

  -- Of the connections of the publisher x some were made, and others lost whose subscribers are gone; all others keep
  -- their channels.
  abbrev pub SenderChannelsFollow : Fields T U → PublisherFields → Fields T U → Type 0
  SenderChannelsFollow f x f' = ChannelsFollow (λ home. home.publisher ≡ x.id)
      (λ p q. (state_of (kept_of f)).subscribers q ≡ None) f.connections f'.connections

module _ {T U : Type 0} (environment : Environment) where
  -- The publisher x at the place i, which isn't due, has got its end at the subscriber's place j, through the
  -- connection at the key, in which no slot stands. The machine lets the last of the history wait there. Nothing
  -- changed except its keys, connections and the room for keys.
  pub record MakesSenderEnd (f : Fields T U) (i j : ℕ) (x : PublisherFields) (key : ℕ) (f' : Fields T U) : Type 0 where
    pub agrees : IsDomain f'
    pub keys : List (Option ℕ)
    pub key_room : ℕ
    pub fields : f' ≡ record f {
      publishers = slice_set f.publishers i
          (Some (record x { keys = keys; key_room = key_room }));
      subscribers = f'.subscribers;
      connections = f'.connections;
    }
    pub others : map (option_map subscriber_but_room) f'.subscribers ≡ map
        (option_map subscriber_but_room) f.subscribers
    pub link : Link
    pub stands : get f'.connections key ≡ Some link
    pub is_its : link.home.publisher ≡ x.id
    pub empty : load link ≡ 0
    pub steps : UpdateSenderPlace environment (f.config).service_id x.id
        (publisher_of f.books f.connections x).port.degradation_handler
        (histories_of f x) (receiving_buffer (state_of (kept_of f))) (has_receiver_end (state_of (kept_of f)) x.id)
        j (occupant (state_of (kept_of f)).subscriber_places j)
        (sender_side (state_of (kept_of f)) x.id (publisher_of f.books f.connections x).port)
        (connected (histories_of f x link.home.subscriber)
        (sender_side (state_of (kept_of f)) x.id (publisher_of f.books f.connections x).port) j link.home.subscriber
        link.buffer) None
    pub state : state_of (kept_of f') ≡ with_sender_side (state_of (kept_of f)) x.id
        (publisher_of f.books f.connections x).port
        (connected [] (sender_side (state_of (kept_of f)) x.id (publisher_of f.books f.connections x).port) j
        link.home.subscriber link.buffer)
    pub channels : SenderChannelsFollow f x f'

  -- The publisher x at the place i, which isn't due, has done the machine's step at the subscriber's place j, with this
  -- failure if any, and nothing changed except its keys, connections, counters of slots, warnings and the room for
  -- keys.
  pub record ConnectsSender (f : Fields T U) (i j : ℕ) (x : PublisherFields) (f' : Fields T U)
      (failure : Option ConnectionFailure) : Type 0 where
    pub agrees : IsDomain f'
    pub keys : List (Option ℕ)
    pub key_room : ℕ
    pub fields : f' ≡ record f {
      publishers = slice_set f.publishers i
          (Some (record x { keys = keys; key_room = key_room }));
      subscribers = f'.subscribers;
      connections = f'.connections;
      books = f'.books;
      warnings = f'.warnings;
    }
    pub others : map (option_map subscriber_but_room) f'.subscribers ≡ map
        (option_map subscriber_but_room) f.subscribers
    pub side : SenderSide
    pub steps : UpdateSenderPlace environment (f.config).service_id x.id
        (publisher_of f.books f.connections x).port.degradation_handler
        (histories_of f x) (receiving_buffer (state_of (kept_of f))) (has_receiver_end (state_of (kept_of f)) x.id)
        j (occupant (state_of (kept_of f)).subscriber_places j)
        (sender_side (state_of (kept_of f)) x.id (publisher_of f.books f.connections x).port) side failure
    pub state : state_of (kept_of f') ≡ with_channels_of f'
        (with_sender_side (state_of (kept_of f)) x.id (publisher_of f.books f.connections x).port side)
    pub channels : SenderChannelsFollow f x f'
    pub entries : (n : ℕ) (entry : Entry T U) → entries_of (kept_of f') n ≡ Some entry
        → entries_of (kept_of f) n ≡ Some entry
    pub places : KeepsPlaces f f'

  -- The publisher x at the place i is updated, with this failure if any, and nothing changed except its keys, its mark,
  -- connections, counters of slots, warnings and the room for keys.
  pub record UpdatesKeptPublisher (f : Fields T U) (i : ℕ) (x : PublisherFields) (f' : Fields T U)
      (failure : Option ConnectionFailure) : Type 0 where
    pub after : State T U
    pub updates : UpdatePublisher environment (state_of (kept_of f)) x.id after failure
    pub reaches : Reaches f f' after
    pub keys : List (Option ℕ)
    pub key_room : ℕ
    pub fields : f' ≡ record f {
      publishers = slice_set f.publishers i
          (Some (record x { keys = keys; key_room = key_room; is_due = false }));
      subscribers = f'.subscribers;
      connections = f'.connections;
      books = f'.books;
      warnings = f'.warnings;
    }
    pub others : map (option_map subscriber_but_room) f'.subscribers ≡ map
        (option_map subscriber_but_room) f.subscribers
