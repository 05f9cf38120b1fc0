-- What waits in a publisher's connection is lost, or the connection goes with it.
use Rattle.std.specs.Prelude.{◌≡◌, ℕ, false, List, slice_index_or, slice_set}
use Rattle.std.specs.declared.option.Option.{Option}
use Rattle.std.specs.declared.option.Option.TheVariants.{None, Some}
use Rattle.slab.specs.Slab.{get}
use Rattle.iox2_connections.specs.Link.{Link}
use Rattle.iox2_machine.specs.machine.Mailbox.{waiting_dropped}
use Rattle.iox2_machine.specs.machine.Places.{occupant, set_place}
use Rattle.iox2_machine.specs.machine.PublisherUpdate.{disconnected, sender_side, with_sender_side}
use Rattle.iox2_machine.specs.machine.Records.{Entry}
use Rattle.iox2_machine.specs.machine.State.{State}
use Rattle.iox2_connections.specs.Homes.{SameHomes}
use Rattle.iox2_connections.specs.Mailboxes.{with_box}
use Rattle.iox2_domain.specs.Ports.{PublisherFields, SubscriberFields}
use Rattle.iox2_domain.specs.Kept.{state_of, entries_of}
use Rattle.iox2_domain.specs.Fields.{Fields, kept_of, publisher_of}
use Rattle.iox2_domain.specs.Invariant.{IsDomain}
use Rattle.iox2_domain.specs.KeptPlaces.{KeepsPlaces}
use Rattle.iox2_domain.specs.KeptLinks.{ChannelsFollow}
use Rattle.iox2_domain.specs.Midway.{with_channels_of}

-- No subscriber stands at the place j with this id.
abbrev pub StandsElsewhere : List (Option SubscriberFields) → (j q : ℕ) → Type 0
StandsElsewhere subscribers j q = (y : SubscriberFields) → slice_index_or subscribers j None ≡ Some y → y.id ≡ q → ⊥

module _ {T U : Type 0} where
  -- The state in which nothing waits in the connection c of the publisher x.
  abbrev pub with_waiting_dropped : Fields T U → PublisherFields → Link → State T U
  with_waiting_dropped f x c = record (state_of (kept_of f)) {
    mailboxes = with_box (state_of (kept_of f)).mailboxes x.id c.home.subscriber
        (waiting_dropped ((state_of (kept_of f)).mailboxes x.id c.home.subscriber));
  }

  -- The publisher at the place i, which isn't due and has no blocked delivery, has the connection at the key as its end
  -- at the subscriber's place j.
  pub record HasEnd (f : Fields T U) (i j key : ℕ) : Type 0 where
    pub publisher : PublisherFields
    pub stands : slice_index_or f.publishers i None ≡ Some publisher
    pub settled : publisher.is_due ≡ false
    pub unblocked : publisher.blocked ≡ None
    pub has : slice_index_or publisher.keys j None ≡ Some key
    pub link : Link
    pub connected : get f.connections key ≡ Some link

  -- What waited in the connection c of the publisher x is lost. Connections and counters of slots changed, and no entry
  -- is newly kept.
  pub record LosesWaiting (f : Fields T U) (x : PublisherFields) (c : Link) (f' : Fields T U) : Type 0 where
    pub agrees : IsDomain f'
    pub fields : f' ≡ record f { connections = f'.connections; books = f'.books }
    pub homes : SameHomes f.connections f'.connections
    pub state : state_of (kept_of f') ≡ with_waiting_dropped f x c
    pub entries : (n : ℕ) (entry : Entry T U) → entries_of (kept_of f') n ≡ Some entry
        → entries_of (kept_of f) n ≡ Some entry
    pub places : KeepsPlaces f f'

  -- The publisher x at the place i, which isn't due, has lost its end at the subscriber's place j as the machine takes
  -- it away: what waited there is lost, and nothing changed except its keys, connections and counters of slots.
  pub record LosesSenderEnd (f : Fields T U) (i j : ℕ) (x : PublisherFields) (f' : Fields T U) : Type 0 where
    pub agrees : IsDomain f'
    pub fields : f' ≡ record f {
      publishers = slice_set f.publishers i
          (Some (record x { keys = set_place x.keys j None }));
      connections = f'.connections;
      books = f'.books;
    }
    pub channels : ChannelsFollow (λ home. home.publisher ≡ x.id)
        (λ p q. (state_of (kept_of f)).subscribers q ≡ None) f.connections f'.connections
    pub state : state_of (kept_of f') ≡ with_channels_of f'
        (with_sender_side (state_of (kept_of f)) x.id (publisher_of f.books f.connections x).port
        (disconnected (sender_side (state_of (kept_of f)) x.id (publisher_of f.books f.connections x).port) j
        (occupant (publisher_of f.books f.connections x).port.ends j)))
    pub entries : (n : ℕ) (entry : Entry T U) → entries_of (kept_of f') n ≡ Some entry
        → entries_of (kept_of f) n ≡ Some entry
    pub places : KeepsPlaces f f'
