-- A publisher's history goes to a subscriber that it has just been connected with.
use Rattle.std.specs.Prelude.{◌≡◌, ℕ, slice_index_or}
use Rattle.std.specs.declared.option.Option.TheVariants.{None, Some}
use Rattle.slab.specs.Slab.{get}
use Rattle.iox2_connections.specs.Link.{Link, load}
use Rattle.iox2_machine.specs.machine.Mailbox.{with_waiting}
use Rattle.iox2_machine.specs.machine.Numbers.{last_n}
use Rattle.iox2_machine.specs.machine.Records.{Entry}
use Rattle.iox2_machine.specs.machine.State.{State}
use Rattle.iox2_machine.specs.machine.WellFormed.{IsWellFormed}
use Rattle.iox2_connections.specs.Homes.{SameHomes}
use Rattle.iox2_connections.specs.Mailboxes.{with_box}
use Rattle.iox2_domain.specs.Ports.{PublisherFields}
use Rattle.iox2_domain.specs.Kept.{state_of, entries_of}
use Rattle.iox2_domain.specs.Fields.{Fields, kept_of, publisher_of}
use Rattle.iox2_domain.specs.Invariant.{IsDomain}
use Rattle.iox2_domain.specs.KeptPlaces.{KeepsPlaces}

module _ {T U : Type 0} where
  -- The state in which the last messages of the history of the publisher x wait in the connection c, as many as fit.
  abbrev pub with_history_waiting : Fields T U → PublisherFields → Link → State T U
  with_history_waiting f x c = record (state_of (kept_of f)) {
    mailboxes = with_box (state_of (kept_of f)).mailboxes x.id c.home.subscriber
        (with_waiting (last_n c.buffer (publisher_of f.books f.connections x).port.history)
        ((state_of (kept_of f)).mailboxes x.id c.home.subscriber));
  }

  -- No slot stands in the connection at the key, which is the publisher's at the place i, and the last of its history
  -- may wait there.
  pub record HasNewEnd (f : Fields T U) (i key : ℕ) : Type 0 where
    pub publisher : PublisherFields
    pub stands : slice_index_or f.publishers i None ≡ Some publisher
    pub link : Link
    pub connected : get f.connections key ≡ Some link
    pub is_its : link.home.publisher ≡ publisher.id
    pub empty : load link ≡ 0
    pub well_formed : IsWellFormed (with_history_waiting f publisher link)

  -- The last messages of the history of the publisher x wait in the connection c. Connections and counters changed, and
  -- no entry is newly kept.
  pub record HandsOut (f : Fields T U) (x : PublisherFields) (c : Link) (f' : Fields T U) : Type 0 where
    pub agrees : IsDomain f'
    pub fields : f' ≡ record f { connections = f'.connections; books = f'.books }
    pub homes : SameHomes f.connections f'.connections
    pub state : state_of (kept_of f') ≡ with_history_waiting f x c
    pub entries : (n : ℕ) (entry : Entry T U) → entries_of (kept_of f') n ≡ Some entry
        → entries_of (kept_of f) n ≡ Some entry
    pub places : KeepsPlaces f f'
