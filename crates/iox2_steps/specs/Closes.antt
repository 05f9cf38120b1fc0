-- The steps of a close.
use Rattle.std.specs.Prelude.{◌≡◌, ◌≢◌, ◌⊎◌, ◌<◌, ℕ, false, if◌then◌else◌, List, slice_index_or, IsSomeAnd}
use Rattle.std.specs.declared.option.Option.{Option}
use Rattle.std.specs.declared.option.Option.TheVariants.{None, Some}
use Rattle.slab.specs.Slab.{get, Updates}
use Rattle.iox2_connections.specs.Link.{Link}
use Rattle.iox2_slots.specs.SlotBook.{Book}
use Rattle.iox2_machine.specs.machine.Mailbox.{has_numbers, waiting_dropped}
use Rattle.iox2_machine.specs.machine.Numbers.{without}
use Rattle.iox2_machine.specs.machine.Places.{vacated}
use Rattle.iox2_machine.specs.machine.Records.{Subscriber}
use Rattle.iox2_machine.specs.machine.State.{State, with_mailbox, subscriber_changed}
use Rattle.iox2_connections.specs.declared.connection.Home.{Home}
use Rattle.iox2_connections.specs.Counters.{stands_in}
use Rattle.iox2_connections.specs.Drops.{without_waiting}
use Rattle.iox2_domain.specs.Departures.{key_forgotten}
use Rattle.iox2_domain.specs.Ports.{PublisherFields, SubscriberFields}
use Rattle.iox2_domain.specs.Kept.{state_of}
use Rattle.iox2_domain.specs.Fields.{Fields, kept_of}
use Rattle.iox2_domain.specs.Invariant.{IsUsed, StandsNowhere}
use Rattle.iox2_steps.specs.Agreement.{Passes}

-- ---- records

-- The subscriber, which takes no messages any more.
abbrev pub shut_subscriber : SubscriberFields → SubscriberFields
shut_subscriber y = record y { is_open = false }

-- The machine's subscriber without the publisher p.
abbrev pub without_publisher : (p : ℕ) → Subscriber → Subscriber
without_publisher p y = record y { ends = vacated p y.ends; expired = without p y.expired }

-- ---- connections

-- The publisher of a connection with this home stands at its place.
abbrev pub IsStanding : List (Option PublisherFields) → Home → Type 0
IsStanding publishers home =
    IsSomeAnd (slice_index_or publishers home.publisher_place None) (λ (x : PublisherFields). x.id ≡ home.publisher)

-- The publisher of the connection stands nowhere.
abbrev pub HasNoPublisher : List (Option PublisherFields) → Link → Type 0
HasNoPublisher publishers c = StandsNowhere publishers c.home.publisher

-- Some slot stands in the connection.
pub record IsBusy (c : Link) : Type 0 where
  pub slot : ℕ
  pub stands : 0 < stands_in slot c

module _ {T U : Type 0} where
  -- What waits for q from p is lost.
  abbrev pub lost_from : State T U → (p q : ℕ) → State T U
  lost_from s p q = with_mailbox s p q (waiting_dropped (s.mailboxes p q))

  -- q forgets p where nothing of it waits or is borrowed.
  abbrev pub forgotten_if_empty : State T U → (p q : ℕ) → State T U
  forgotten_if_empty s p q = if has_numbers (s.mailboxes p q) then s else subscriber_changed s q (without_publisher p)

  -- At the key stands a connection of the subscriber at the place, and its publisher is gone.
  pub record IsLeftAt (f : Fields T U) (place key : ℕ) : Type 0 where
    pub subscriber : SubscriberFields
    pub stands : slice_index_or f.subscribers place None ≡ Some subscriber
    pub link : Link
    pub link_stands : get f.connections key ≡ Some link
    pub is_its : link.home.subscriber ≡ subscriber.id
    pub departed : HasNoPublisher f.publishers link

  -- What waited in the connection at the key is lost.
  pub record ConnectionLosesWaiting (f : Fields T U) (key : ℕ) (c : Link) (f' : Fields T U) : Type 0 where
    pub passes : Passes f f' (lost_from (state_of (kept_of f)) c.home.publisher c.home.subscriber)
    pub publishers : f'.publishers ≡ f.publishers
    pub subscribers : f'.subscribers ≡ f.subscribers
    pub next_port : f'.next_port ≡ f.next_port
    pub connection : Updates f.connections f'.connections key (Some (without_waiting c))
    pub books : (k : ℕ) → k ≢ c.home.book → get f'.books k ≡ get f.books k

  -- The subscriber at the place has forgotten the connection at the key, which is gone, if no slot stood in it, and so
  -- is the book of its publisher if nothing held a slot of it.
  pub record ForgetsIfEmpty (f : Fields T U) (place key : ℕ) (y : SubscriberFields) (c : Link)
      (f' : Fields T U) : Type 0 where
    pub passes : Passes f f' (forgotten_if_empty (state_of (kept_of f)) c.home.publisher c.home.subscriber)
    pub publishers : f'.publishers ≡ f.publishers
    pub next_port : f'.next_port ≡ f.next_port
    pub subscriber : (z : SubscriberFields) × (slice_index_or f'.subscribers place None ≡ Some z)
        × ((z ≡ y) ⊎ (z ≡ key_forgotten key y))
    pub others : (k : ℕ) → k ≢ key → get f'.connections k ≡ get f.connections k
    pub left : (d : Link) → get f'.connections key ≡ Some d → (d ≡ c) × IsBusy c
    pub books : (k : ℕ) → k ≢ c.home.book → get f'.books k ≡ get f.books k
    pub held : (b : Book) → get f'.books c.home.book ≡ Some b → IsUsed b

  -- The publisher of the connection at the key was gone. What waited in it for the subscriber at the place is lost, and
  -- the subscriber has forgotten it if no slot stood in it then.
  pub record LosesLeft (f : Fields T U) (place key : ℕ) (f' : Fields T U) : Type 0 where
    pub left : IsLeftAt f place key
    pub between : Fields T U
    pub loses : ConnectionLosesWaiting f key left.link between
    pub forgets : ForgetsIfEmpty between place key left.subscriber (without_waiting left.link) f'

  -- The same, where there is such a key; or there is none, or the publisher is there, and nothing changed.
  abbrev pub LosesIfLeft : Fields T U → (place : ℕ) → Option ℕ → Fields T U → Type 0
  LosesIfLeft f place None f' = f' ≡ f
  LosesIfLeft f place (Some key) f' = LosesLeft f place key f'
      ⊎ (((c : Link) → get f.connections key ≡ Some c → HasNoPublisher f.publishers c → ⊥) × (f' ≡ f))
