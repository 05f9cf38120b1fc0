-- Which publishers have room for one message more at each subscriber.
use Rattle.std.specs.Prelude.{ℕ, List, [], ◌∷◌, length, true, ◌≡◌, ◌<◌, ◌≤◌}
use Rattle.std.specs.declared.option.Option.TheVariants.{Some}
use Rattle.iox2_machine.specs.machine.Records.{Subscriber as MachineSubscriber}
use Rattle.iox2_machine.specs.machine.State.{State}
use Rattle.iox2_domain.specs.Kept.{Kept, state_of}
use Rattle.iox2_pubsub.specs.AllSubscribers.{AreDifferent}
use Rattle.iox2_pubsub.specs.Live.{HasItsBuffer, IsConnected, payloads_from}
use Rattle.iox2_pubsub.specs.declared.subscriber.Subscriber.{Subscriber}

-- Each open subscriber has room for one message more of the publisher p, and would have with p's whole history too.
abbrev pub HasRoomForAll : {T U : Type 0} → State T U → (p : ℕ) → Type 0
HasRoomForAll s p =
    (q : ℕ) (y : MachineSubscriber) → s.subscribers q ≡ Some y → y.is_open ≡ true
    → ((s.config).history_size < y.buffer) × (length (s.mailboxes p q).waiting < y.buffer)

-- A send of the publisher with this id meets no full buffer: fewer of its messages wait for each open subscriber than
-- the buffer holds, and the domain's history, which a new connection begins with, is smaller than the buffer too.
unfoldable pub IsRoomy : {T U F G : Type 0} → Kept T U F G → (publisher : ℕ) → Type 0
IsRoomy domain publisher = HasRoomForAll (state_of domain) publisher

-- The domain allows this one subscriber alone, with which the publisher with this id is connected, and it has room for
-- one message more.
pub record HasRoomAlone {T U F G : Type 0} (domain : Kept T U F G) (publisher : ℕ)
    (subscriber : Subscriber) : Type 0 where
  pub alone : (domain.config).max_subscribers ≡ 1
  pub connected : IsConnected domain publisher subscriber
  pub buffer : HasItsBuffer domain subscriber
  pub room : length (payloads_from domain publisher subscriber) < subscriber.buffer_size

module _ {T U F G : Type 0} (domain : Kept T U F G) (publisher : ℕ) where
  -- The publisher with this id is connected with the subscriber, which has room for one message more of it.
  pub record HasRoomAt (subscriber : Subscriber) : Type 0 where
    pub connected : IsConnected domain publisher subscriber
    pub buffer : HasItsBuffer domain subscriber
    pub room : length (payloads_from domain publisher subscriber) < subscriber.buffer_size

  -- So it is with each of these.
  abbrev pub HasRoomAtEach : List Subscriber → Type 0
  HasRoomAtEach [] = Unit {0}
  HasRoomAtEach (subscriber ∷ others) = HasRoomAt subscriber × HasRoomAtEach others

  -- So it is with each of these, and they are as many as the domain allows.
  pub record HasRoomAtAll (subscribers : List Subscriber) : Type 0 where
    pub different : AreDifferent subscribers
    pub full : (domain.config).max_subscribers ≤ length subscribers
    pub each : HasRoomAtEach subscribers
