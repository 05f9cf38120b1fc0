-- Which calls leave subscribers room for closed publishers, seen from outside.
use Rattle.std.proofs.Common.{ℕ, suc, ◌≡◌, ◌≤◌, sym, subst, Option, None, Some}
use Rattle.iox2_machine.specs.machine.Limits.{expired_limit}
use Rattle.iox2_machine.specs.machine.Ports.{CreatePublisher, CreateSubscriber, publisher_closed, subscriber_closed}
use Rattle.iox2_machine.specs.machine.Records.{Environment, Publisher, PublisherSettings}
use Rattle.iox2_machine.specs.machine.Records.{Subscriber as MachineSubscriber, SubscriberSettings}
use Rattle.iox2_machine.specs.machine.State.{State, Messages}
use Rattle.iox2_machine.specs.declared.errors.PublisherCreateError.{PublisherCreateError}
use Rattle.iox2_domain.specs.Kept.{Kept}
use Rattle.iox2_domain.specs.Shows.{Shows}
use Rattle.iox2_pubsub.specs.DepartedPorts.{HasDepartedRoom}
use Rattle.iox2_pubsub.specs.Live.{HasRoomFor, RoomStays}
use Rattle.iox2_pubsub.specs.declared.subscriber.Subscriber.{Subscriber}
use Rattle.iox2_pubsub.proofs.DepartedStays.{create-publisher-room, created-room, publisher-closed-room}
use Rattle.iox2_pubsub.proofs.DepartedStays.{subscriber-closed-room}
use Rattle.iox2_pubsub.proofs.UpToDateShown.{room, room-in, rooms-stay}

module _ {T U F G : Type 0} (old new : Kept T U F G) (m : Messages T U) (s : State T U) (shown : Shows old m s)
    (id : ℕ) where
  -- a publisher that closes takes the room of one
  pub publisher-close-room : (x : Publisher) → Shows new m (publisher_closed s id x)
      → (subscriber : Subscriber) (closes : ℕ) → HasRoomFor old subscriber (suc closes)
      → HasRoomFor new subscriber closes
  publisher-close-room x shown' subscriber closes has =
      room new m (publisher_closed s id x) shown' subscriber closes
      (publisher-closed-room s id x shown.well_formed subscriber.id closes
      (room-in old m s shown subscriber (suc closes) has))

  -- a subscriber that closes takes none
  pub subscriber-close-room : (y : MachineSubscriber) → Shows new m (subscriber_closed s id y)
      → s.subscribers id ≡ Some y → RoomStays old new
  subscriber-close-room y shown' at =
      rooms-stay old new m m s (subscriber_closed s id y) shown shown' (subscriber-closed-room s id y at)

module _ {T U F G : Type 0} (old new : Kept T U F G) (m m' : Messages T U) (s s' : State T U) (shown : Shows old m s)
    (shown' : Shows new m' s') (environment : Environment) where
  -- a publisher that is made takes none
  pub publisher-creation-room : (given : PublisherSettings) (refusal : Option PublisherCreateError)
      → CreatePublisher environment s given s' refusal → RoomStays old new
  publisher-creation-room given refusal h =
      rooms-stay old new m m' s s' shown shown' (create-publisher-room environment s given s' refusal h)

  -- a subscriber that is made has room for as many as the domain keeps for one
  pub subscriber-made-room : (given : SubscriberSettings) → CreateSubscriber environment s given s' None
      → (subscriber : Subscriber) → subscriber.id ≡ s.next_port
      → (closes : ℕ) → closes ≤ expired_limit old.config → HasRoomFor new subscriber closes
  subscriber-made-room given h subscriber its closes low =
      room new m' s' shown' subscriber closes (subst (λ (q : ℕ). HasDepartedRoom s' q closes) (sym its)
      (created-room environment s shown.well_formed given s' None h closes
      (subst (λ (t : State T U). closes ≤ expired_limit t.config) (sym shown.state) low)))
