-- What the ports of this program can do.
use Rattle.std.specs.Prelude.{◌≡◌}
use Rattle.iox2_pubsub.specs.Domains.{Kept}
use Rattle.iox2_pubsub.specs.BorrowsLeft.{HasBorrowsLeft}
use Rattle.iox2_pubsub.specs.Live.{HasItsBuffer, HasRoomFor, IsConnected, IsLivePublisher, IsLiveSubscriber}
use Rattle.iox2_pubsub.specs.Live.{IsSingleValued}
use Rattle.iox2_pubsub.specs.LoansLeft.{HasLoansLeft}
use Rattle.iox2_pubsub.specs.declared.publisher.Publisher.{Publisher}
use Rattle.iox2_pubsub.specs.declared.subscriber.Subscriber.{Subscriber}

module _ {T U F G : Type 0} (domain : Kept T U F G) where
  -- A message is a single value, and a subscriber may hold one at a time.
  pub record IsSetUp : Type 0 where
    pub single_valued : IsSingleValued domain
    pub borrows : (domain.config).subscriber_max_borrowed_samples ≡ 1

  -- A message is a single value, and the subscriber is live, has its buffer, is not refused a sample, and loses nothing
  -- by its next update.
  pub record CanRead (subscriber : Subscriber) : Type 0 where
    pub single_valued : IsSingleValued domain
    pub live : IsLiveSubscriber domain subscriber
    pub buffer : HasItsBuffer domain subscriber
    pub borrows : HasBorrowsLeft domain subscriber 1
    pub room : HasRoomFor domain subscriber 0

  -- So it is. The publisher is live, connected with the subscriber, and is not refused a loan.
  pub record CanPassOn (publisher : Publisher) (subscriber : Subscriber) : Type 0 where
    pub reads : CanRead subscriber
    pub live : IsLivePublisher domain publisher
    pub connected : IsConnected domain publisher.id subscriber
    pub loans : HasLoansLeft domain publisher 1
