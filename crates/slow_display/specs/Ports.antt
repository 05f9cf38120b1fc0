-- What the ports of this program can do.
use Rattle.iox2_domain.specs.Kept.{Kept}
use Rattle.iox2_pubsub.specs.Live.{IsLiveSubscriber, IsReadyPublisher, IsSingleValued}
use Rattle.iox2_pubsub.specs.declared.publisher.Publisher.{Publisher}
use Rattle.iox2_pubsub.specs.declared.subscriber.Subscriber.{Subscriber}

module _ {T U F G : Type 0} (domain : Kept T U F G) where
  -- The publisher can send a reading: a message is one, and no send of it is blocked.
  pub record CanSendReading (publisher : Publisher) : Type 0 where
    pub single_valued : IsSingleValued domain
    pub ready : IsReadyPublisher domain publisher

  -- The display can receive a reading.
  pub record CanReceive (display : Subscriber) : Type 0 where
    pub single_valued : IsSingleValued domain
    pub live : IsLiveSubscriber domain display
