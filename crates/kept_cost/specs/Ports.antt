-- What messages pass through.
use Rattle.iox2_domain.specs.Kept.{Kept}
use Rattle.iox2_pubsub.specs.Live.{IsLivePublisher, IsLiveSubscriber, IsSingleValued}
use Rattle.iox2_pubsub.specs.declared.publisher.Publisher.{Publisher}
use Rattle.iox2_pubsub.specs.declared.subscriber.Subscriber.{Subscriber}

-- The domain has single values, and its two ports are live.
pub record HasTwoPorts {T U F G : Type 0} (domain : Kept T U F G) (publisher : Publisher)
    (subscriber : Subscriber) : Type 0 where
  pub single_valued : IsSingleValued domain
  pub publisher_is : IsLivePublisher domain publisher
  pub subscriber_is : IsLiveSubscriber domain subscriber
