-- What the ports of a function can do.
use Rattle.std.specs.Prelude.{◌≡◌}
use Rattle.iox2_domain.specs.Kept.{Kept}
use Rattle.iox2_pubsub.specs.Live.{IsConnected, IsLivePublisher, IsLiveSubscriber, IsSingleValued, IsUpToDate, waiting}
use Rattle.iox2_pubsub.specs.declared.publisher.Publisher.{Publisher}
use Rattle.iox2_pubsub.specs.declared.subscriber.Subscriber.{Subscriber}

module _ {T U F G : Type 0} (domain : Kept T U F G) (publisher : Publisher) (subscriber : Subscriber) where
  -- A message is a single value, and both ports are live and connected.
  pub record AreJoined : Type 0 where
    pub single_valued : IsSingleValued domain
    pub publisher_is : IsLivePublisher domain publisher
    pub subscriber_is : IsLiveSubscriber domain subscriber
    pub connected : IsConnected domain publisher.id subscriber

  -- So they are, and the subscriber is up to date and nothing waits for it: what is sent next is received next.
  pub record AreIdle : Type 0 where
    pub joined : AreJoined
    pub up_to_date : IsUpToDate domain subscriber
    pub drained : waiting domain subscriber ≡ 0
