-- What updates by call return, and that a port which may be updated stays so.
use Rattle.std.specs.declared.option.Option.{Option}
use Rattle.std.specs.declared.option.Option.TheVariants.{None, Some}
use Rattle.std.specs.declared.result.Result.{Result}
use Rattle.std.specs.declared.result.Result.TheVariants.{Ok, Err}
use Rattle.iox2_machine.specs.declared.errors.ConnectionFailure.{ConnectionFailure}
use Rattle.iox2_domain.specs.Kept.{Kept}
use Rattle.iox2_pubsub.specs.Live.{IsLiveSubscriber, IsReadyPublisher, Stays, publisher_key, subscriber_key}
use Rattle.iox2_pubsub.specs.declared.publisher.Publisher.{Publisher}
use Rattle.iox2_pubsub.specs.declared.subscriber.Subscriber.{Subscriber}

-- The failure that a call returned, if any.
abbrev pub returned_failure : {A : Type 0} → Result A ConnectionFailure → Option ConnectionFailure
returned_failure (Ok answer) = None
returned_failure (Err failure) = Some failure

module _ {T U F G : Type 0} (old new : Kept T U F G) where
  -- A publisher that is ready stays so if everything does.
  pub ready_stays : (publisher : Publisher) → Stays old new → IsReadyPublisher old publisher
      → IsReadyPublisher new publisher
  ready_stays publisher stays ready = record {
    there = stays.publishers (publisher_key publisher) ready.there tt;
    placed = stays.placed_publishers publisher ready.placed;
    unblocked = stays.unblocked (publisher_key publisher) ready.unblocked tt;
  }

  -- A subscriber that is live stays so if everything does.
  pub subscriber_stays : (subscriber : Subscriber) → Stays old new → IsLiveSubscriber old subscriber
      → IsLiveSubscriber new subscriber
  subscriber_stays subscriber stays live = record {
    there = stays.subscribers (subscriber_key subscriber) live.there tt;
    placed = stays.placed_subscribers subscriber live.placed;
  }
