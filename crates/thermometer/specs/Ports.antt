-- What readings pass through.
use Rattle.std.specs.Prelude.{◌≡◌, ℕ}
use Rattle.iox2_domain.specs.Kept.{Kept}
use Rattle.iox2_pubsub.specs.Live.{IsLivePublisher, IsLiveSubscriber, IsSingleValued}
use Rattle.iox2_pubsub.specs.LoansLeft.{HasLoansLeft, HasNumbersLeft}
use Rattle.iox2_pubsub.specs.Slices.{IsSliced}
use Rattle.iox2_pubsub.specs.declared.publisher.Publisher.{Publisher}
use Rattle.iox2_pubsub.specs.declared.subscriber.Subscriber.{Subscriber}
use Rattle.iox2_machine.specs.declared.service_config.TypeVariant.TheVariants.{Dynamic}

module _ {T U F G : Type 0} (domain : Kept T U F G) where
  -- A message is one reading, and the thermometer's publisher and the display are live.
  pub record HasPorts (publisher : Publisher) (display : Subscriber) : Type 0 where
    pub single_valued : IsSingleValued domain
    pub publisher_is : IsLivePublisher domain publisher
    pub display_is : IsLiveSubscriber domain display

  -- The publisher can't be refused that many more loans.
  pub record CanMeasure (publisher : Publisher) (n : ℕ) : Type 0 where
    pub loans : HasLoansLeft domain publisher n
    pub numbers : HasNumbersLeft domain n

  -- A message is a series, and each of its readings is one unit.
  pub record HasSeries : Type 0 where
    pub dynamic : (domain.config).variant ≡ Dynamic
    pub one_unit : (domain.config).units_per_element ≡ 1
    pub sliced : IsSliced domain

  -- A message is such a series, and both ports are live.
  pub record PassesSeries (publisher : Publisher) (display : Subscriber) : Type 0 where
    pub series : HasSeries
    pub publisher_is : IsLivePublisher domain publisher
    pub display_is : IsLiveSubscriber domain display
