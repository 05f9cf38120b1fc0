-- What a factory of publishers makes.
use Rattle.std.specs.Prelude.{◌≡◌, true, false}
use Rattle.std.specs.declared.option.Option.{Option}
use Rattle.std.specs.declared.option.Option.TheVariants.{None}
use Rattle.iox2_machine.specs.declared.backpressure.BackpressureStrategy.TheVariants.{DiscardData}
use Rattle.iox2_machine.specs.machine.Records.{PublisherSettings}
use Rattle.iox2_domain.specs.Handlers.{may_fail, may_fail_update}
use Rattle.iox2_domain.specs.Kept.{Kept}
use Rattle.iox2_pubsub.specs.BorrowsLeft.{HasBorrowsLeftOf}
use Rattle.iox2_pubsub.specs.Handlers.{may_wait}
use Rattle.iox2_pubsub.specs.Live.{IsConnected, IsNewIn, IsReadyPublisher, IsSubscriberKey, NeverFails, NeverWaits}
use Rattle.iox2_pubsub.specs.Live.{NoneRefused, degradation_box, handler_box, publisher_key, publisher_port}
use Rattle.iox2_pubsub.specs.Live.{subscriber_key}
use Rattle.iox2_pubsub.specs.LoansLeft.{GrowsBy}
use Rattle.iox2_pubsub.specs.declared.publisher.Publisher.{Publisher}
use Rattle.iox2_pubsub.specs.declared.subscriber.Subscriber.{Subscriber}

-- The publisher was made with these settings and boxes: it is new, may lend, waits and fails as they say, nothing of it
-- is borrowed, and it is connected with each subscriber that was there, if each connection could be allocated.
pub record IsMadePublisher {T U F G : Type 0} (given : PublisherSettings) (box : Option F) (degrading : Option G)
    (port : Publisher) (old new : Kept T U F G) : Type 0 where
  pub grows : GrowsBy new port given.allocation_strategy
  pub ready : IsReadyPublisher new port
  pub discards : given.backpressure_strategy ≡ DiscardData → given.backpressure_handler ≡ None
      → may_fail_update given.degradation_handler ≡ false → NeverWaits new (publisher_key port)
  pub passes : may_wait given.backpressure_strategy given.backpressure_handler ≡ false
      → may_fail given.backpressure_handler ≡ false → may_fail_update given.degradation_handler ≡ false
      → NeverWaits new (publisher_key port)
  pub overflows : (old.config).enable_safe_overflow ≡ true → may_fail_update given.degradation_handler ≡ false
      → NeverWaits new (publisher_key port)
  pub never_fails : may_fail given.backpressure_handler ≡ false → may_fail_update given.degradation_handler ≡ false
      → NeverFails new port.id
  pub boxed : handler_box new port.id ≡ box
  pub degrades : degradation_box new port.id ≡ degrading
  pub strategy : port.strategy ≡ given.backpressure_strategy
  pub longest : port.initial_max_slice_len ≡ given.initial_max_slice_len
  pub is_new : IsNewIn old (publisher_port port)
  pub borrows : (subscriber : Subscriber)
      → HasBorrowsLeftOf new port.id subscriber (old.config).subscriber_max_borrowed_samples
  pub connects : NoneRefused old new → (subscriber : Subscriber) → IsSubscriberKey old (subscriber_key subscriber)
      → IsConnected new port.id subscriber
