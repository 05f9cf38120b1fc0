-- What a close leaves waiting, seen from outside.
use Rattle.std.proofs.Common.{◌≡◌, ℕ, ◌≤◌, length, sym, ap, ◌∙◌, arith, Some}
use Rattle.iox2_machine.specs.machine.Ports.{publisher_closed, subscriber_closed}
use Rattle.iox2_machine.specs.machine.Records.{Publisher, Subscriber as MachineSubscriber}
use Rattle.iox2_machine.specs.machine.State.{State, Messages}
use Rattle.iox2_machine.specs.machine.Waiting.{waiting_from}
use Rattle.iox2_domain.specs.Kept.{Kept}
use Rattle.iox2_domain.specs.Shows.{Shows}
use Rattle.iox2_laws.proofs.WaitingCloses.{publisher_closed_no_fewer, subscriber_closed_ports, subscriber_closed_none}
use Rattle.iox2_laws.proofs.WaitingCloses.{subscriber_closed_from, subscriber_closed_updated}
use Rattle.iox2_laws.proofs.WaitingCounts.{sum_zero, waiting_for}
use Rattle.iox2_pubsub.specs.Live.{IsUpToDate, OthersStayUpToDate, OthersWait, waiting}
use Rattle.iox2_pubsub.specs.declared.subscriber.Subscriber.{Subscriber}
use Rattle.iox2_pubsub.proofs.UpToDateShown.{up-to-date, up-to-date-in}
use Rattle.iox2_pubsub.proofs.WaitingShown.{others-wait, waiting-is}

module _ {T U F G : Type 0} (old new : Kept T U F G) (m : Messages T U) (s : State T U) (shown : Shows old m s)
    (id : ℕ) where
  -- a publisher that closes leaves what waits for a subscriber that is up to date
  pub publisher-close-no-fewer : (x : Publisher) → Shows new m (publisher_closed s id x) → s.publishers id ≡ Some x
      → (subscriber : Subscriber) → IsUpToDate old subscriber → waiting old subscriber ≤ waiting new subscriber
  publisher-close-no-fewer x shown' at subscriber is =
      let less : waiting_for s subscriber.id ≤ waiting_for (publisher_closed s id x) subscriber.id =
      publisher_closed_no_fewer s id x shown.well_formed at subscriber.id (up-to-date-in old m s shown subscriber is) in
      let now : waiting new subscriber ≡ waiting_for (publisher_closed s id x) subscriber.id =
      waiting-is new m (publisher_closed s id x) shown' subscriber in
      let before : waiting old subscriber ≡ waiting_for s subscriber.id = waiting-is old m s shown subscriber in
      omega arith

  module _ (y : MachineSubscriber) (shown' : Shows new m (subscriber_closed s id y)) (subscriber : Subscriber)
      (is : subscriber.id ≡ id) where
    -- nothing waits for a subscriber that closed
    pub subscriber-close-none : waiting new subscriber ≡ 0
    subscriber-close-none =
        waiting-is new m (subscriber_closed s id y) shown' subscriber ∙ ap (waiting_for (subscriber_closed s id y)) is
        ∙ sum_zero (λ p. length (waiting_from (subscriber_closed s id y) p id)) (subscriber_closed s id y).next_port
        (λ p. ap length (subscriber_closed_none s id y p))

    -- the same waits for each other
    pub subscriber-close-others : OthersWait subscriber old new
    subscriber-close-others =
        others-wait old new m m s (subscriber_closed s id y) shown shown' (λ n entry at. at) subscriber
        (subscriber_closed_ports s id y)
        (λ p q away. subscriber_closed_from s id y p q (λ same. away (same ∙ sym is)))

    -- and each other that was up to date is
    pub subscriber-close-leaves : OthersStayUpToDate subscriber old new
    subscriber-close-leaves other away was =
        up-to-date new m (subscriber_closed s id y) shown' other
        (subscriber_closed_updated s id y other.id (λ same. away (same ∙ sym is))
        (up-to-date-in old m s shown other was))
