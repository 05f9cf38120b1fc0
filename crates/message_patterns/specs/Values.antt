-- What waits for a subscriber, as a list of numbers.
use Rattle.std.specs.Prelude.{ℕ, List, ◌+◌, ◌≤◌, length}
use Rattle.std.specs.declared.option.Option.{Option}
use Rattle.std.specs.declared.option.Option.TheVariants.{None, Some}
use Rattle.std.specs.declared.result.Result.{Result}
use Rattle.std.specs.declared.result.Result.TheVariants.{Ok, Err}
use Rattle.iox2_pubsub.specs.Domains.{Kept}
use Rattle.iox2_pubsub.specs.Live.{AllFrom, HasItsBuffer, IsConnected}
use Rattle.iox2_pubsub.specs.Payloads.{singles}
use Rattle.iox2_pubsub.specs.LoansLeft.{HasLoansLeft, HasNumbersLeft}
use Rattle.iox2_pubsub.specs.declared.publisher.Publisher.{Publisher}
use Rattle.iox2_pubsub.specs.declared.subscriber.Subscriber.{Subscriber}

-- The call gave no value: there was none, or an error.
abbrev pub OnNoValue : {A E : Type 0} → Result (Option A) E → Type 0 → Type 0
OnNoValue (Ok (Some value)) P = Unit {0}
OnNoValue (Ok None) P = P
OnNoValue (Err error) P = P

module _ {U F G : Type 0} (domain : Kept ℕ U F G) (publisher : ℕ) (subscriber : Subscriber) where
  -- All that waits for the subscriber are these values, the oldest first, and it is of this publisher.
  abbrev pub Wait : List ℕ → Type 0
  Wait values = AllFrom domain publisher subscriber (singles values)

  -- These values wait, the publisher is connected with the subscriber, and that has room for so many more.
  pub record TakesMore (values : List ℕ) (more : ℕ) : Type 0 where
    pub wait : Wait values
    pub connected : IsConnected domain publisher subscriber
    pub buffer : HasItsBuffer domain subscriber
    pub room : length values + more ≤ subscriber.buffer_size

-- The publisher is refused none of so many messages, which it sends one after the other.
pub record CanSendValues {T U F G : Type 0} (domain : Kept T U F G) (publisher : Publisher) (n : ℕ) : Type 0 where
  pub loans : HasLoansLeft domain publisher 1
  pub numbers : HasNumbersLeft domain n
