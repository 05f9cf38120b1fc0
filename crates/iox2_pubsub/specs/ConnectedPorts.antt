-- Which publisher is connected with which subscriber, and which is with its next update.
use Rattle.std.specs.Prelude.{ℕ, true, false, ◌≡◌}
use Rattle.std.specs.declared.option.Option.TheVariants.{Some}
use Rattle.iox2_machine.specs.machine.Channel.{is_closed}
use Rattle.iox2_machine.specs.machine.Records.{Publisher, Subscriber}
use Rattle.iox2_machine.specs.machine.State.{State}
use Rattle.iox2_machine.specs.machine.Waiting.{receives_from}
use Rattle.iox2_machine.specs.machine.WellFormed.{LeadsTo}

-- The publisher p has its end of the mailbox with q, which is open, and has its own end or makes it in its next update.
-- Their channel isn't closed.
pub record Connects {T U : Type 0} (s : State T U) (p q : ℕ) : Type 0 where
  pub publisher : Publisher
  pub stands : s.publishers p ≡ Some publisher
  pub sends : LeadsTo publisher.ends q
  pub subscriber : Subscriber
  pub there : s.subscribers q ≡ Some subscriber
  pub receives : receives_from subscriber p ≡ true
  pub takes : is_closed (s.channels p q 0) ≡ false

-- The publisher p is due, and q, which is open, has its end of the mailbox with it or is due too. Their channel
-- isn't closed. So p's next update connects the two, if memory isn't refused.
pub record Awaits {T U : Type 0} (s : State T U) (p q : ℕ) : Type 0 where
  pub publisher : Publisher
  pub stands : s.publishers p ≡ Some publisher
  pub due : publisher.is_due ≡ true
  pub subscriber : Subscriber
  pub there : s.subscribers q ≡ Some subscriber
  pub receives : receives_from subscriber p ≡ true
  pub takes : is_closed (s.channels p q 0) ≡ false
