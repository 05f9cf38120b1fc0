-- What C reads of a warning.
use Rattle.std.specs.Prelude.{ℕ, ◌≡◌}
use Rattle.iox2_machine.specs.declared.warning.Warning.{Warning}
use Rattle.iox2_machine.specs.declared.warning.Warning.TheVariants.{ConnectionNotMade, ExpiredBufferRaised}
use Rattle.iox2_machine.specs.declared.warning.Warning.TheVariants.{ExpiredDataDiscarded, PublisherPartlyConnected}
use Rattle.iox2_machine.specs.declared.warning.Warning.TheVariants.{SubscriberPartlyConnected}
use Rattle.iox2_c.specs.Codes.{failure_code}
use Rattle.iox2_c.specs.Numbers.{wide}
use Rattle.iox2_c.specs.declared.warning.WarningNumbers.{WarningNumbers}

-- The numbers are of this kind, and name these ports and this failure.
pub record Says (kind publisher subscriber failure : ℕ) (it : WarningNumbers) : Type 0 where
  pub kind_is : it.kind ≡ kind
  pub publisher_is : wide it.publisher ≡ publisher
  pub subscriber_is : wide it.subscriber ≡ subscriber
  pub failure_is : it.failure ≡ failure

-- The numbers say what the warning does, with 0 for what it doesn't name.
abbrev pub TellsOf : Warning → WarningNumbers → Type 0
TellsOf (ExpiredBufferRaised subscriber) it = Says 100 0 subscriber 0 it
TellsOf (PublisherPartlyConnected publisher failure) it = Says 101 publisher 0 (failure_code failure) it
TellsOf (SubscriberPartlyConnected subscriber failure) it = Says 102 0 subscriber (failure_code failure) it
TellsOf (ConnectionNotMade sender receiver) it = Says 103 sender receiver 0 it
TellsOf (ExpiredDataDiscarded sender receiver) it = Says 104 sender receiver 0 it
