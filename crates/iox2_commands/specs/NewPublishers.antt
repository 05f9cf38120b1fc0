-- What commands ask of new publishers.
use Rattle.std.specs.Prelude.{ℕ}
use Rattle.std.specs.declared.option.Option.TheVariants.{None}
use Rattle.iox2_machine.specs.declared.allocation.AllocationStrategy.TheVariants.{Static}
use Rattle.iox2_machine.specs.declared.backpressure.BackpressureStrategy.{BackpressureStrategy}
use Rattle.iox2_machine.specs.declared.degradation.DegradationAction.TheVariants.{Warn}
use Rattle.iox2_commands.specs.declared.new_publisher.NewPublisher.{NewPublisher}

-- One segment for messages of one element, no override of its slots, and no handler but one that warns of connections
-- that aren't made.
abbrev pub publisher_with : (loans : ℕ) → BackpressureStrategy → NewPublisher
publisher_with loans strategy = record {
  loans = loans;
  strategy = strategy;
  allocation = Static;
  initial_max_slice_len = 1;
  override_slots = None;
  degradation = Warn;
  backpressure = None;
}
