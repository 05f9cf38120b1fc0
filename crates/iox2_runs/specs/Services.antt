-- What the messages of a service are, and what a command says of a port.
use Rattle.std.specs.Prelude.{ℕ, Bool, not, ◌&&◌, ◌==◌}
use Rattle.std.specs.declared.option.Option.{Option}
use Rattle.std.specs.declared.option.Option.TheVariants.{None, Some}
use Rattle.iox2_machine.specs.SingleValues.{is_fixed_size}
use Rattle.iox2_machine.specs.machine.Records.{PublisherSettings, SubscriberSettings, Fixed}
use Rattle.iox2_domain.specs.Handlers.{fixed_handler}
use Rattle.iox2_commands.specs.declared.new_publisher.NewPublisher.{NewPublisher}
use Rattle.iox2_machine.specs.declared.degradation.DegradationAction.{DegradationAction}
use Rattle.iox2_machine.specs.declared.service_config.ServiceConfig.{ServiceConfig}

-- The payload of each message is a slice of elements of one unit.
abbrev pub has_slices : ServiceConfig → Bool
has_slices c = not (is_fixed_size c.variant) && (c.units_per_element == 1)

-- A command might be on a cell of a slice that isn't written, and the domain hands none out.
abbrev pub lacks_cells : ServiceConfig → Bool
lacks_cells c = has_slices c && not c.lists_cells

-- The settings, told what a command asks of a publisher, except its length and its slots.
abbrev pub told : PublisherSettings → NewPublisher → PublisherSettings
told given asked = record given {
  max_loaned_samples = asked.loans;
  backpressure_strategy = asked.strategy;
  allocation_strategy = asked.allocation;
  degradation_handler = Fixed asked.degradation;
  backpressure_handler = fixed_handler asked.backpressure;
}

-- A subscriber with that buffer, or with the largest, and that answer to a refused connection.
abbrev pub given_for : (limit : ℕ) → Option ℕ → DegradationAction → SubscriberSettings
given_for limit buffer degradation =
    record { buffer_size = elim buffer [ None ↦ limit | Some asked ↦ asked ]; degradation_handler = Fixed degradation }
