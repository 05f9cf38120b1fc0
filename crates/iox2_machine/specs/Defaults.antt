-- The settings that a service has if nothing else is asked for.
use Rattle.std.specs.Prelude.{ℕ, true}
use Rattle.iox2_machine.specs.declared.service_config.ServiceConfig.{ServiceConfig}
use Rattle.iox2_machine.specs.declared.service_config.TypeVariant.TheVariants.{FixedSize}
use Rattle.iox2_machine.specs.declared.allocation.AllocationStrategy.TheVariants.{Static}
use Rattle.iox2_machine.specs.declared.backpressure.BackpressureStrategy.TheVariants.{RetryUntilDelivered}

-- Single values, of node 0, in memory that doesn't grow, for 2 publishers with 2 loans each and 8 subscribers, with
-- buffers of 2, 2 borrowed samples, room for 128 departed publishers, no history, one channel and overflow. A publisher
-- retries, and cells are handed out.
abbrev pub default_config : (service_id : ℕ) → ServiceConfig
default_config service_id = record {
  service_id = service_id;
  node_id = 0;
  variant = FixedSize;
  units_per_element = 1;
  lists_cells = true;
  max_publishers = 2;
  max_subscribers = 8;
  subscriber_max_buffer_size = 2;
  subscriber_max_borrowed_samples = 2;
  history_size = 0;
  number_of_channels = 1;
  enable_safe_overflow = true;
  subscriber_expired_connection_buffer = 128;
  publisher_max_loaned_samples = 2;
  backpressure_strategy = RetryUntilDelivered;
  publisher_allocation_strategy = Static;
}
