-- The services of the worked runs, and a run as a list of its steps.
use Rattle.std.proofs.Common.{◌≡◌, ℕ, Bool, true, refl}
use Rattle.iox2_machine.specs.declared.service_config.ServiceConfig.{ServiceConfig}
use Rattle.iox2_machine.specs.declared.service_config.TypeVariant.TheVariants.{FixedSize, Dynamic}
use Rattle.iox2_machine.specs.declared.allocation.AllocationStrategy.TheVariants.{Static}
use Rattle.iox2_machine.specs.declared.backpressure.BackpressureStrategy.TheVariants.{DiscardData}

-- A service for single values, with these limits.
abbrev pub domain : (publishers subscribers buffer borrows history expired : ℕ) → (overflow : Bool) → ServiceConfig
domain publishers subscribers buffer borrows history expired overflow = record {
  service_id = 1;
  node_id = 1;
  variant = FixedSize;
  units_per_element = 1;
  lists_cells = true;
  max_publishers = publishers;
  max_subscribers = subscribers;
  subscriber_max_buffer_size = buffer;
  subscriber_max_borrowed_samples = borrows;
  history_size = history;
  number_of_channels = 1;
  enable_safe_overflow = overflow;
  subscriber_expired_connection_buffer = expired;
  publisher_max_loaned_samples = 1;
  backpressure_strategy = DiscardData;
  publisher_allocation_strategy = Static;
}

-- A service for slices, with these limits.
abbrev pub slice_domain : (publishers subscribers buffer borrows history expired : ℕ) → (overflow : Bool)
    → ServiceConfig
slice_domain publishers subscribers buffer borrows history expired overflow =
    record (domain publishers subscribers buffer borrows history expired overflow) { variant = Dynamic }

infixr 2 ◌▸◌
-- A command of a run whose default values are 0, with its outcome and its step, and the commands behind it.
pub ◌▸◌ : {O : Type 0} {IsStep : ℕ → ℕ → O → Type 0} {Replies Tells Rest : O → Type 0}
    (first : (o : O) × IsStep 0 0 o × Replies o × Tells o) → Rest first.0
    → (default_value : ℕ) × (default_header : ℕ) × (default_value ≡ 0) × (default_header ≡ 0) × (o : O)
    × IsStep default_value default_header o × Replies o × Tells o × Rest o
first ▸ rest = (0, 0, refl, refl, first.0, first.1, first.2, first.3, rest)
