-- The settings that C may choose.
use Rattle.std.specs.Prelude.{ℕ, Bool, false, if◌then◌else◌, not, nat_eq, nat_lt, ◌≡◌, ◌%◌, ◌==◌, ◌&&◌, ◌||◌}
use Rattle.iox2_machine.specs.declared.service_config.ServiceConfig.{ServiceConfig}
use Rattle.iox2_machine.specs.declared.service_config.TypeVariant.TheVariants.{Dynamic}
use Rattle.iox2_machine.specs.declared.allocation.AllocationStrategy.TheVariants.{Static}
use Rattle.iox2_machine.specs.machine.Ports.{default_publisher_settings, default_subscriber_settings}
use Rattle.iox2_machine.specs.machine.Records.{Fixed, PublisherSettings, SubscriberSettings}
use Rattle.iox2_c.specs.Codes.{invalid_struct_size, invalid_payload_size, invalid_payload_alignment}
use Rattle.iox2_c.specs.Codes.{invalid_backpressure_strategy, invalid_backpressure_handler, invalid_degradation}
use Rattle.iox2_c.specs.Codes.{invalid_allocation_strategy, invalid_initial_max_slice_len, invalid_reserved}
use Rattle.iox2_c.specs.Codes.{allocation_numbered, degradation_numbered, handler_numbered, slots_numbered}
use Rattle.iox2_c.specs.Codes.{strategy_numbered}
use Rattle.iox2_c.specs.Numbers.{wide}
use Rattle.iox2_c.specs.Serving.{KeptBytes, Serving}
use Rattle.iox2_c.specs.declared.config.Config.{Config}
use Rattle.iox2_c.specs.declared.numbers.PublisherNumbers.{PublisherNumbers}
use Rattle.iox2_c.specs.declared.options.PublisherOptions.{PublisherOptions}
use Rattle.iox2_c.specs.declared.options.SubscriberOptions.{SubscriberOptions}

-- ---- sizes of structs

-- How many bytes the settings of a domain have.
abbrev pub config_size : ℕ
config_size = 128

-- How many the options of a publisher have.
abbrev pub publisher_options_size : ℕ
publisher_options_size = 48

-- How many those of a subscriber have.
abbrev pub subscriber_options_size : ℕ
subscriber_options_size = 24

-- ---- the first setting that is invalid, by its code, and 0 where each is valid

-- Payloads can be aligned so.
abbrev pub is_alignment : ℕ → Bool
is_alignment n = (n == 1) || (n == 2) || (n == 4) || (n == 8) || (n == 16)

-- The length is a multiple of the alignment.
abbrev pub is_aligned : (length alignment : ℕ) → Bool
is_aligned length alignment = nat_lt 0 alignment && ((length % alignment) == 0)

-- The first setting of a domain that is invalid, in the order of the fields, except that the alignment comes before the
-- size that has to be a multiple of it.
abbrev pub invalid_setting : Config → ℕ
invalid_setting it =
    if not (it.struct_size == config_size) then invalid_struct_size
    else if not (is_alignment it.payload_alignment) then invalid_payload_alignment
    else if not (is_aligned it.payload_size it.payload_alignment) then invalid_payload_size
    else if not (nat_lt it.backpressure_strategy 2) then invalid_backpressure_strategy else 0

-- The first setting of a publisher that is invalid where payloads are aligned so, in the order of the fields. Memory
-- that grows begins with some.
abbrev pub invalid_publisher_option : (alignment : ℕ) → PublisherOptions → ℕ
invalid_publisher_option alignment it =
    if not (it.struct_size == publisher_options_size) then invalid_struct_size
    else if not (is_aligned it.initial_max_slice_len alignment) then invalid_initial_max_slice_len
    else if (it.initial_max_slice_len == 0)
    && ((it.allocation_strategy == 1) || (it.allocation_strategy == 2)) then invalid_initial_max_slice_len
    else if not (nat_lt it.backpressure_strategy 2) then invalid_backpressure_strategy
    else if not (nat_lt it.backpressure_handler 5) then invalid_backpressure_handler
    else if not (nat_lt it.degradation 3) then invalid_degradation
    else if not (nat_lt it.allocation_strategy 3) then invalid_allocation_strategy else 0

-- The first setting of a subscriber that is invalid, in the order of the fields.
abbrev pub invalid_subscriber_option : SubscriberOptions → ℕ
invalid_subscriber_option it =
    if not (it.struct_size == subscriber_options_size) then invalid_struct_size
    else if not (nat_lt it.degradation 3) then invalid_degradation
    else if not (it.reserved == 0) then invalid_reserved else 0

-- ---- domains

-- The settings of the domain: of slices of bytes, whose cells aren't handed out.
abbrev pub settings_of : Config → ServiceConfig
settings_of it = record {
  service_id = wide it.service_id;
  node_id = wide it.node_id;
  variant = Dynamic;
  units_per_element = 1;
  lists_cells = false;
  max_publishers = it.max_publishers;
  max_subscribers = it.max_subscribers;
  subscriber_max_buffer_size = it.subscriber_max_buffer_size;
  subscriber_max_borrowed_samples = it.subscriber_max_borrowed_samples;
  history_size = it.history_size;
  number_of_channels = it.number_of_channels;
  enable_safe_overflow = not (nat_eq it.enable_safe_overflow 0);
  subscriber_expired_connection_buffer = it.subscriber_expired_connection_buffer;
  publisher_max_loaned_samples = it.publisher_max_loaned_samples;
  backpressure_strategy = strategy_numbered it.backpressure_strategy;
  publisher_allocation_strategy = Static;
}

-- The settings of the domain, except that its publishers have memory that doesn't grow, as C's have without options.
abbrev pub settings_in : KeptBytes → ServiceConfig
settings_in kept = record (kept.config) { publisher_allocation_strategy = Static }

-- ---- ports

-- The settings of a publisher that is made without options: those of the domain, for messages as long as it says.
abbrev pub plain_publisher_settings : Serving → PublisherSettings
plain_publisher_settings it =
    record (default_publisher_settings (it.domain).config) { initial_max_slice_len = it.payload_size }

-- The settings of a subscriber that is made without options: those of the domain.
abbrev pub plain_subscriber_settings : Serving → SubscriberSettings
plain_subscriber_settings it = default_subscriber_settings (it.domain).config

-- The settings of a publisher with these options, except the slots that it asks for.
abbrev pub unasked_settings : ServiceConfig → PublisherOptions → PublisherSettings
unasked_settings config it = record (default_publisher_settings config) {
  max_loaned_samples = it.max_loaned_samples;
  backpressure_strategy = strategy_numbered it.backpressure_strategy;
  allocation_strategy = allocation_numbered it.allocation_strategy;
  initial_max_slice_len = it.initial_max_slice_len;
  degradation_handler = Fixed (degradation_numbered it.degradation);
  backpressure_handler = handler_numbered it.backpressure_handler;
}

-- The settings of a publisher with these options.
abbrev pub settings_of_options : ServiceConfig → PublisherOptions → PublisherSettings
settings_of_options config it =
    record (unasked_settings config it) { asked_slots = slots_numbered it.preallocated_samples }

-- The settings of a subscriber with these options.
abbrev pub subscriber_settings : SubscriberOptions → SubscriberSettings
subscriber_settings it =
    record { buffer_size = it.buffer_size; degradation_handler = Fixed (degradation_numbered it.degradation) }

-- The numbers of a publisher say what its settings do of its messages' length and of its strategy.
pub record ReadsSettings (it : PublisherNumbers) (given : PublisherSettings) : Type 0 where
  pub longest : it.initial_max_slice_len ≡ given.initial_max_slice_len
  pub strategy : strategy_numbered it.backpressure_strategy ≡ given.backpressure_strategy
