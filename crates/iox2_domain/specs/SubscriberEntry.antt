-- A subscriber enters a domain.
use Rattle.std.specs.Prelude.{ℕ, if◌then◌else◌, nat_lt, ◌==◌}
use Rattle.std.specs.declared.result.Result.{Result}
use Rattle.std.specs.declared.result.Result.TheVariants.{Ok, Err}
use Rattle.iox2_machine.specs.machine.Limits.{buffer_limit, last_number}
use Rattle.iox2_machine.specs.machine.Ports.{buffer_for}
use Rattle.iox2_machine.specs.machine.Records.{SubscriberSettings}
use Rattle.iox2_machine.specs.declared.errors.SubscriberCreateError.{SubscriberCreateError}
use Rattle.iox2_machine.specs.declared.errors.SubscriberCreateError.TheVariants.{UnableToCreatePortTag}
use Rattle.iox2_machine.specs.declared.errors.SubscriberCreateError.TheVariants.{BufferSizeExceedsMaxSupportedBufferSizeOfService}
use Rattle.iox2_machine.specs.declared.errors.SubscriberCreateError.TheVariants.{ExceedsMaxSupportedSubscribers}
use Rattle.iox2_domain.specs.Handlers.{handler_of}
use Rattle.iox2_domain.specs.declared.options.SubscriberOptions.{SubscriberOptions}
use Rattle.iox2_domain.specs.Fields.{Fields}
use Rattle.iox2_domain.specs.Placed.{lowest_empty}

-- The settings of a subscriber that is made with these options.
abbrev pub asked_for : SubscriberOptions → SubscriberSettings
asked_for given = record { buffer_size = given.buffer_size; degradation_handler = handler_of given.degradation }

module _ {T U : Type 0} where
  -- The lowest free place, for a subscriber with these settings; or the first reason to refuse it.
  abbrev pub place_for_subscriber : Fields T U → SubscriberSettings → Result ℕ SubscriberCreateError
  place_for_subscriber f given =
      if f.next_port == last_number then Err UnableToCreatePortTag
      else if nat_lt (buffer_limit f.config)
      (buffer_for given) then Err BufferSizeExceedsMaxSupportedBufferSizeOfService
      else if nat_lt (lowest_empty f.subscribers) (f.config).max_subscribers then Ok
      (lowest_empty f.subscribers) else Err ExceedsMaxSupportedSubscribers
