-- A new port's first update, of whose failure there is a warning.
use Rattle.std.specs.Prelude.{ℕ, ◌≡◌, slice_index_or}
use Rattle.std.specs.declared.option.Option.{Option}
use Rattle.std.specs.declared.option.Option.TheVariants.{None, Some}
use Rattle.iox2_machine.specs.machine.Ports.{FirstPublisherUpdate, FirstSubscriberUpdate}
use Rattle.iox2_machine.specs.machine.Records.{Environment}
use Rattle.iox2_machine.specs.machine.State.{State, Warnings, warned}
use Rattle.iox2_machine.specs.declared.errors.ConnectionFailure.{ConnectionFailure}
use Rattle.iox2_machine.specs.declared.warning.Warning.{Warning}
use Rattle.iox2_domain.specs.Ports.{PublisherFields, SubscriberFields}
use Rattle.iox2_domain.specs.Kept.{state_of}
use Rattle.iox2_domain.specs.Fields.{Fields, kept_of}
use Rattle.iox2_domain.specs.Reaches.{Reaches}

-- The warnings after a first update with this failure, if any.
abbrev pub failure_warned : (ConnectionFailure → Warning) → Option ConnectionFailure → Warnings → Warnings
failure_warned warning None warnings = warnings
failure_warned warning (Some failure) warnings = warned warnings (warning failure)

module _ {T U : Type 0} (environment : Environment) where
  -- The new publisher x, which stands at the place, has had its first update, of whose failure there is a warning.
  pub record PublisherFirstUpdates (f : Fields T U) (place : ℕ) (x : PublisherFields) (f' : Fields T U) : Type 0 where
    pub after : State T U
    pub updates : FirstPublisherUpdate environment (state_of (kept_of f)) x.id after
    pub reaches : Reaches f f' after
    pub publisher : PublisherFields
    pub stands : slice_index_or f'.publishers place None ≡ Some publisher
    pub is_its : publisher.id ≡ x.id

  -- The new subscriber y, which stands at the place, has had its first update, of whose failure there is a warning.
  pub record SubscriberFirstUpdates (f : Fields T U) (place : ℕ) (y : SubscriberFields) (f' : Fields T U) : Type 0 where
    pub after : State T U
    pub updates : FirstSubscriberUpdate environment (state_of (kept_of f)) y.id after
    pub reaches : Reaches f f' after
    pub subscriber : SubscriberFields
    pub stands : slice_index_or f'.subscribers place None ≡ Some subscriber
    pub is_its : subscriber.id ≡ y.id
