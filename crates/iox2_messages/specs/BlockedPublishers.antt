-- A publisher with a blocked delivery.
use Rattle.std.specs.Prelude.{◌≡◌, ℕ, slice_index_or}
use Rattle.std.specs.declared.option.Option.TheVariants.{None, Some}
use Rattle.iox2_connections.specs.declared.sender.Progress.{Progress}
use Rattle.iox2_connections.specs.Receivers.{HasReclaimed}
use Rattle.iox2_domain.specs.BlockedSends.{CanGoOn}
use Rattle.iox2_domain.specs.declared.publisher_state.BlockedDelivery.{BlockedDelivery}
use Rattle.iox2_domain.specs.Fields.{Fields}
use Rattle.iox2_domain.specs.Invariant.{IsDomain}
use Rattle.iox2_domain.specs.Ports.{PublisherFields}

module _ {T U : Type 0} where
  -- A domain in which a publisher stands at the place.
  pub record HasPublisherAt (f : Fields T U) (place : ℕ) : Type 0 where
    pub agrees : IsDomain f
    pub publisher : PublisherFields
    pub stands : slice_index_or f.publishers place None ≡ Some publisher

  -- A domain in which the publisher at the place, which has reclaimed what was given back, may take up its blocked
  -- delivery there.
  pub record CanTakeUp (f : Fields T U) (place : ℕ) (start : Progress) : Type 0 where
    pub agrees : IsDomain f
    pub publisher : PublisherFields
    pub stands : slice_index_or f.publishers place None ≡ Some publisher
    pub delivery : BlockedDelivery
    pub waits : publisher.blocked ≡ Some delivery
    pub can : CanGoOn publisher delivery start
    pub reclaimed : HasReclaimed f.connections publisher.keys
