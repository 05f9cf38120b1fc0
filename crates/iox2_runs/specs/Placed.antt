-- The ports, loans and samples of a run's table are where their handles say.
use Rattle.std.specs.Prelude.{◌≡◌, ℕ, List, false, slice_index_or}
use Rattle.iox2_domain.specs.Kept.{Kept as Domain}
use Rattle.iox2_pubsub.specs.Live.{IsPlaced, IsPlacedPublisher, IsPlacedSubscriber}
use Rattle.iox2_runs.specs.Services.{lacks_cells}
use Rattle.iox2_runs.specs.declared.runs.made.Made.{Made}
use Rattle.iox2_runs.specs.declared.runs.made.Made.TheVariants.{Nothing, Publisher, Subscriber, Unwritten, Written}
use Rattle.iox2_runs.specs.declared.runs.made.Made.TheVariants.{Sample}

module _ {T U F G : Type 0} (domain : Domain T U F G) where
  -- If a command made a port, a loan or a sample, that is at the place that its handle says. A loan that isn't written
  -- is of elements of one unit.
  abbrev pub IsPlacedMade : Made → Type 0
  IsPlacedMade (Publisher publisher) = IsPlacedPublisher domain publisher
  IsPlacedMade (Subscriber subscriber) = IsPlacedSubscriber domain subscriber
  IsPlacedMade (Unwritten loan) =
      IsPlaced domain loan.loan.number loan.loan.book loan.loan.slot × ((domain.config).units_per_element ≡ 1)
  IsPlacedMade (Written loan) = IsPlaced domain loan.loan.number loan.loan.book loan.loan.slot
  IsPlacedMade (Sample sample) = IsPlaced domain sample.sample.number sample.sample.book sample.sample.slot
  IsPlacedMade _ = Unit {0}

  -- So is each of the table. And the domain hands out the cells that commands read and write.
  pub record ArePlaced (table : List Made) : Type 0 where
    pub ports : (of : ℕ) → IsPlacedMade (slice_index_or table of Nothing)
    pub cells : lacks_cells domain.config ≡ false
