-- A publisher does what it is due for.
use Rattle.std.specs.Prelude.{◌≡◌, ℕ}
use Rattle.std.specs.declared.option.Option.{Option}
use Rattle.iox2_machine.specs.machine.Records.{Environment}
use Rattle.iox2_machine.specs.declared.errors.ConnectionFailure.{ConnectionFailure}
use Rattle.iox2_domain.specs.Connects.{UpdatesKeptPublisher}
use Rattle.iox2_domain.specs.Fields.{Fields, kept_of}
use Rattle.iox2_domain.specs.Kept.{state_of}
use Rattle.iox2_domain.specs.Ports.{PublisherFields}
use Rattle.iox2_domain.specs.Reaches.{Reaches}

-- So it is from some fields on in which nothing changed that can be seen.
abbrev pub BehindClearing : {T U : Type 0} → (old : Fields T U) → (Fields T U → Type 0) → Type 0
BehindClearing {T} {U} old P = (middle : Fields T U) × Reaches old middle (state_of (kept_of old)) × P middle

-- The publisher x at the place first lets go of what nobody holds any more, by which nothing changes that can be seen.
-- Then it is updated, with this failure if any.
pub record CatchesUp {T U : Type 0} (environment : Environment) (old : Fields T U) (place : ℕ) (x : PublisherFields)
    (new : Fields T U) (failure : Option ConnectionFailure) : Type 0 where
  pub middle : Fields T U
  pub reaches : Reaches old middle (state_of (kept_of old))
  pub same : middle.publishers ≡ old.publishers
  pub updates : UpdatesKeptPublisher environment middle place x new failure
