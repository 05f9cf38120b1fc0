-- When a publisher can't be refused loans.
use Rattle.std.specs.Prelude.{ℕ, false, length, ◌≡◌, ◌+◌, ◌≤◌}
use Rattle.std.specs.declared.option.Option.TheVariants.{Some}
use Rattle.iox2_machine.specs.machine.Limits.{worst_case}
use Rattle.iox2_machine.specs.machine.Loans.{is_static}
use Rattle.iox2_machine.specs.machine.Records.{Publisher}
use Rattle.iox2_machine.specs.machine.State.{State}
use Rattle.iox2_machine.specs.declared.service_config.TypeVariant.TheVariants.{FixedSize}

-- A publisher whose memory grows lends a single value without growing: its first segment is long enough.
abbrev pub LendsWithoutGrowth : {T U : Type 0} → State T U → Publisher → Type 0
LendsWithoutGrowth s x =
    is_static x.allocation_strategy ≡ false → (s.config).variant ≡ FixedSize → 1 ≤ x.initial_max_slice_len

-- The publisher p stands, has at least as many slots in each segment as the worst case for its limit of loans, lends
-- single values if messages are such, and has at least n loans fewer out than that limit.
pub record CanLend {T U : Type 0} (s : State T U) (p n : ℕ) : Type 0 where
  pub port : Publisher
  pub stands : s.publishers p ≡ Some port
  pub slots : worst_case s.config port.max_loaned_samples ≤ port.slots
  pub few : length port.loans + n ≤ port.max_loaned_samples
  pub values : LendsWithoutGrowth s port
