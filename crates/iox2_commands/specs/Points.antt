-- A run, looked at between two of its commands; and the loans that a run has to grant.
use Rattle.std.specs.Prelude.{ℕ, true, List, [], length, take, drop, ◌≡◌, ◌<◌, ◌≤◌, slice_get}
use Rattle.std.specs.declared.option.Option.TheVariants.{Some}
use Rattle.iox2_machine.specs.machine.Limits.{worst_case, last_number}
use Rattle.iox2_machine.specs.machine.Loans.{is_static}
use Rattle.iox2_machine.specs.machine.Records.{Environment, Publisher}
use Rattle.iox2_machine.specs.machine.State.{State, Messages}
use Rattle.iox2_machine.specs.declared.service_config.ServiceConfig.{ServiceConfig}
use Rattle.iox2_machine.specs.declared.service_config.TypeVariant.TheVariants.{FixedSize, Dynamic}
use Rattle.iox2_commands.specs.Outcomes.{Handle, Event}
use Rattle.iox2_commands.specs.Step.{unblocked_at}
use Rattle.iox2_commands.specs.Runs.{Defaults, RunFrom, RunTo}
use Rattle.iox2_commands.specs.declared.command.Command.{Command}
use Rattle.iox2_commands.specs.declared.command.Command.TheVariants.{LoanUninit, LoanSlice}
use Rattle.iox2_commands.specs.declared.reply.Reply.{Reply}
use Rattle.iox2_commands.specs.declared.reply.Reply.TheVariants.{Loaned}

-- A run after its first n commands: what stands there, that these commands and their replies led to it, and that the
-- others lead on from it.
pub record PointOf {T U : Type 0} (environment : Environment) (defaults : Defaults T U) (m : Messages T U)
    (s : State T U) (commands : List (Command T U)) (replies : List (Reply T U))
    (events : List (Event T U)) (m' : Messages T U) (s' : State T U) (n : ℕ) : Type 0 where
  pub messages : Messages T U
  pub state : State T U
  pub handles : List Handle
  pub before : RunTo environment defaults m s [] (take n commands) (take n replies)
      (take n events) messages state handles
  pub after : RunFrom environment defaults messages state handles (drop n commands) (drop n replies)
      (drop n events) m' s'

-- ---- loans that are granted

-- The command asks what is named at `of` for an uninitialised loan that this publisher permits: of one value in a
-- service of single values, and in one of slices up to the publisher's greatest length.
abbrev pub AsksPermittedLoan : {T U : Type 0} → ServiceConfig → Publisher → (of : ℕ) → Command T U → Type 0
AsksPermittedLoan c x of (LoanUninit named) = (named ≡ of) × (c.variant ≡ FixedSize)
AsksPermittedLoan c x of (LoanSlice named len) = (named ≡ of) × (c.variant ≡ Dynamic) × (len ≤ x.initial_max_slice_len)
AsksPermittedLoan c x of _ = ⊥

-- The publisher has its slots in one segment, at least as many as the worst case for its limit of loans, and has fewer
-- loans out than that limit; an element has one unit, and a message number is left.
pub record HasLoanToGive {T U : Type 0} (s : State T U) (x : Publisher) : Type 0 where
  pub units : (s.config).units_per_element ≡ 1
  pub static : is_static x.allocation_strategy ≡ true
  pub slots : worst_case s.config x.max_loaned_samples ≤ x.slots
  pub few : length x.loans < x.max_loaned_samples
  pub more : s.next_message < last_number

-- The run has a point before each of its commands, and one after all. If a command asks an unblocked publisher that has
-- a loan to give there for one that it permits, the loan is out.
pub record GrantsLoans {T U : Type 0} (environment : Environment) (defaults : Defaults T U) (m : Messages T U)
    (s : State T U) (commands : List (Command T U)) (replies : List (Reply T U))
    (events : List (Event T U)) (m' : Messages T U) (s' : State T U) : Type 0 where
  pub points : (n : ℕ) → PointOf environment defaults m s commands replies events m' s' n
  pub granted : (n of p : ℕ) (x : Publisher) (command : Command T U)
      (point : PointOf environment defaults m s commands replies events m' s' n)
      → slice_get commands n ≡ Some command → unblocked_at point.state point.handles of ≡ Some (p, x)
      → HasLoanToGive point.state x
      → AsksPermittedLoan (point.state).config x of command → slice_get replies n ≡ Some Loaned
