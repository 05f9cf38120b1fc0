-- The laws of steps.
use Rattle.std.specs.Prelude.{ℕ, Bool, List, ◌≡◌, IsTrue}
use Rattle.iox2_machine.specs.machine.Records.{Environment}
use Rattle.iox2_machine.specs.machine.State.{State, Messages}
use Rattle.iox2_machine.specs.machine.WellFormed.{IsWellFormed}
use Rattle.iox2_machine.specs.declared.backpressure.BackpressureAction.{BackpressureAction}
use Rattle.iox2_machine.specs.declared.backpressure.BackpressureInfo.{BackpressureInfo}
use Rattle.iox2_machine.specs.declared.degradation.DegradationAction.{DegradationAction}
use Rattle.iox2_machine.specs.declared.degradation.DegradationCause.{DegradationCause}
use Rattle.iox2_machine.specs.declared.degradation.DegradationInfo.{DegradationInfo}
use Rattle.iox2_laws.specs.Laws.{Advances}
use Rattle.iox2_commands.specs.Outcomes.{Handle, Outcome, messages_after}
use Rattle.iox2_commands.specs.Step.{Step}
use Rattle.iox2_machine.specs.Stored.{Stored, StoredShows}
use Rattle.iox2_commands.specs.StoredSteps.{StoredStep}
use Rattle.iox2_commands.specs.declared.command.Command.{Command}

-- An environment whose boxed handlers may give each answer that passes a test. A clause can range over tests alone; the
-- lemmas behind the laws hold of every environment.
abbrev pub tested_environment : (may_refuse_memory : Bool) → (ℕ → BackpressureInfo → BackpressureAction → Bool)
    → (ℕ → DegradationCause → DegradationInfo → DegradationAction → Bool) → Environment
tested_environment may_refuse_memory backpressure degradation = record {
  may_refuse_memory = IsTrue may_refuse_memory;
  backpressure_answers = λ port info action. IsTrue (backpressure port info action);
  degradation_answers = λ port cause info action. IsTrue (degradation port cause info action);
}

-- Every step from a well-formed state ends in one with the same configuration, and no counter falls, whatever the
-- handlers answer and whether or not memory is refused.
abbrev pub StepsKeepWellFormed : Type 0 → Type 0 → Type 0
StepsKeepWellFormed T U =
    (may_refuse_memory : Bool) (backpressure : ℕ → BackpressureInfo → BackpressureAction → Bool)
    (degradation : ℕ → DegradationCause → DegradationInfo → DegradationAction → Bool)
    (default_value : T) (default_header : U) (m : Messages T U) (s : State T U) (handles : List Handle)
    (command : Command T U) (o : Outcome T U)
    → IsWellFormed s → Step (tested_environment may_refuse_memory backpressure degradation) default_value default_header
    m s handles command o
    → IsWellFormed o.state × Advances s o.state

-- A step on what is kept is a step from each state that is shown, with the same outcome, to a state that is shown
-- afterwards; and the messages are those of before with the one that was sent.
abbrev pub StepsLift : Type 0 → Type 0 → Type 0
StepsLift T U =
    (may_refuse_memory : Bool) (backpressure : ℕ → BackpressureInfo → BackpressureAction → Bool)
    (degradation : ℕ → DegradationCause → DegradationInfo → DegradationAction → Bool)
    (default_value : T) (default_header : U) (old new : Stored T U) (handles : List Handle) (command : Command T U)
    (o : Outcome T U)
    → StoredStep (tested_environment may_refuse_memory backpressure degradation) default_value default_header old
    handles command o new
    → (m : Messages T U) (s : State T U) → StoredShows old m s
    → (m' : Messages T U) × (s' : State T U) × StoredShows new m' s'
    × Step (tested_environment may_refuse_memory backpressure degradation) default_value default_header m s handles
    command o
    × (m' ≡ messages_after o.event m) × (s' ≡ o.state)
