-- What the function of one command of a run ensures.
use Rattle.std.specs.Prelude.{ℕ, List, [], ◌∷◌, ◌++◌, ◌≡◌}
use Rattle.iox2_machine.specs.machine.Numbers.{IsOnce}
use Rattle.iox2_machine.specs.machine.Records.{Environment}
use Rattle.iox2_machine.specs.machine.State.{State, Messages}
use Rattle.iox2_commands.specs.Outcomes.{Handle, Event, Outcome, messages_after}
use Rattle.iox2_commands.specs.Step.{Step}
use Rattle.iox2_commands.specs.Runs.{Defaults, received}
use Rattle.iox2_runs.specs.Tables.{TableEntry, IsTable}
use Rattle.iox2_commands.specs.declared.command.Command.{Command}
use Rattle.iox2_commands.specs.declared.reply.Reply.{Reply}

-- From these messages, this state and this table, the command steps to what is shown afterwards, with this reply, and
-- the table follows, if no subscriber has received a message twice.
pub record Comes {T U : Type 0} (environment : Environment) (defaults : Defaults T U)
    (Shown : Messages T U → State T U → Type 0) (m : Messages T U) (s : State T U)
    (handles : List Handle) (events : List (Event T U)) (command : Command T U) (reply : Reply T U)
    (table : List TableEntry) : Type 0 where
  pub default_value : T
  pub default_header : U
  pub is_default_value : defaults.IsDefaultValue default_value
  pub is_default_header : defaults.IsDefaultHeader default_header
  pub outcome : Outcome T U
  pub step : Step environment default_value default_header m s handles command outcome
  pub replied : outcome.reply ≡ reply
  pub shown : Shown (messages_after outcome.event m) outcome.state
  pub follows : ((p q : ℕ) → IsOnce (received p q (events ++ outcome.event ∷ [])))
      → IsTable outcome.state (handles ++ outcome.handle ∷ []) (events ++ outcome.event ∷ []) table
