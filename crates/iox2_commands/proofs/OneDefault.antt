-- Where there is one default value, a run uses that one throughout.
use Rattle.std.proofs.Common.{List, [], ◌∷◌, ◌++◌}
use Rattle.iox2_machine.specs.machine.Records.{Environment}
use Rattle.iox2_machine.specs.machine.State.{State, Messages}
use Rattle.iox2_commands.specs.Outcomes.{Handle, Event, messages_after}
use Rattle.iox2_commands.specs.Runs.{Defaults, only_defaults, RunTo}
use Rattle.iox2_commands.specs.OneDefault.{HasOneDefault}
use Rattle.iox2_commands.specs.declared.command.Command.{Command}
use Rattle.iox2_commands.specs.declared.reply.Reply.{Reply}

-- a run uses other defaults too, where they allow what it used
runs_with : {T U : Type 0} (environment : Environment) (defaults defaults' : Defaults T U)
    → ((value : T) → defaults.IsDefaultValue value → defaults'.IsDefaultValue value)
    → ((header : U) → defaults.IsDefaultHeader header → defaults'.IsDefaultHeader header)
    → (m m' : Messages T U) (s s' : State T U) (handles handles' : List Handle) (commands : List (Command T U))
    (replies : List (Reply T U)) (events : List (Event T U))
    → RunTo environment defaults m s handles commands replies events m' s' handles'
    → RunTo environment defaults' m s handles commands replies events m' s' handles'
runs_with environment defaults defaults' value header m m' s s' handles handles' [] [] [] run = run
runs_with environment defaults defaults' value header m m' s s' handles handles' (command ∷ commands) (reply ∷ replies)
    (event ∷ events) run = (
      run.0,
      run.1,
      value run.0 run.2,
      header run.1 run.3,
      run.4,
      run.5,
      run.6,
      run.7,
      runs_with environment defaults defaults' value header (messages_after (run.4).event m) m' (run.4).state s'
          (handles ++ (run.4).handle ∷ []) handles' commands replies events run.8,
    )
runs_with environment defaults defaults' value header m m' s s' handles handles' [] [] (event ∷ events) run = absurd run
runs_with environment defaults defaults' value header m m' s s' handles handles' [] (reply ∷ replies) events run =
    absurd run
runs_with environment defaults defaults' value header m m' s s' handles handles' (command ∷ commands) [] events run =
    absurd run
runs_with environment defaults defaults' value header m m' s s' handles handles' (command ∷ commands)
    (reply ∷ replies) [] run = absurd run

-- a run uses one default value and one default header, where there are no others
pub uses_one_default : {T U : Type 0} (environment : Environment) (defaults : Defaults T U) → HasOneDefault defaults
    → (default_value : T) (default_header : U) → defaults.IsDefaultValue default_value
    → defaults.IsDefaultHeader default_header
    → (m m' : Messages T U) (s s' : State T U) (handles handles' : List Handle) (commands : List (Command T U))
    (replies : List (Reply T U)) (events : List (Event T U))
    → RunTo environment defaults m s handles commands replies events m' s' handles'
    → RunTo environment (only_defaults default_value default_header) m s handles commands replies events m' s' handles'
uses_one_default environment defaults one default_value default_header is_value is_header =
    runs_with environment defaults (only_defaults default_value default_header)
    (λ value is. one.value value default_value is is_value) (λ header is. one.header header default_header is is_header)
