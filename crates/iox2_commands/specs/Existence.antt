-- Every list of commands has a run, so no law of runs is empty.
use Rattle.std.specs.Prelude.{List}
use Rattle.iox2_machine.specs.machine.State.{State, Messages, fresh, no_messages}
use Rattle.iox2_machine.specs.declared.service_config.ServiceConfig.{ServiceConfig}
use Rattle.iox2_commands.specs.Outcomes.{Event}
use Rattle.iox2_machine.specs.machine.Environments.{ample_memory}
use Rattle.iox2_commands.specs.Runs.{Run, only_defaults}
use Rattle.iox2_commands.specs.declared.command.Command.{Command}
use Rattle.iox2_commands.specs.declared.reply.Reply.{Reply}

-- Every list of commands has a run on a new domain with ample memory.
abbrev pub EveryListRuns : Type 0 → Type 0 → Type 0
EveryListRuns T U =
    (default_value : T) (default_header : U) (c : ServiceConfig) (commands : List (Command T U))
    → (replies : List (Reply T U)) × (events : List (Event T U)) × (m : Messages T U) × (s : State T U)
    × Run ample_memory (only_defaults default_value default_header) no_messages (fresh c) commands replies events m s
