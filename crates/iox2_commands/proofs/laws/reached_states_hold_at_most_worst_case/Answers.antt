use Rattle.std.specs.Prelude.{cond}
use Rattle.iox2_commands.proofs.EnoughRuns.{reached_states_hold_at_most_worst_case}
use Rattle.iox2_machine.specs.machine.Environments.{fixed_handlers, ample_memory}
use Rattle.iox2_commands.specs.Runs.{any_defaults}
use Rattle.iox2_commands.proofs.laws.reached_states_hold_at_most_worst_case.Goals as goal

pub returns : goal.returns
returns g c = λ may_refuse_memory.
    reached_states_hold_at_most_worst_case (cond may_refuse_memory fixed_handlers ample_memory) any_defaults
