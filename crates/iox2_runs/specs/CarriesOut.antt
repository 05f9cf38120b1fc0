-- The outcome of one command of a run.
use Rattle.std.specs.declared.vec.Vec.{Vec}
use Rattle.iox2_machine.specs.machine.Records.{Environment}
use Rattle.iox2_commands.specs.Runs.{Defaults}
use Rattle.iox2_commands.specs.declared.command.Command.{Command}
use Rattle.iox2_commands.specs.declared.reply.Reply.{Reply}
use Rattle.iox2_domain.specs.Kept.{Kept as Domain}
use Rattle.iox2_runs.specs.Carries.{Carries}
use Rattle.iox2_runs.specs.Leaves.{LeavesTable}
use Rattle.iox2_runs.specs.Rooms.{SameRoom}
use Rattle.iox2_runs.specs.declared.runs.made.Made.{Made}

-- The command is carried out with this reply and makes this, all else that was live stays so, and the table has the
-- room it had.
pub record CarriesOut {T U F G A : Type 0} (environment : Environment) (defaults : Defaults T U)
    (old new : Domain T U F G) (table table' : Vec Made A)
    (command : Command T U) (reply : Reply T U) (made : Made) : Type 0 where
  pub carries : Carries environment defaults old new table.items command reply table'.items made
  pub leaves : LeavesTable old new table.items table'.items made
  pub room : SameRoom table table'
