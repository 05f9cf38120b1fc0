use Rattle.std.proofs.Common.{◌≡◌, ◌≤◌, take, vec_len}
use Rattle.std.specs.Prelude.{vec_capacity}
use Rattle.iox2_machine.specs.machine.Environments.{fixed_handlers}
use Rattle.iox2_pubsub.specs.Live.{Stays}
use Rattle.iox2_runs.specs.Carries.{defaults_of}
use Rattle.iox2_runs.specs.Leaves.{AreNewIn}
use Rattle.iox2_runs.specs.Placed.{ArePlaced}
use Rattle.iox2_runs.proofs.RunLoop.{HasRun}
use Rattle.iox2_runs.proofs.runs.run.Given as goal

abbrev pub invariant-loop-command : goal.invariant-loop-command
invariant-loop-command g l = record {
  ran : HasRun {T = g.row.T.Denot} {U = g.row.U.Denot} fixed_handlers
      (defaults_of g.T.Default.is_default g.U.Default.is_default) l.fn.domain l.domain
      (take l.command-index l.fn.commands.items) l.replies.items l.table.items;
  stays : Stays l.fn.domain l.domain;
  new : AreNewIn l.fn.domain l.table.items;
  placed : ArePlaced l.domain l.table.items;
  made : vec_len l.table ≡ l.command-index;
  replied : vec_len l.replies ≡ l.command-index;
  room : vec_len l.fn.commands ≤ vec_capacity l.table;
  reply_room : vec_len l.fn.commands ≤ vec_capacity l.replies;
}
