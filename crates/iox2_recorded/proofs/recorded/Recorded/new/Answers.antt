use Rattle.std.proofs.Common.{refl, sym, arith, ◌∙◌, []}
use Rattle.iox2_runs.specs.Carries.{defaults_of}
use Rattle.iox2_runs.proofs.LeavingSteps.{none-placed}
use Rattle.iox2_recorded.proofs.RecordedCalls.{ran-none, was-run}
use Rattle.iox2_recorded.proofs.recorded.Recorded.new.Goals as goal

pub returns-clause-recorded : goal.returns-clause-recorded
returns-clause-recorded g c =
    let none = ran-none {T = g.row.T.Denot} {U = g.row.U.Denot}
    (defaults_of g.T.Default.is_default g.U.Default.is_default) c.in-Ok.domain in
    record {
      start = c.in-Ok.domain;
      new = c.in-Ok.ensures.fresh;
      missed_commands = [];
      missed_replies = [];
      ran = rw (c.in_ok-commands.ensures.items, c.in_ok-replies.ensures.items, c.in_ok-table.ensures.items) none;
      placed = rw c.in_ok-table.ensures.items (none-placed {T = g.row.T.Denot} {U = g.row.U.Denot} c.in-Ok.domain
          (rw c.in-Ok.ensures.settings (sym c.lacks_cells.ensures ∙ c.if-lacks_cells.false)));
      kept = rw (c.in_ok-commands.ensures.items, c.in_ok-replies.ensures.items)
          (was-run {T = g.row.T.Denot} {U = g.row.U.Denot} (defaults_of g.T.Default.is_default g.U.Default.is_default)
          c.args.config c.in-Ok.domain c.in-Ok.domain [] [] [] c.in-Ok.ensures.fresh none);
      whole = λ _. (refl, refl);
    }

pub returns-clause-room : goal.returns-clause-room
returns-clause-room g c = (c.in_ok-commands.ensures.exact, c.in_ok-replies.ensures.exact)

pub returns-clause-names : goal.returns-clause-names
returns-clause-names g c = record {
  room = let names = c.in_ok-table.ensures.exact in let commands = c.in_ok-commands.ensures.exact in
      omega (arith, names, commands);
  each = λ _. c.in_ok-table.ensures.len ∙ sym c.in_ok-commands.ensures.len;
}
