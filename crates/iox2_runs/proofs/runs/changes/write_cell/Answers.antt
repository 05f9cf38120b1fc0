use Rattle.iox2_pubsub.proofs.StaysOn.{stays-but-more}
use Rattle.iox2_runs.proofs.CarriedChanges.{cell_carried, cell_passed}
use Rattle.iox2_runs.proofs.LeavingSteps.{still-placed}
use Rattle.iox2_runs.proofs.LiveEntries.{live_unwritten, listed, placed_unwritten}
use Rattle.iox2_runs.proofs.TableEntries.{not_unwritten}
use Rattle.iox2_runs.proofs.TableLooks.{is_unwritten_entry}
use Rattle.iox2_runs.proofs.Turned.{looks, spends}
use Rattle.iox2_runs.specs.Carries.{entry_for}
use Rattle.iox2_runs.specs.declared.runs.made.Made.TheVariants.{Unwritten}
use Rattle.iox2_runs.specs.declared.runs.made.Made.{Made}
use Rattle.std.proofs.Common.{[], refl, ap, ◌∙◌}
use Rattle.iox2_runs.proofs.runs.changes.write_cell.Goals as goal

pub write_cell_at-is_there-requires-clause-live : goal.write_cell_at-is_there-requires-clause-live
write_cell_at-is_there-requires-clause-live g c = live_unwritten {T = g.row.T.Denot}
    {U = g.row.U.Denot} c.args.domain.now c.args.held c.requires c.in-Unwritten.loan c.in-Unwritten.is

pub write_cell_at-is_there-requires-clause-lists_cells : goal.write_cell_at-is_there-requires-clause-lists_cells
write_cell_at-is_there-requires-clause-lists_cells g c =
    listed {T = g.row.T.Denot}
    {U = g.row.U.Denot} c.args.domain.now c.args.held c.requires c.in-Unwritten.loan c.in-Unwritten.is

pub returns-in-Unwritten : goal.returns-in-Unwritten
returns-in-Unwritten g c =
    rw c.in-Unwritten.is (spends {T = g.row.T.Denot} {U = g.row.U.Denot} _ _ c.args.domain.now
    c.write_cell_at-is_there.new.domain _ _ _ (Unwritten c.write_cell_at-is_there.result.1) (λ table of at.
    cell_carried {T = g.row.T.Denot} {U = g.row.U.Denot} _ c.args.domain.now c.write_cell_at-is_there.new.domain table _
    of c.in-Unwritten.loan c.write_cell_at-is_there.result.1 c.args.at c.args.value c.write_cell_at-is_there.result.0
    c.done_if.result at c.write_cell_at-is_there.ensures.same c.write_cell_at-is_there.ensures.writes c.done_if.ensures
    refl)
    (stays-but-more _ _ _ _ c.write_cell_at-is_there.ensures.stays)
    (λ start fresh. rw c.write_cell_at-is_there.ensures.same fresh)
    (rw c.write_cell_at-is_there.ensures.same
    (still-placed {T = g.row.T.Denot} {U = g.row.U.Denot} c.args.domain.now c.write_cell_at-is_there.new.domain [] _
    c.write_cell_at-is_there.ensures.stays (Unwritten c.in-Unwritten.loan)
    (placed_unwritten {T = g.row.T.Denot}
    {U = g.row.U.Denot} c.args.domain.now c.args.held c.requires c.in-Unwritten.loan c.in-Unwritten.is))))

pub returns-in_default : goal.returns-in_default
returns-in_default g c =
    looks {T = g.row.T.Denot} {U = g.row.U.Denot} _ _ c.args.domain.now c.args.held _ _ (λ table of at.
    cell_passed {T = g.row.T.Denot} {U = g.row.U.Denot} _ c.args.domain.now c.args.domain.now table table of c.args.at
    c.args.value
    (ap (λ (h : Made). is_unwritten_entry (entry_for h)) at ∙ not_unwritten c.args.held c.in_default.not-Unwritten))
