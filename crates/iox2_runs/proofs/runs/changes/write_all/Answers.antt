use Rattle.iox2_pubsub.proofs.StaysOn.{stays-but-more}
use Rattle.iox2_pubsub.specs.Live.{IsNewIn, A_loan, A_blocked_send, Both}
use Rattle.iox2_runs.proofs.CarriedLoans.{write_carried, write_passed}
use Rattle.iox2_runs.proofs.LiveEntries.{live_unwritten}
use Rattle.iox2_runs.proofs.TableEntries.{not_unwritten}
use Rattle.iox2_runs.proofs.TableLooks.{is_unwritten_entry}
use Rattle.iox2_runs.proofs.Turned.{looks, spends}
use Rattle.iox2_runs.specs.Carries.{entry_for}
use Rattle.iox2_runs.specs.declared.runs.made.Made.TheVariants.{Written}
use Rattle.iox2_runs.specs.declared.runs.made.Made.{Made}
use Rattle.iox2_machine.specs.declared.key.Key.{Key}
use Rattle.iox2_machine.specs.machine.Environments.{fixed_handlers}
use Rattle.std.proofs.Common.{refl, sym, ap, subst, ◌∙◌}
use Rattle.iox2_runs.proofs.runs.changes.write_all.Goals as goal

pub write_cells-loan-requires : goal.write_cells-loan-requires
write_cells-loan-requires g c = live_unwritten {T = g.row.T.Denot}
    {U = g.row.U.Denot} c.args.domain.now c.args.held c.requires c.in-Unwritten.loan c.in-Unwritten.is

pub returns-in-Unwritten : goal.returns-in-Unwritten
returns-in-Unwritten g c =
    rw c.in-Unwritten.is (spends {T = g.row.T.Denot} {U = g.row.U.Denot} _ _ c.args.domain.now
    c.write_cells-loan.new.domain _ _ _ (Written c.write_cells-loan.result) (λ table of at.
    write_carried {T = g.row.T.Denot} {U = g.row.U.Denot} fixed_handlers _ c.args.domain.now
    c.write_cells-loan.new.domain table _ of c.args.value c.in-Unwritten.loan c.write_cells-loan.result at
    c.write_cells-loan.ensures.written
    (ap (λ (k : Key). k.service_id) c.write_cells-loan.ensures.key)
    (ap (λ (k : Key). k.port) c.write_cells-loan.ensures.key)
    (ap (λ (k : Key). k.message) c.write_cells-loan.ensures.key) refl)
    (stays-but-more _ _ _ _ c.write_cells-loan.ensures.stays)
    (λ start new. subst (λ (k : Key). IsNewIn start (Both (A_loan k.message) (A_blocked_send k.port)))
    (sym c.write_cells-loan.ensures.key) new) c.write_cells-loan.ensures.out.placed)

pub returns-in_default : goal.returns-in_default
returns-in_default g c =
    looks {T = g.row.T.Denot} {U = g.row.U.Denot} _ _ c.args.domain.now c.args.held _ _ (λ table of at.
    write_passed {T = g.row.T.Denot} {U = g.row.U.Denot} fixed_handlers _ c.args.domain.now c.args.domain.now table
    table of c.args.value
    (ap (λ (h : Made). is_unwritten_entry (entry_for h)) at ∙ not_unwritten c.args.held c.in_default.not-Unwritten))
