use Rattle.iox2_pubsub.proofs.StaysOn.{stays-but-more}
use Rattle.iox2_pubsub.specs.Live.{IsNewIn, A_loan, A_blocked_send, Both}
use Rattle.iox2_runs.proofs.CarriedChanges.{taken_carried, taken_refused, taken_passed}
use Rattle.iox2_runs.proofs.LeavingSteps.{leaves-all}
use Rattle.iox2_runs.proofs.LiveEntries.{live_unwritten}
use Rattle.iox2_runs.proofs.TableEntries.{not_unwritten}
use Rattle.iox2_runs.proofs.TableLooks.{is_unwritten_entry}
use Rattle.iox2_runs.proofs.Turned.{keeps, looks, spends}
use Rattle.iox2_runs.specs.Carries.{entry_for}
use Rattle.iox2_runs.specs.declared.runs.made.Made.TheVariants.{Written}
use Rattle.iox2_runs.specs.declared.runs.made.Made.{Made}
use Rattle.iox2_machine.specs.declared.key.Key.{Key}
use Rattle.std.proofs.Common.{refl, sym, ap, subst, ◌∙◌}
use Rattle.iox2_runs.proofs.runs.changes.assume_init.Goals as goal

pub assume_init-requires : goal.assume_init-requires
assume_init-requires g c =
    record {
      live = live_unwritten {T = g.row.T.Denot}
          {U = g.row.U.Denot} c.args.domain.now c.args.held c.requires c.in-Unwritten.loan c.in-Unwritten.is;
    }

pub returns-in-Ok : goal.returns-in-Ok
returns-in-Ok g c =
    rw c.in-Unwritten.is (spends {T = g.row.T.Denot}
    {U = g.row.U.Denot} _ _ c.args.domain.now c.assume_init.new.domain _ _ _ (Written c.in-Ok.loan) (λ table of at.
    taken_carried {T = g.row.T.Denot} {U = g.row.U.Denot} _ c.args.domain.now c.assume_init.new.domain table _ of
    c.in-Unwritten.loan c.in-Ok.loan at c.in-Ok.ensures.step
    (ap (λ (k : Key). k.service_id) c.in-Ok.ensures.becomes.key) (ap (λ (k : Key). k.port) c.in-Ok.ensures.becomes.key)
    (ap (λ (k : Key). k.message) c.in-Ok.ensures.becomes.key) refl)
    (stays-but-more _ _ _ _ c.assume_init.ensures.leaves.stays)
    (λ start fresh. subst (λ (k : Key). IsNewIn start (Both (A_loan k.message) (A_blocked_send k.port)))
    (sym c.in-Ok.ensures.becomes.key) fresh) c.in-Ok.ensures.becomes.out.placed)

pub returns-in-Err : goal.returns-in-Err
returns-in-Err g c =
    rw (c.in-Unwritten.is, (c.in-Err.ensures.handed_back).0)
    (keeps {T = g.row.T.Denot} {U = g.row.U.Denot} _ _ c.args.domain.now c.assume_init.new.domain _ _ _ _
    (λ table of at.
    taken_refused {T = g.row.T.Denot} {U = g.row.U.Denot} _ c.args.domain.now c.assume_init.new.domain table table of
    c.in-Unwritten.loan at c.in-Err.ensures.step refl)
    (λ table of at. leaves-all {T = g.row.T.Denot} {U = g.row.U.Denot} c.args.domain.now c.assume_init.new.domain table
    table (sym (c.in-Err.ensures.handed_back).1) refl))

pub returns-in_default : goal.returns-in_default
returns-in_default g c =
    looks {T = g.row.T.Denot} {U = g.row.U.Denot} _ _ c.args.domain.now c.args.held _ _ (λ table of at.
    taken_passed {T = g.row.T.Denot} {U = g.row.U.Denot} _ c.args.domain.now c.args.domain.now table table of
    (ap (λ (h : Made). is_unwritten_entry (entry_for h)) at ∙ not_unwritten c.args.held c.in_default.not-Unwritten))
