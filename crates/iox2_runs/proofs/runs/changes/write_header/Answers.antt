use Rattle.iox2_pubsub.proofs.StaysOn.{stays-but-more}
use Rattle.iox2_pubsub.specs.ChangedLoans.{with_user_header_left}
use Rattle.iox2_runs.proofs.CarriedChanges.{unwritten_header_carried, written_header_carried, header_passed}
use Rattle.iox2_runs.proofs.LeavingSteps.{still-placed}
use Rattle.iox2_runs.proofs.LiveEntries.{live_unwritten, live_written, placed_unwritten}
use Rattle.iox2_runs.proofs.TableEntries.{not_loan}
use Rattle.iox2_runs.proofs.TableLooks.{is_loan_entry}
use Rattle.iox2_runs.proofs.Turned.{looks, spends}
use Rattle.iox2_runs.specs.Carries.{entry_for}
use Rattle.iox2_runs.specs.declared.runs.made.Made.TheVariants.{Unwritten, Written}
use Rattle.iox2_runs.specs.declared.runs.made.Made.{Made}
use Rattle.std.proofs.Common.{[], refl, ap, ◌∙◌}
use Rattle.iox2_runs.proofs.runs.changes.write_header.Goals as goal

pub user_header_mut-requires : goal.user_header_mut-requires
user_header_mut-requires g c =
    record {
      live = live_unwritten {T = g.row.T.Denot}
          {U = g.row.U.Denot} c.args.domain.now c.args.held c.requires c.in-Unwritten.loan c.in-Unwritten.is;
    }

pub returns-in-Unwritten : goal.returns-in-Unwritten
returns-in-Unwritten g c =
    rw c.in-Unwritten.is (spends {T = g.row.T.Denot} {U = g.row.U.Denot} _ _ c.args.domain.now
    (with_user_header_left c.args.domain.now c.in-Unwritten.loan.loan.number c.args.value) _ _ _
    (Unwritten c.user_header_mut.new.sample) (λ table of at.
    unwritten_header_carried {T = g.row.T.Denot} {U = g.row.U.Denot} _ c.args.domain.now
    (with_user_header_left c.args.domain.now c.in-Unwritten.loan.loan.number c.args.value) table _ of
    c.in-Unwritten.loan c.user_header_mut.new.sample c.args.value at c.user_header_mut.ensures.same
    (λ m s shown. c.user_header_mut.ensures.changes m s c.args.value shown) refl)
    (stays-but-more _ _ _ _ (c.user_header_mut.ensures.leaves c.args.value).stays)
    (λ start fresh. rw c.user_header_mut.ensures.same fresh)
    (rw c.user_header_mut.ensures.same (still-placed {T = g.row.T.Denot} {U = g.row.U.Denot} c.args.domain.now
    (with_user_header_left c.args.domain.now c.in-Unwritten.loan.loan.number c.args.value) [] _
    (c.user_header_mut.ensures.leaves c.args.value).stays (Unwritten c.in-Unwritten.loan)
    (placed_unwritten {T = g.row.T.Denot}
    {U = g.row.U.Denot} c.args.domain.now c.args.held c.requires c.in-Unwritten.loan c.in-Unwritten.is))))

pub user_header_mut-requires-in-Written : goal.user_header_mut-requires-in-Written
user_header_mut-requires-in-Written g c =
    record {
      live = live_written {T = g.row.T.Denot}
          {U = g.row.U.Denot} c.args.domain.now c.args.held c.requires c.in-Written.loan c.in-Written.is;
    }

pub returns-in-Written : goal.returns-in-Written
returns-in-Written g c =
    rw c.in-Written.is (spends {T = g.row.T.Denot} {U = g.row.U.Denot} _ _ c.args.domain.now
    (with_user_header_left c.args.domain.now c.in-Written.loan.loan.number c.args.value) _ _ _
    (Written c.user_header_mut-in-Written.new.sample) (λ table of at.
    written_header_carried {T = g.row.T.Denot} {U = g.row.U.Denot} _ c.args.domain.now
    (with_user_header_left c.args.domain.now c.in-Written.loan.loan.number c.args.value) table _ of c.in-Written.loan
    c.user_header_mut-in-Written.new.sample c.args.value at c.user_header_mut-in-Written.ensures.same
    (λ m s shown. c.user_header_mut-in-Written.ensures.changes m s c.args.value shown) refl)
    (stays-but-more _ _ _ _ (c.user_header_mut-in-Written.ensures.leaves c.args.value).stays)
    (λ start fresh. rw c.user_header_mut-in-Written.ensures.same fresh)
    (rw c.user_header_mut-in-Written.ensures.same
    ((c.user_header_mut-in-Written.ensures.leaves c.args.value).stays.placed_messages c.in-Written.loan.loan.number
    c.in-Written.loan.loan.book c.in-Written.loan.loan.slot
    (live_written {T = g.row.T.Denot}
    {U = g.row.U.Denot} c.args.domain.now c.args.held c.requires c.in-Written.loan c.in-Written.is).placed)))

pub returns-in_default : goal.returns-in_default
returns-in_default g c =
    looks {T = g.row.T.Denot} {U = g.row.U.Denot} _ _ c.args.domain.now c.args.held _ _ (λ table of at.
    header_passed {T = g.row.T.Denot} {U = g.row.U.Denot} _ c.args.domain.now c.args.domain.now table table of
    c.args.value (ap (λ (h : Made). is_loan_entry (entry_for h)) at
    ∙ not_loan c.args.held c.in_default.not-Unwritten c.in_default.not-Written))
