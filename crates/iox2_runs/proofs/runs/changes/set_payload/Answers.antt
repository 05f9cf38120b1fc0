use Rattle.iox2_pubsub.proofs.StaysOn.{stays-but-more}
use Rattle.iox2_runs.proofs.CarriedChanges.{payload_carried, payload_passed}
use Rattle.iox2_runs.proofs.LiveEntries.{live_written}
use Rattle.iox2_runs.proofs.TableEntries.{not_written}
use Rattle.iox2_runs.proofs.TableLooks.{is_written_entry}
use Rattle.iox2_runs.proofs.Turned.{looks, spends}
use Rattle.iox2_runs.specs.Carries.{entry_for}
use Rattle.iox2_runs.specs.declared.runs.made.Made.TheVariants.{Written}
use Rattle.iox2_runs.specs.declared.runs.made.Made.{Made}
use Rattle.std.proofs.Common.{refl, ap, ◌∙◌}
use Rattle.iox2_runs.proofs.runs.changes.set_payload.Goals as goal

pub set_value_at-is_there-requires : goal.set_value_at-is_there-requires
set_value_at-is_there-requires g c = live_written {T = g.row.T.Denot}
    {U = g.row.U.Denot} c.args.domain.now c.args.held c.requires c.in-Written.loan c.in-Written.is

pub returns-in-Written : goal.returns-in-Written
returns-in-Written g c =
    rw c.in-Written.is (spends {T = g.row.T.Denot} {U = g.row.U.Denot} _ _ c.args.domain.now
    c.set_value_at-is_there.new.domain _ _ _ (Written c.set_value_at-is_there.result.1) (λ table of at.
    payload_carried {T = g.row.T.Denot} {U = g.row.U.Denot} _ c.args.domain.now c.set_value_at-is_there.new.domain table
    _ of c.in-Written.loan c.set_value_at-is_there.result.1 c.args.at c.args.value c.set_value_at-is_there.result.0
    c.done_if.result at c.set_value_at-is_there.ensures.same c.set_value_at-is_there.ensures.writes c.done_if.ensures
    refl)
    (stays-but-more _ _ _ _ c.set_value_at-is_there.ensures.stays)
    (λ start fresh. rw c.set_value_at-is_there.ensures.same fresh)
    (rw c.set_value_at-is_there.ensures.same
    (c.set_value_at-is_there.ensures.stays.placed_messages c.in-Written.loan.loan.number c.in-Written.loan.loan.book
    c.in-Written.loan.loan.slot (live_written {T = g.row.T.Denot}
    {U = g.row.U.Denot} c.args.domain.now c.args.held c.requires c.in-Written.loan c.in-Written.is).placed)))

pub returns-in_default : goal.returns-in_default
returns-in_default g c =
    looks {T = g.row.T.Denot} {U = g.row.U.Denot} _ _ c.args.domain.now c.args.held _ _ (λ table of at.
    payload_passed {T = g.row.T.Denot} {U = g.row.U.Denot} _ c.args.domain.now c.args.domain.now table table of
    c.args.at c.args.value
    (ap (λ (h : Made). is_written_entry (entry_for h)) at ∙ not_written c.args.held c.in_default.not-Written))
