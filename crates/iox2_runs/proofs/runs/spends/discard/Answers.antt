use Rattle.iox2_pubsub.proofs.StaysBut.{nothing-is-new}
use Rattle.iox2_pubsub.proofs.StaysOn.{stays-but-more}
use Rattle.iox2_runs.proofs.CarriedDiscards.{discard_passed, discard_unwritten, discard_written}
use Rattle.iox2_runs.proofs.LiveEntries.{live_unwritten, live_written}
use Rattle.iox2_runs.proofs.TableEntries.{not_loan}
use Rattle.iox2_runs.proofs.TableLooks.{is_loan_entry}
use Rattle.iox2_runs.proofs.Turned.{looks, spends}
use Rattle.iox2_runs.specs.Carries.{entry_for}
use Rattle.iox2_runs.specs.declared.runs.made.Made.TheVariants.{Nothing}
use Rattle.iox2_runs.specs.declared.runs.made.Made.{Made}
use Rattle.iox2_machine.specs.machine.Environments.{fixed_handlers}
use Rattle.std.proofs.Common.{refl, ap, ◌∙◌}
use Rattle.iox2_runs.proofs.runs.spends.discard.Goals as goal

pub discard-requires : goal.discard-requires
discard-requires g c =
    record {
      live = (live_unwritten {T = g.row.T.Denot}
          {U = g.row.U.Denot} c.args.domain.now c.args.held c.requires c.in-Unwritten.loan c.in-Unwritten.is).live;
    }

pub returns-in-Unwritten : goal.returns-in-Unwritten
returns-in-Unwritten g c =
    rw c.in-Unwritten.is (spends {T = g.row.T.Denot}
    {U = g.row.U.Denot} _ _ c.args.domain.now c.discard.new.domain _ _ _ Nothing (λ table of at.
    discard_unwritten {T = g.row.T.Denot} {U = g.row.U.Denot} fixed_handlers _ c.args.domain.now c.discard.new.domain
    table _ of c.in-Unwritten.loan at c.discard.ensures.discarded refl)
    (stays-but-more _ _ _ _ c.discard.ensures.leaves.stays) (λ start new. nothing-is-new start) tt)

pub discard-requires-in-Written : goal.discard-requires-in-Written
discard-requires-in-Written g c =
    record {
      live = (live_written {T = g.row.T.Denot}
          {U = g.row.U.Denot} c.args.domain.now c.args.held c.requires c.in-Written.loan c.in-Written.is).live;
    }

pub returns-in-Written : goal.returns-in-Written
returns-in-Written g c =
    rw c.in-Written.is (spends {T = g.row.T.Denot}
    {U = g.row.U.Denot} _ _ c.args.domain.now c.discard-in-Written.new.domain _ _ _ Nothing (λ table of at.
    discard_written {T = g.row.T.Denot} {U = g.row.U.Denot} fixed_handlers _ c.args.domain.now
    c.discard-in-Written.new.domain table _ of c.in-Written.loan at c.discard-in-Written.ensures.discarded refl)
    (stays-but-more _ _ _ _ c.discard-in-Written.ensures.leaves.stays) (λ start new. nothing-is-new start) tt)

pub returns-in_default : goal.returns-in_default
returns-in_default g c =
    looks {T = g.row.T.Denot} {U = g.row.U.Denot} _ _ c.args.domain.now c.args.held _ _ (λ table of at.
    discard_passed {T = g.row.T.Denot} {U = g.row.U.Denot} fixed_handlers _ c.args.domain.now c.args.domain.now table
    table of (ap (λ (h : Made). is_loan_entry (entry_for h)) at
    ∙ not_loan c.args.held c.in_default.not-Unwritten c.in_default.not-Written))
