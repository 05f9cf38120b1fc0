use Rattle.iox2_pubsub.proofs.StaysBut.{nothing-is-new}
use Rattle.iox2_runs.proofs.CarriedSamples.{release_passed, release_carried}
use Rattle.iox2_runs.proofs.LiveEntries.{live_sample, borrowed_there}
use Rattle.iox2_runs.proofs.TableEntries.{not_sample}
use Rattle.iox2_runs.proofs.TableLooks.{is_sample_entry}
use Rattle.iox2_runs.proofs.Turned.{looks, spends}
use Rattle.iox2_runs.specs.Carries.{entry_for}
use Rattle.iox2_runs.specs.declared.runs.made.Made.TheVariants.{Nothing}
use Rattle.iox2_runs.specs.declared.runs.made.Made.{Made}
use Rattle.iox2_machine.specs.machine.Environments.{fixed_handlers}
use Rattle.std.proofs.Common.{refl, ap, ◌∙◌}
use Rattle.iox2_runs.proofs.runs.spends.release.Goals as goal

pub release-requires : goal.release-requires
release-requires g c = record {
  live = live_sample {T = g.row.T.Denot}
      {U = g.row.U.Denot} c.args.domain.now c.args.held c.requires c.in-Sample.sample c.in-Sample.is;
}

pub returns-in-Sample : goal.returns-in-Sample
returns-in-Sample g c =
    rw c.in-Sample.is (spends {T = g.row.T.Denot}
    {U = g.row.U.Denot} _ _ c.args.domain.now c.release.new.domain _ _ _ Nothing (λ table of at.
    release_carried {T = g.row.T.Denot}
    {U = g.row.U.Denot} fixed_handlers _ c.args.domain.now c.release.new.domain table _ of c.in-Sample.sample at
    (borrowed_there {T = g.row.T.Denot} {U = g.row.U.Denot} c.args.domain.now c.args.held c.requires c.in-Sample.sample
    c.in-Sample.is) c.release.ensures.released refl)
    c.release.ensures.leaves.stays (λ start new. nothing-is-new start) tt)

pub returns-in_default : goal.returns-in_default
returns-in_default g c =
    looks {T = g.row.T.Denot} {U = g.row.U.Denot} _ _ c.args.domain.now c.args.held _ _ (λ table of at.
    release_passed {T = g.row.T.Denot} {U = g.row.U.Denot} fixed_handlers _ c.args.domain.now c.args.domain.now table
    table of (ap (λ (h : Made). is_sample_entry (entry_for h)) at ∙ not_sample c.args.held c.in_default.not-Sample))
