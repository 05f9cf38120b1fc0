use Rattle.iox2_pubsub.proofs.StaysBut.{nothing-is-new}
use Rattle.iox2_pubsub.specs.Live.{publisher_key}
use Rattle.iox2_runs.proofs.CarriedCloses.{close_passed, close_held_up, publisher_close_carried}
use Rattle.iox2_runs.proofs.CarriedCloses.{subscriber_close_carried}
use Rattle.iox2_runs.proofs.LiveEntries.{live_subscriber, shown_free}
use Rattle.iox2_runs.proofs.TableEntries.{not_subscriber}
use Rattle.iox2_runs.proofs.TableLooks.{is_subscriber_entry}
use Rattle.iox2_runs.proofs.Turned.{spends, unready}
use Rattle.iox2_runs.specs.Carries.{entry_for}
use Rattle.iox2_runs.specs.declared.runs.made.Made.TheVariants.{Nothing}
use Rattle.iox2_runs.specs.declared.runs.made.Made.{Made}
use Rattle.iox2_machine.specs.machine.Environments.{fixed_handlers}
use Rattle.std.proofs.Common.{refl, ap, ◌∙◌}
use Rattle.iox2_runs.proofs.runs.spends.close.Goals as goal

pub close-requires : goal.close-requires
close-requires g c = record {
  live = live_subscriber {T = g.row.T.Denot}
      {U = g.row.U.Denot} c.args.domain.now c.args.held c.requires c.in-Subscriber.subscriber c.in-Subscriber.is;
}

pub returns-in-Subscriber : goal.returns-in-Subscriber
returns-in-Subscriber g c =
    rw c.in-Subscriber.is (spends {T = g.row.T.Denot}
    {U = g.row.U.Denot} _ _ c.args.domain.now c.close.new.domain _ _ _ Nothing (λ table of at.
    subscriber_close_carried {T = g.row.T.Denot} {U = g.row.U.Denot} fixed_handlers _ c.args.domain.now
    c.close.new.domain table _ of c.in-Subscriber.subscriber at c.close.ensures.closed refl)
    c.close.ensures.leaves.stays (λ start new. nothing-is-new start) tt)

pub close-requires-in-Ok : goal.close-requires-in-Ok
close-requires-in-Ok g c = record { ready = c.in-Ok.ensures.1 }

pub returns-in-Ok : goal.returns-in-Ok
returns-in-Ok g c =
    rw c.in-Ok.ensures.0 (spends {T = g.row.T.Denot}
    {U = g.row.U.Denot} _ _ c.args.domain.now c.close-in-Ok.new.domain _ _ _ Nothing (λ table of at.
    publisher_close_carried {T = g.row.T.Denot}
    {U = g.row.U.Denot} fixed_handlers _ c.args.domain.now c.close-in-Ok.new.domain table _ of c.in-Ok.publisher at
    (shown_free {T = g.row.T.Denot} {U = g.row.U.Denot} c.args.domain.now
    (publisher_key c.in-Ok.publisher) c.in-Ok.ensures.1.unblocked) c.close-in-Ok.ensures.closed refl)
    c.close-in-Ok.ensures.stays (λ start new. nothing-is-new start) tt)

pub returns-in-Err : goal.returns-in-Err
returns-in-Err g c =
    rw c.in-Err.ensures.0
    (unready {T = g.row.T.Denot} {U = g.row.U.Denot} _ _ c.args.domain.now c.args.held _ c.in-Err.ensures.1
    (λ table of other at. close_passed {T = g.row.T.Denot}
    {U = g.row.U.Denot} fixed_handlers _ c.args.domain.now c.args.domain.now table table of other
    (ap (λ (h : Made). is_subscriber_entry (entry_for h)) at ∙ not_subscriber c.args.held c.in_default.not-Subscriber))
    (λ table of h at waits. close_held_up {T = g.row.T.Denot}
    {U = g.row.U.Denot} fixed_handlers _ c.args.domain.now c.args.domain.now table table of h at waits))
