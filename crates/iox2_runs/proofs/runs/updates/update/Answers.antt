use Rattle.iox2_domain.specs.Boxes.{answers_of}
use Rattle.iox2_pubsub.proofs.StaysBut.{nothing-is-new}
use Rattle.iox2_pubsub.specs.Live.{publisher_key}
use Rattle.iox2_pubsub.specs.UpdateCalls.{returned_failure}
use Rattle.iox2_runs.proofs.CarriedUpdates.{update_passed, update_held_up, update_of_publisher, update_of_subscriber}
use Rattle.iox2_runs.proofs.FixedCalls.{publisher_updated, subscriber_updated}
use Rattle.iox2_runs.proofs.LiveEntries.{live_subscriber, unboxed_publisher, unboxed_subscriber, shown_free}
use Rattle.iox2_runs.proofs.TableEntries.{not_subscriber}
use Rattle.iox2_runs.proofs.TableLooks.{is_subscriber_entry}
use Rattle.iox2_runs.proofs.Turned.{makes, unready}
use Rattle.iox2_runs.specs.Carries.{entry_for}
use Rattle.iox2_runs.specs.declared.runs.made.Made.TheVariants.{Nothing}
use Rattle.iox2_runs.specs.declared.runs.made.Made.{Made}
use Rattle.iox2_machine.specs.machine.Environments.{fixed_handlers}
use Rattle.std.proofs.Common.{ap, ◌∙◌}
use Rattle.iox2_runs.proofs.runs.updates.update.Goals as goal

pub update_connections-requires : goal.update_connections-requires
update_connections-requires g c =
    record {
      live = live_subscriber {T = g.row.T.Denot}
          {U = g.row.U.Denot} c.args.domain.now c.args.held c.requires c.in-Subscriber.subscriber c.in-Subscriber.is;
    }

pub returns-in-Subscriber : goal.returns-in-Subscriber
returns-in-Subscriber g c =
    rw c.in-Subscriber.is (makes {T = g.row.T.Denot}
    {U = g.row.U.Denot} _ _ c.args.domain.now c.update_connections.new.domain _ _ _ Nothing (λ table of at.
    update_of_subscriber {T = g.row.T.Denot} {U = g.row.U.Denot} fixed_handlers _ c.args.domain.now
    c.update_connections.new.domain table of c.in-Subscriber.subscriber
    (returned_failure c.update_connections.result) c.update_reply-reply.result at
    (subscriber_updated {T = g.row.T.Denot} {U = g.row.U.Denot}
    (answers_of g.F.BackpressureFn.allows g.G.DegradationFn.allows c.args.domain.now.boxes.subscribers)
    c.args.domain.now c.update_connections.new.domain c.in-Subscriber.subscriber.id
    (unboxed_subscriber {T = g.row.T.Denot} {U = g.row.U.Denot} c.args.domain.now c.args.held c.requires
    c.in-Subscriber.subscriber c.in-Subscriber.is) (returned_failure c.update_connections.result)
    c.update_connections.ensures.updates) c.update_reply-reply.ensures)
    c.update_connections.ensures.rest.stays
    (nothing-is-new {T = g.row.T.Denot} {U = g.row.U.Denot} c.args.domain.now) tt)

pub update_connections-requires-in-Ok : goal.update_connections-requires-in-Ok
update_connections-requires-in-Ok g c = record { live = c.in-Ok.ensures.1 }

pub returns-in-Ok : goal.returns-in-Ok
returns-in-Ok g c =
    rw c.in-Ok.ensures.0 (makes {T = g.row.T.Denot}
    {U = g.row.U.Denot} _ _ c.args.domain.now c.update_connections-in-Ok.new.domain _ _ _ Nothing (λ table of at.
    update_of_publisher {T = g.row.T.Denot} {U = g.row.U.Denot} fixed_handlers _ c.args.domain.now
    c.update_connections-in-Ok.new.domain table of c.in-Ok.publisher
    (returned_failure c.update_connections-in-Ok.result) c.update_reply-reply-in-Ok.result at
    (shown_free {T = g.row.T.Denot} {U = g.row.U.Denot} c.args.domain.now
    (publisher_key c.in-Ok.publisher) c.in-Ok.ensures.1.unblocked)
    (publisher_updated {T = g.row.T.Denot} {U = g.row.U.Denot}
    (answers_of g.F.BackpressureFn.allows g.G.DegradationFn.allows c.args.domain.now.boxes.publishers) c.args.domain.now
    c.update_connections-in-Ok.new.domain c.in-Ok.publisher.id
    (unboxed_publisher {T = g.row.T.Denot}
    {U = g.row.U.Denot} c.args.domain.now c.args.held c.requires c.in-Ok.publisher c.in-Ok.ensures.0)
    (returned_failure c.update_connections-in-Ok.result) c.update_connections-in-Ok.ensures.updates)
    c.update_reply-reply-in-Ok.ensures)
    c.update_connections-in-Ok.ensures.rest.stays
    (nothing-is-new {T = g.row.T.Denot} {U = g.row.U.Denot} c.args.domain.now) tt)

pub returns-in-Err : goal.returns-in-Err
returns-in-Err g c =
    rw c.in-Err.ensures.0
    (unready {T = g.row.T.Denot} {U = g.row.U.Denot} _ _ c.args.domain.now c.args.held _ c.in-Err.ensures.1
    (λ table of other at. update_passed {T = g.row.T.Denot}
    {U = g.row.U.Denot} fixed_handlers _ c.args.domain.now c.args.domain.now table of other
    (ap (λ (h : Made). is_subscriber_entry (entry_for h)) at ∙ not_subscriber c.args.held c.in_default.not-Subscriber))
    (λ table of h at waits. update_held_up {T = g.row.T.Denot}
    {U = g.row.U.Denot} fixed_handlers _ c.args.domain.now c.args.domain.now table of h at waits))
