use Rattle.std.proofs.Common.{Option, subst, sym}
use Rattle.iox2_domain.specs.ReceiverSteps.{UpdatesReceiver}
use Rattle.iox2_pubsub.specs.UpdateCalls.{returned_failure, subscriber_stays}
use Rattle.iox2_machine.specs.declared.errors.ConnectionFailure.{ConnectionFailure}
use Rattle.iox2_domain.specs.Boxes.{answers_of}
use Rattle.iox2_pubsub.proofs.KeptAnswers.{subscriber-updated}
use Rattle.iox2_domain.specs.Fields.{keeping}
use Rattle.iox2_pubsub.proofs.PlacedHandles.{subscriber-at-place, subscriber-there}
use Rattle.iox2_pubsub.proofs.CallsStay.{always-shown}
use Rattle.iox2_pubsub.proofs.StaysBut.{same-boxes}
use Rattle.iox2_pubsub.proofs.UpdateShown.{subscriber-update-shows}
use Rattle.iox2_pubsub.proofs.UpdatesLeave.{subscriber-update-left}
use Rattle.iox2_pubsub.proofs.UpToDateShown.{update-updated}
use Rattle.iox2_pubsub.proofs.KeptReceives.{question-waits}
use Rattle.iox2_pubsub.proofs.subscriber.update_connections.SubscriberUpdateConnections.update_connections.Goals as goal

pub invariant_of-domain : goal.invariant_of-domain
invariant_of-domain g c =
    (c.update_subscriber.ensures (subscriber-at-place {T = g.row.T.Denot} {U = g.row.U.Denot} c.domain.inside.state
    c.domain.invariant c.args.domain.now c.domain.view_is c.args.self.now c.requires.live).0
    (subscriber-at-place {T = g.row.T.Denot} {U = g.row.U.Denot} c.domain.inside.state c.domain.invariant
    c.args.domain.now c.domain.view_is c.args.self.now c.requires.live).1).changes.agrees

pub returns-clause-updates : goal.returns-clause-updates
returns-clause-updates g c =
    subscriber-update-shows {T = g.row.T.Denot} {U = g.row.U.Denot} c.args.domain.now c.domain.inside.state
    c.update_subscriber.new.state c.domain.view_is
    (answers_of g.F.BackpressureFn.allows g.G.DegradationFn.allows c.args.domain.now.boxes.subscribers)
    c.args.self.now.place c.args.self.now.id (returned_failure c.outcome_of.result)
    (subscriber-at-place {T = g.row.T.Denot} {U = g.row.U.Denot} c.domain.inside.state c.domain.invariant
    c.args.domain.now c.domain.view_is c.args.self.now c.requires.live)
    (λ y at. subst (λ (failure : Option ConnectionFailure).
    UpdatesReceiver (answers_of g.F.BackpressureFn.allows g.G.DegradationFn.allows c.args.domain.now.boxes.subscribers)
    c.domain.inside.state c.args.self.now.place y c.update_subscriber.new.state failure) (sym c.outcome_of.ensures)
    (subscriber-updated g.F.BackpressureFn.allows g.G.DegradationFn.allows c.domain.inside.state
    c.update_subscriber.new.state c.args.domain.now c.domain.view_is c.args.self.now.place c.update_subscriber.result
    c.update_subscriber.ensures y at))

pub returns-clause-rest : goal.returns-clause-rest
returns-clause-rest g c =
    subscriber-update-left {T = g.row.T.Denot} {U = g.row.U.Denot} c.domain.inside.state c.args.domain.now
    (keeping _ c.update_subscriber.new.state) c.domain.invariant c.domain.view_is
    (same-boxes c.domain.inside.state c.update_subscriber.new.state c.args.domain.now c.domain.view_is
    c.domain.invariant
    (let at = (subscriber-at-place {T = g.row.T.Denot} {U = g.row.U.Denot} c.domain.inside.state c.domain.invariant
    c.args.domain.now c.domain.view_is c.args.self.now c.requires.live) in
    (c.update_subscriber.ensures at.0 at.1).changes.places))
    (answers_of g.F.BackpressureFn.allows g.G.DegradationFn.allows c.args.domain.now.boxes.subscribers) c.args.self.now
    (returned_failure c.outcome_of.result) (returns-clause-updates g c)

pub returns-clause-live : goal.returns-clause-live
returns-clause-live g c =
    subscriber_stays c.args.domain.now _ c.args.self.now (returns-clause-rest g c).stays c.requires.live

pub returns-clause-updated : goal.returns-clause-updated
returns-clause-updated g c =
    let it = always-shown {T = g.row.T.Denot}
    {U = g.row.U.Denot} c.domain.inside.state c.args.domain.now c.domain.invariant c.domain.view_is in
    let step = returns-clause-updates g c it.0 it.1 it.2 in
    update-updated {T = g.row.T.Denot} {U = g.row.U.Denot} c.args.domain.now
    (keeping _ c.update_subscriber.new.state) it.0 it.0 it.1 step.0 it.2 step.1
    (answers_of g.F.BackpressureFn.allows g.G.DegradationFn.allows c.args.domain.now.boxes.subscribers) c.args.self.now
    c.requires.live c.outcome_of.result step.2

pub returns-clause-leaves : goal.returns-clause-leaves
returns-clause-leaves g c = λ keeps.
    let it = always-shown {T = g.row.T.Denot}
    {U = g.row.U.Denot} c.domain.inside.state c.args.domain.now c.domain.invariant c.domain.view_is in
    let step = returns-clause-updates g c it.0 it.1 it.2 in
    question-waits {T = g.row.T.Denot} {U = g.row.U.Denot} c.args.domain.now
    (keeping _ c.update_subscriber.new.state) it.0 it.0 it.1 step.0 it.2 step.1
    (answers_of g.F.BackpressureFn.allows g.G.DegradationFn.allows c.args.domain.now.boxes.subscribers) c.args.self.now
    keeps (λ n entry at. at) (returned_failure c.outcome_of.result) step.2

pub update_subscriber-requires-clause-stands : goal.update_subscriber-requires-clause-stands
update_subscriber-requires-clause-stands g c =
    subscriber-there {T = g.row.T.Denot} {U = g.row.U.Denot} c.domain.inside.state c.domain.invariant c.args.domain.now
    c.domain.view_is c.args.self.now c.requires.live
