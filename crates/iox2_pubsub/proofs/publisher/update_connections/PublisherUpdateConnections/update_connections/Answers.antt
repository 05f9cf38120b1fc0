use Rattle.std.proofs.Common.{◌≡◌, ap, sym, subst, ◌∙◌, false, Option, Some}
use Rattle.iox2_machine.specs.machine.State.{is_blocked}
use Rattle.iox2_domain.specs.Kept.{Kept, state_of}
use Rattle.iox2_domain.specs.Ports.{PublisherFields}
use Rattle.iox2_domain.proofs.lemmas.fields.ConnectionEnds.{free-of}
use Rattle.iox2_pubsub.proofs.LiveParts.{unblocked-test}
use Rattle.iox2_pubsub.proofs.StaysBut.{same-boxes}
use Rattle.iox2_machine.specs.declared.errors.ConnectionFailure.{ConnectionFailure}
use Rattle.iox2_domain.specs.Boxes.{answers_of}
use Rattle.iox2_pubsub.proofs.KeptAnswers.{publisher-caught-up}
use Rattle.iox2_messages.specs.CatchingUp.{CatchesUp}
use Rattle.iox2_domain.specs.Fields.{keeping}
use Rattle.iox2_pubsub.specs.UpdateCalls.{ready_stays, returned_failure}
use Rattle.iox2_pubsub.specs.Live.{publisher_key}
use Rattle.iox2_pubsub.proofs.PlacedHandles.{publisher-at-place}
use Rattle.iox2_pubsub.proofs.CallsStay.{always-shown}
use Rattle.iox2_pubsub.proofs.UpdateShown.{caught-up-reaches, publisher-update-shows}
use Rattle.iox2_pubsub.proofs.UpdatesLeave.{publisher-update-left}
use Rattle.iox2_pubsub.proofs.AwaitedShown.{update-connected}
use Rattle.iox2_pubsub.proofs.publisher.update_connections.PublisherUpdateConnections.update_connections.Goals as goal

pub invariant_of-domain : goal.invariant_of-domain
invariant_of-domain g c =
    (c.catch_up.ensures (publisher-at-place {T = g.row.T.Denot} {U = g.row.U.Denot} c.domain.inside.state
    c.domain.invariant c.args.domain.now c.domain.view_is c.args.self.now c.requires.live).0
    (publisher-at-place {T = g.row.T.Denot} {U = g.row.U.Denot} c.domain.inside.state c.domain.invariant
    c.args.domain.now c.domain.view_is c.args.self.now c.requires.live).1).updates.reaches.agrees

pub returns-clause-updates : goal.returns-clause-updates
returns-clause-updates g c =
    publisher-update-shows {T = g.row.T.Denot} {U = g.row.U.Denot} c.args.domain.now c.domain.inside.state
    c.catch_up.new.state c.domain.view_is
    (answers_of g.F.BackpressureFn.allows g.G.DegradationFn.allows c.args.domain.now.boxes.publishers)
    c.args.self.now.place c.args.self.now.id (returned_failure c.outcome_of.result)
    (publisher-at-place {T = g.row.T.Denot} {U = g.row.U.Denot} c.domain.inside.state c.domain.invariant
    c.args.domain.now c.domain.view_is c.args.self.now c.requires.live)
    (λ x at. subst (λ (failure : Option ConnectionFailure).
    CatchesUp (answers_of g.F.BackpressureFn.allows g.G.DegradationFn.allows c.args.domain.now.boxes.publishers)
    c.domain.inside.state c.args.self.now.place x c.catch_up.new.state failure) (sym c.outcome_of.ensures)
    (publisher-caught-up g.F.BackpressureFn.allows g.G.DegradationFn.allows c.domain.inside.state c.catch_up.new.state
    c.args.domain.now c.domain.view_is c.args.self.now.place c.catch_up.result c.catch_up.ensures x at))

pub returns-clause-rest : goal.returns-clause-rest
returns-clause-rest g c =
    publisher-update-left {T = g.row.T.Denot} {U = g.row.U.Denot} c.domain.inside.state c.args.domain.now
    (keeping _ c.catch_up.new.state) c.domain.invariant c.domain.view_is
    (same-boxes c.domain.inside.state c.catch_up.new.state c.args.domain.now c.domain.view_is c.domain.invariant
    (caught-up-reaches _ c.domain.inside.state c.catch_up.new.state c.args.self.now.place _ c.catch_up.result
    (c.catch_up.ensures (publisher-at-place {T = g.row.T.Denot} {U = g.row.U.Denot} c.domain.inside.state
    c.domain.invariant c.args.domain.now c.domain.view_is c.args.self.now c.requires.live).0
    (publisher-at-place {T = g.row.T.Denot} {U = g.row.U.Denot} c.domain.inside.state c.domain.invariant
    c.args.domain.now c.domain.view_is c.args.self.now c.requires.live).1)).places)
    (answers_of g.F.BackpressureFn.allows g.G.DegradationFn.allows c.args.domain.now.boxes.publishers)
    c.args.self.now.id (returned_failure c.outcome_of.result) (returns-clause-updates g c)

pub catch_up-requires-clause-stands : goal.catch_up-requires-clause-stands
catch_up-requires-clause-stands g c = (
  (publisher-at-place {T = g.row.T.Denot} {U = g.row.U.Denot} c.domain.inside.state c.domain.invariant
      c.args.domain.now c.domain.view_is c.args.self.now c.requires.live).0,
  (publisher-at-place {T = g.row.T.Denot} {U = g.row.U.Denot} c.domain.inside.state c.domain.invariant c.args.domain.now
      c.domain.view_is c.args.self.now c.requires.live).1,
)

pub returns-clause-live : goal.returns-clause-live
returns-clause-live g c =
    ready_stays c.args.domain.now _ c.args.self.now (returns-clause-rest g c).stays c.requires.live

pub catch_up-requires-clause-unblocked : goal.catch_up-requires-clause-unblocked
catch_up-requires-clause-unblocked g c = λ z at_z.
    let found =
    (publisher-at-place {T = g.row.T.Denot} {U = g.row.U.Denot} c.domain.inside.state c.domain.invariant
    c.args.domain.now c.domain.view_is c.args.self.now c.requires.live) in
    let both : Some z ≡ Some found.0 = sym at_z ∙ found.1 in
    let is : z ≡ found.0 = cc in
    ap (λ (w : PublisherFields). w.blocked) is
    ∙ free-of c.domain.inside.state c.domain.invariant.parts c.args.self.now.id c.args.self.now.place found.0 found.1
    found.2
    (subst (λ (k : Kept g.row.T.Denot g.row.U.Denot g.row.F.Denot g.row.G.Denot).
    is_blocked (state_of k) c.args.self.now.id ≡ false) (sym c.domain.view_is)
    (unblocked-test c.args.domain.now (publisher_key c.args.self.now) c.requires.live.unblocked))

pub returns-clause-leaves : goal.returns-clause-leaves
returns-clause-leaves g c =
    let it = always-shown {T = g.row.T.Denot}
    {U = g.row.U.Denot} c.domain.inside.state c.args.domain.now c.domain.invariant c.domain.view_is in
    let step = returns-clause-updates g c it.0 it.1 it.2 in
    update-connected {T = g.row.T.Denot} {U = g.row.U.Denot} c.args.domain.now
    (keeping _ c.catch_up.new.state) it.0 it.0 it.1 step.0 it.2 step.1
    (answers_of g.F.BackpressureFn.allows g.G.DegradationFn.allows c.args.domain.now.boxes.publishers)
    c.args.self.now.id (returned_failure c.outcome_of.result) step.2
