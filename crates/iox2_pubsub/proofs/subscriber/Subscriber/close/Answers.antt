use Rattle.std.proofs.Common.{◌≡◌, ℕ, None, ap, refl, subst, sym, ◌∙◌}
use Rattle.std.specs.Prelude.{IsSome}
use Rattle.std.specs.Option.{option_and_then}
use Rattle.iox2_domain.specs.Boxes.{degradation_box_of}
use Rattle.iox2_domain.specs.declared.boxes.PortBoxes.{PortBoxes}
use Rattle.iox2_domain.specs.Fields.{keeping}
use Rattle.iox2_pubsub.specs.Live.{subscriber_key}
use Rattle.iox2_pubsub.proofs.PlacedHandles.{subscriber-at-place}
use Rattle.iox2_pubsub.proofs.CallsStay.{subscriber-shown}
use Rattle.iox2_pubsub.proofs.ClosesShown.{subscriber-close-shows, subscriber-close-spends}
use Rattle.iox2_pubsub.proofs.ClosesLeave.{subscriber-close-left}
use Rattle.iox2_pubsub.proofs.StaysBut.{other-subscriber-boxes, subscriber-box-is}
use Rattle.iox2_pubsub.proofs.subscriber.Subscriber.close.Goals as goal

pub close_subscriber-requires-clause-stands : goal.close_subscriber-requires-clause-stands
close_subscriber-requires-clause-stands g c =
    subst IsSome
    (sym (subscriber-at-place {T = g.row.T.Denot} {U = g.row.U.Denot} c.domain.inside.state c.domain.invariant
    c.args.domain.now c.domain.view_is c.args.self c.requires.live).1) refl

pub invariant_of-domain : goal.invariant_of-domain
invariant_of-domain g c =
    (c.close_subscriber.ensures (subscriber-at-place {T = g.row.T.Denot} {U = g.row.U.Denot} c.domain.inside.state
    c.domain.invariant c.args.domain.now c.domain.view_is c.args.self c.requires.live).0
    (subscriber-at-place {T = g.row.T.Denot} {U = g.row.U.Denot} c.domain.inside.state c.domain.invariant
    c.args.domain.now c.domain.view_is c.args.self c.requires.live).1).agrees

pub returns-clause-closed : goal.returns-clause-closed
returns-clause-closed g c = λ m s x shown at.
    subscriber-close-shows {T = g.row.T.Denot} {U = g.row.U.Denot} c.domain.inside.state c.close_subscriber.new.state
    c.domain.invariant c.args.domain.now c.domain.view_is
    c.args.self.place c.args.self.id m s shown
    (subscriber-at-place {T = g.row.T.Denot} {U = g.row.U.Denot} c.domain.inside.state c.domain.invariant
    c.args.domain.now c.domain.view_is c.args.self c.requires.live) c.close_subscriber.ensures x at

pub returns-clause-spent : goal.returns-clause-spent
returns-clause-spent g c =
    let it = subscriber-shown {T = g.row.T.Denot} {U = g.row.U.Denot} c.domain.inside.state c.args.domain.now
    c.domain.invariant c.domain.view_is _ c.requires.live.there in
    subscriber-close-spends {T = g.row.T.Denot} {U = g.row.U.Denot} c.args.domain.now
    (keeping _ c.close_subscriber.new.state) it.0 it.1 it.2 c.args.self.id (it.3).0
    (returns-clause-closed g c it.0 it.1 (it.3).0 it.2 (it.3).1) (subscriber_key c.args.self) refl

pub returns-clause-leaves : goal.returns-clause-leaves
returns-clause-leaves g c =
    subscriber-close-left {T = g.row.T.Denot} {U = g.row.U.Denot} c.domain.inside.state c.args.domain.now
    (keeping _ c.close_subscriber.new.state) c.domain.invariant c.domain.view_is c.args.self c.requires.live.there
    (returns-clause-closed g c)
    (other-subscriber-boxes c.domain.inside.state c.close_subscriber.new.state c.args.domain.now c.domain.view_is
    c.domain.invariant
    (let at = subscriber-at-place {T = g.row.T.Denot} {U = g.row.U.Denot} c.domain.inside.state c.domain.invariant
    c.args.domain.now c.domain.view_is c.args.self c.requires.live in (c.close_subscriber.ensures at.0 at.1).places)
    (λ q other. c.remove.ensures.others q (λ same. other (same ∙ c.value.ensures))))

pub returns-clause-unboxed : goal.returns-clause-unboxed
returns-clause-unboxed g c = subscriber-box-is _ c.close_subscriber.new.state c.args.self.id None
    (subst (λ (q : ℕ). degradation_box_of q (c.remove.new.self).boxes ≡ None) c.value.ensures
    (ap (option_and_then (λ (b : PortBoxes g.row.F.Denot g.row.G.Denot). b.degradation)) c.remove.ensures.its))
