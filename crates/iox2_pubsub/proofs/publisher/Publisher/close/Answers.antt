use Rattle.std.proofs.Common.{◌≡◌, ℕ, ap, subst, ◌∙◌, None}
use Rattle.iox2_domain.specs.Fields.{keeping}
use Rattle.iox2_pubsub.proofs.PlacedHandles.{publisher-at-place}
use Rattle.iox2_pubsub.proofs.ClosesShown.{publisher-close-shows}
use Rattle.std.specs.Option.{option_and_then}
use Rattle.iox2_domain.specs.Boxes.{box_of, degradation_box_of}
use Rattle.iox2_domain.specs.declared.boxes.PortBoxes.{PortBoxes}
use Rattle.iox2_pubsub.proofs.StaysBut.{box-is, degradation-box-is, other-boxes}
use Rattle.iox2_pubsub.proofs.ReadyPublishers.{ready-free, ready-stands, was-closed}
use Rattle.iox2_pubsub.proofs.publisher.Publisher.close.Goals as goal

pub close_publisher-requires : goal.close_publisher-requires
close_publisher-requires g c =
    record {
      agrees = c.domain.invariant;
      stands = ready-stands {T = g.row.T.Denot}
          {U = g.row.U.Denot} c.domain.inside.state c.domain.invariant c.args.domain.now c.domain.view_is c.args.self
          c.requires.ready;
      unblocked = ready-free {T = g.row.T.Denot} {U = g.row.U.Denot} c.domain.inside.state c.domain.invariant
          c.args.domain.now c.domain.view_is c.args.self c.requires.ready;
    }

pub invariant_of-domain : goal.invariant_of-domain
invariant_of-domain g c = let at = ready-stands {T = g.row.T.Denot} {U = g.row.U.Denot} c.domain.inside.state
    c.domain.invariant c.args.domain.now c.domain.view_is c.args.self c.requires.ready in
    (c.close_publisher.ensures at.0 at.1).agrees

pub returns : goal.returns
returns g c =
    let it = was-closed {T = g.row.T.Denot} {U = g.row.U.Denot} c.domain.inside.state c.domain.invariant
    c.args.domain.now c.domain.view_is c.args.self c.requires.ready
    (keeping (record { publishers = (c.remove.new.self).boxes; subscribers = (c.domain.inside.subscriber_boxes).boxes })
    c.close_publisher.new.state)
    (λ m s x shown at. publisher-close-shows {T = g.row.T.Denot} {U = g.row.U.Denot} c.domain.inside.state
    c.close_publisher.new.state c.domain.invariant c.args.domain.now c.domain.view_is c.args.self.place c.args.self.id m
    s shown (publisher-at-place {T = g.row.T.Denot} {U = g.row.U.Denot} c.domain.inside.state c.domain.invariant
    c.args.domain.now c.domain.view_is c.args.self c.requires.ready) c.close_publisher.ensures x at) in
    record {
      closed = it.closed;
      spent = it.spent;
      unboxed = box-is _ c.close_publisher.new.state c.args.self.id None
          (subst (λ (p : ℕ). box_of p (c.remove.new.self).boxes ≡ None) c.value.ensures
          (ap (option_and_then (λ (b : PortBoxes g.row.F.Denot g.row.G.Denot). b.backpressure)) c.remove.ensures.its));
      undegraded = degradation-box-is _ c.close_publisher.new.state c.args.self.id None
          (subst (λ (p : ℕ). degradation_box_of p (c.remove.new.self).boxes ≡ None) c.value.ensures
          (ap (option_and_then (λ (b : PortBoxes g.row.F.Denot g.row.G.Denot). b.degradation)) c.remove.ensures.its));
      no_fewer = it.no_fewer;
      keeps = it.keeps;
      connections = it.connections;
      room = it.room;
      loans_left = it.loans_left;
      numbers_left = it.numbers_left;
      borrows_left = it.borrows_left;
      stays = it.stays (other-boxes c.domain.inside.state c.close_publisher.new.state c.args.domain.now c.domain.view_is
          c.domain.invariant
          (let at = ready-stands {T = g.row.T.Denot} {U = g.row.U.Denot} c.domain.inside.state c.domain.invariant
          c.args.domain.now c.domain.view_is c.args.self c.requires.ready in
          (c.close_publisher.ensures at.0 at.1).places)
          (λ p other. c.remove.ensures.others p (λ same. other (same ∙ c.value.ensures))));
    }
