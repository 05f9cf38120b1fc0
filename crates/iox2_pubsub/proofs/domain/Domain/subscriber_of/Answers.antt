use Rattle.std.proofs.Common.{refl, subst, sym}
use Rattle.iox2_machine.specs.machine.SingleCalls.{HoldsSubscriber}
use Rattle.iox2_domain.specs.Fields.{kept_of}
use Rattle.iox2_domain.specs.Kept.{state_of}
use Rattle.iox2_pubsub.specs.Live.{subscriber_key}
use Rattle.iox2_pubsub.specs.Parts.{subscriber_named}
use Rattle.iox2_pubsub.proofs.HeldKeys.{other-service, same-service}
use Rattle.iox2_pubsub.proofs.PlacedHandles.{subscriber-among, subscriber-found-placed, subscriber-named}
use Rattle.iox2_pubsub.proofs.domain.Domain.subscriber_of.Goals as goal

pub returns-then-parts-config-clause-none : goal.returns-then-parts-config-clause-none
returns-then-parts-config-clause-none g c = λ live. other-service c.config.ensures c.if-parts-config.true
    (subscriber-among {T = g.row.T.Denot} {U = g.row.U.Denot} c.self.inside.state c.self.invariant c.args.self.now
    c.self.view_is (subscriber_named c.args.parts.now) live).1

pub returns-in_default-clause-none : goal.returns-in_default-clause-none
returns-in_default-clause-none g c = λ live.
    let has = subscriber-among {T = g.row.T.Denot} {U = g.row.U.Denot} c.self.inside.state c.self.invariant
    c.args.self.now c.self.view_is (subscriber_named c.args.parts.now) live in
    c.in_default.ensures (subst (HoldsSubscriber (state_of (kept_of c.self.inside.state))) (sym c.new-id.ensures) has.2)

pub returns-clause-live : goal.returns-clause-live
returns-clause-live g c = record {
  there = subscriber-named {T = g.row.T.Denot} {U = g.row.U.Denot} c.self.inside.state c.self.invariant c.args.self.now
      c.self.view_is
      (subscriber_key (record {
        service_id = c.args.parts.now.service_id;
        id = c.new-id.result;
        place = c.in-Some.place;
        buffer_size = c.args.parts.now.buffer_size;
      })) refl (same-service c.config.ensures c.if-parts-config.false) c.in-Some.ensures.0;
  placed = subscriber-found-placed {T = g.row.T.Denot} {U = g.row.U.Denot} c.self.inside.state c.self.invariant
      c.args.self.now c.self.view_is
      (record {
        service_id = c.args.parts.now.service_id;
        id = c.new-id.result;
        place = c.in-Some.place;
        buffer_size = c.args.parts.now.buffer_size;
      }) (c.in-Some.ensures.1, c.in-Some.ensures.2, c.in-Some.ensures.3);
}
