use Rattle.std.proofs.Common.{refl, subst, sym}
use Rattle.iox2_machine.specs.machine.SingleCalls.{HoldsPublisher}
use Rattle.iox2_domain.specs.Fields.{kept_of}
use Rattle.iox2_domain.specs.Kept.{state_of}
use Rattle.iox2_domain.proofs.lemmas.fields.OpenPorts.{absent-publisher, present-publisher}
use Rattle.iox2_pubsub.specs.Live.{publisher_key}
use Rattle.iox2_pubsub.specs.Parts.{publisher_named}
use Rattle.iox2_pubsub.proofs.HeldKeys.{other-service, same-service}
use Rattle.iox2_pubsub.proofs.PlacedHandles.{publisher-among, publisher-found-placed, publisher-named}
use Rattle.iox2_pubsub.proofs.domain.Domain.publisher_of.Goals as goal

pub returns-then-parts-config-clause-none : goal.returns-then-parts-config-clause-none
returns-then-parts-config-clause-none g c = λ live. other-service c.config.ensures c.if-parts-config.true
    (publisher-among {T = g.row.T.Denot} {U = g.row.U.Denot} c.self.inside.state c.self.invariant c.args.self.now
    c.self.view_is (publisher_named c.args.parts.now) live).1

pub returns-in_default-clause-none : goal.returns-in_default-clause-none
returns-in_default-clause-none g c = λ live.
    let has = publisher-among {T = g.row.T.Denot} {U = g.row.U.Denot} c.self.inside.state c.self.invariant
    c.args.self.now c.self.view_is (publisher_named c.args.parts.now) live in
    absent-publisher {T = g.row.T.Denot} {U = g.row.U.Denot} c.self.inside.state c.new-id.result c.in_default.ensures
    (subst (HoldsPublisher (state_of (kept_of c.self.inside.state))) (sym c.new-id.ensures) has.2)

pub returns-clause-live : goal.returns-clause-live
returns-clause-live g c =
    publisher-named {T = g.row.T.Denot} {U = g.row.U.Denot} c.self.inside.state c.self.invariant c.args.self.now
    c.self.view_is
    (publisher_key (record {
      service_id = c.args.parts.now.service_id;
      id = c.new-id.result;
      place = c.in-Some.place;
      strategy = c.args.parts.now.strategy;
      initial_max_slice_len = c.args.parts.now.initial_max_slice_len;
    })) refl (same-service c.config.ensures c.if-parts-config.false) (present-publisher {T = g.row.T.Denot}
    {U = g.row.U.Denot} c.self.inside.state c.new-id.result c.self.invariant c.in-Some.place c.in-Some.ensures.0
    c.in-Some.ensures.1 c.in-Some.ensures.2)

pub returns-clause-placed : goal.returns-clause-placed
returns-clause-placed g c =
    publisher-found-placed {T = g.row.T.Denot} {U = g.row.U.Denot} c.self.inside.state c.self.invariant c.args.self.now
    c.self.view_is (record {
      service_id = c.args.parts.now.service_id;
      id = c.new-id.result;
      place = c.in-Some.place;
      strategy = c.args.parts.now.strategy;
      initial_max_slice_len = c.args.parts.now.initial_max_slice_len;
    }) c.in-Some.ensures
