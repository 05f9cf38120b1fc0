use Rattle.std.proofs.Common.{refl}
use Rattle.iox2_pubsub.specs.Parts.{publisher_named, publisher_of_parts}
use Rattle.iox2_pubsub.proofs.AtOnce.{number-there, static-there, unblocked-there}
use Rattle.iox2_pubsub.proofs.PlacedHandles.{publisher-there}
use Rattle.iox2_pubsub.proofs.domain.Domain.lends_at_once.Goals as goal

pub returns-then-is_publisher_at_hint-clause-ready : goal.returns-then-is_publisher_at_hint-clause-ready
returns-then-is_publisher_at_hint-clause-ready g c = λ yes.
    let live = c.is_publisher_at_hint.ensures.0 c.if-is_publisher_at_hint.true in
    let found = publisher-there {T = g.row.T.Denot} {U = g.row.U.Denot} c.self.inside.state c.self.invariant
    c.args.self.now c.self.view_is (publisher_of_parts c.args.parts.now) live.0 live.1 in record {
      there = live.0;
      placed = live.1;
      unblocked = unblocked-there {T = g.row.T.Denot} {U = g.row.U.Denot} c.self.inside.state c.self.invariant
          c.args.self.now c.self.view_is c.args.parts.now.id c.args.parts.now.place found.0 found.1 found.2
          (c.lends_at_once.ensures.publisher yes found.0 found.1).0 (publisher_named c.args.parts.now) refl;
    }

pub returns-then-is_publisher_at_hint-clause-fixed : goal.returns-then-is_publisher_at_hint-clause-fixed
returns-then-is_publisher_at_hint-clause-fixed g c = λ yes.
    let live = c.is_publisher_at_hint.ensures.0 c.if-is_publisher_at_hint.true in
    let found = publisher-there {T = g.row.T.Denot} {U = g.row.U.Denot} c.self.inside.state c.self.invariant
    c.args.self.now c.self.view_is (publisher_of_parts c.args.parts.now) live.0 live.1 in
    static-there {T = g.row.T.Denot} {U = g.row.U.Denot} c.self.inside.state c.self.invariant c.args.self.now
    c.self.view_is c.args.parts.now.id c.args.parts.now.place found.0 found.1 found.2
    (c.lends_at_once.ensures.publisher yes found.0 found.1).1 (publisher_of_parts c.args.parts.now) refl

pub returns-then-is_publisher_at_hint-clause-numbers : goal.returns-then-is_publisher_at_hint-clause-numbers
returns-then-is_publisher_at_hint-clause-numbers g c = λ yes.
    number-there {T = g.row.T.Denot} {U = g.row.U.Denot} c.self.inside.state c.self.invariant c.args.self.now
    c.self.view_is (c.lends_at_once.ensures.numbers yes)
