use Rattle.iox2_pubsub.specs.Parts.{publisher_named, publisher_of_parts}
use Rattle.iox2_pubsub.proofs.HeldKeys.{other-service, refuted, same-service, told-through}
use Rattle.iox2_pubsub.proofs.PlacedHandles.{publisher-among, publisher-hinted}
use Rattle.iox2_pubsub.proofs.domain.Domain.is_publisher_at_hint.Goals as goal

pub returns-then-parts-config : goal.returns-then-parts-config
returns-then-parts-config g c =
    refuted (λ live. other-service c.config.ensures c.if-parts-config.true
    (publisher-among {T = g.row.T.Denot} {U = g.row.U.Denot} c.self.inside.state c.self.invariant c.args.self.now
    c.self.view_is (publisher_named c.args.parts.now) live.0).1)

pub returns : goal.returns
returns g c =
    let has = rw c.new.ensures at c.has_publisher_at_hint.ensures in
    told-through has (publisher-hinted {T = g.row.T.Denot} {U = g.row.U.Denot} c.self.inside.state c.self.invariant
    c.args.self.now c.self.view_is (publisher_of_parts c.args.parts.now)
    (same-service c.config.ensures c.if-parts-config.false))
