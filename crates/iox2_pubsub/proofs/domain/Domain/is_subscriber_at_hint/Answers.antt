use Rattle.iox2_pubsub.specs.Parts.{subscriber_named, subscriber_with}
use Rattle.iox2_pubsub.proofs.HeldKeys.{other-service, refuted, same-service, told-through}
use Rattle.iox2_pubsub.proofs.PlacedHandles.{subscriber-among, subscriber-hinted}
use Rattle.iox2_pubsub.proofs.domain.Domain.is_subscriber_at_hint.Goals as goal

pub returns-then-parts-config : goal.returns-then-parts-config
returns-then-parts-config g c =
    refuted (λ live. other-service c.config.ensures c.if-parts-config.true
    (subscriber-among {T = g.row.T.Denot} {U = g.row.U.Denot} c.self.inside.state c.self.invariant c.args.self.now
    c.self.view_is (subscriber_named c.args.parts.now) live.there).1)

pub returns : goal.returns
returns g c =
    let has = rw c.new.ensures at c.has_subscriber_at_hint.ensures in
    told-through has (subscriber-hinted {T = g.row.T.Denot} {U = g.row.U.Denot} c.self.inside.state c.self.invariant
    c.args.self.now c.self.view_is (subscriber_with c.args.parts.now)
    (same-service c.config.ensures c.if-parts-config.false))
