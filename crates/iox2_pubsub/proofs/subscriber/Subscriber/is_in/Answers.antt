use Rattle.iox2_pubsub.specs.Live.{subscriber_key}
use Rattle.iox2_pubsub.proofs.HeldKeys.{other-service, place-told, refuted, same-service}
use Rattle.iox2_pubsub.proofs.PlacedHandles.{subscriber-among, subscriber-in}
use Rattle.iox2_pubsub.proofs.subscriber.Subscriber.is_in.Goals as goal

pub returns-then-self-config : goal.returns-then-self-config
returns-then-self-config g c =
    refuted (λ live. other-service c.config.ensures c.if-self-config.true
    (subscriber-among {T = g.row.T.Denot} {U = g.row.U.Denot} c.domain.inside.state c.domain.invariant c.args.domain.now
    c.domain.view_is (subscriber_key c.args.self.now) live.there).1)

pub returns-in-Some : goal.returns-in-Some
returns-in-Some g c =
    let found = c.in-Some.ensures in
    place-told c.in-Some.place c.args.self.now.place
    (subscriber-in {T = g.row.T.Denot} {U = g.row.U.Denot} c.domain.inside.state c.domain.invariant c.args.domain.now
    c.domain.view_is c.args.self.now (same-service c.config.ensures c.if-self-config.false) found.0 c.in-Some.place
    (found.1, found.2, found.3))

pub returns-in-None : goal.returns-in-None
returns-in-None g c =
    refuted (λ live. c.in-None.ensures
    (subscriber-among {T = g.row.T.Denot} {U = g.row.U.Denot} c.domain.inside.state c.domain.invariant c.args.domain.now
    c.domain.view_is (subscriber_key c.args.self.now) live.there).2)
