use Rattle.iox2_domain.proofs.lemmas.fields.OpenPorts.{absent-publisher, present-publisher}
use Rattle.iox2_pubsub.specs.Live.{publisher_key}
use Rattle.iox2_pubsub.proofs.HeldKeys.{other-service, place-told, refuted, same-service}
use Rattle.iox2_pubsub.proofs.PlacedHandles.{publisher-among, publisher-in}
use Rattle.iox2_pubsub.proofs.publisher.Publisher.is_in.Goals as goal

pub returns-then-self-config : goal.returns-then-self-config
returns-then-self-config g c =
    refuted (λ live. other-service c.config.ensures c.if-self-config.true
    (publisher-among {T = g.row.T.Denot} {U = g.row.U.Denot} c.domain.inside.state c.domain.invariant c.args.domain.now
    c.domain.view_is (publisher_key c.args.self.now) live.0).1)

pub returns-in-Some : goal.returns-in-Some
returns-in-Some g c =
    let found = c.in-Some.ensures in
    place-told c.in-Some.place c.args.self.now.place
    (publisher-in {T = g.row.T.Denot} {U = g.row.U.Denot} c.domain.inside.state c.domain.invariant c.args.domain.now
    c.domain.view_is c.args.self.now (same-service c.config.ensures c.if-self-config.false)
    (present-publisher {T = g.row.T.Denot} {U = g.row.U.Denot} c.domain.inside.state c.args.self.now.id
    c.domain.invariant c.in-Some.place found.0 found.1 found.2) c.in-Some.place found)

pub returns-in-None : goal.returns-in-None
returns-in-None g c =
    refuted (λ live. absent-publisher {T = g.row.T.Denot} {U = g.row.U.Denot} c.domain.inside.state c.args.self.now.id
    c.in-None.ensures (publisher-among {T = g.row.T.Denot} {U = g.row.U.Denot} c.domain.inside.state c.domain.invariant
    c.args.domain.now c.domain.view_is (publisher_key c.args.self.now) live.0).2)
