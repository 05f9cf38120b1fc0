use Rattle.iox2_pubsub.specs.Parts.{subscriber_with}
use Rattle.iox2_pubsub.proofs.AtOnce.{updated-there}
use Rattle.iox2_pubsub.proofs.domain.Domain.receives_at_once.Goals as goal

pub returns-then-is_subscriber_at_hint-clause-up_to_date : goal.returns-then-is_subscriber_at_hint-clause-up_to_date
returns-then-is_subscriber_at_hint-clause-up_to_date g c = λ yes.
    updated-there {T = g.row.T.Denot} {U = g.row.U.Denot} c.self.inside.state c.self.invariant c.args.self.now
    c.self.view_is (subscriber_with c.args.parts.now)
    (c.is_subscriber_at_hint.ensures.0 c.if-is_subscriber_at_hint.true)
    (λ y at. (c.receives_at_once.ensures yes y at).0)
