use Rattle.iox2_pubsub.proofs.NeverWaiting.{never-waits-here}
use Rattle.iox2_pubsub.proofs.PlacedHandles.{publisher-there}
use Rattle.iox2_pubsub.proofs.publisher.Publisher.never_waits.Goals as goal

pub never_waits_at-requires : goal.never_waits_at-requires
never_waits_at-requires g c =
    let at = publisher-there {T = g.row.T.Denot} {U = g.row.U.Denot} c.domain.inside.state c.domain.invariant
    c.args.domain.now c.domain.view_is c.args.self.now c.requires.there c.requires.placed in
    (at.0, at.1)

pub returns : goal.returns
returns g c =
    let at = publisher-there {T = g.row.T.Denot} {U = g.row.U.Denot} c.domain.inside.state c.domain.invariant
    c.args.domain.now c.domain.view_is c.args.self.now c.requires.there c.requires.placed in
    never-waits-here {T = g.row.T.Denot} {U = g.row.U.Denot} c.domain.inside.state c.domain.invariant c.args.domain.now
    c.domain.view_is c.args.self.now c.never_waits_at.result at (c.never_waits_at.ensures at.0 at.1)
