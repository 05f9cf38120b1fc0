use Rattle.iox2_messages.proofs.StandingPlaces.{not-none, publisher-within}
use Rattle.iox2_messages.proofs.deliveries.handler_at.Goals as goal

pub index-requires : goal.index-requires
index-requires g c = rw c.state.inside.publishers.ok.0
    (publisher-within {T = g.row.T.Denot} {U = g.row.U.Denot} _ _ c.state.view_is c.args.place _ c.requires.1)

pub unreachable-requires : goal.unreachable-requires
unreachable-requires g c = not-none {T = g.row.T.Denot}
    {U = g.row.U.Denot} _ _ c.state.view_is c.args.place _ c.requires.1 _ c.index.ensures c.in_default.is
