use Rattle.std.proofs.Common.{◌∙◌, ap}
use Rattle.iox2_domain.specs.Kept.{Kept}
use Rattle.iox2_pubsub.proofs.domain.Domain.refused_connections.Goals as goal

pub returns : goal.returns
returns g c = c.refused_connections.ensures ∙ ap (λ (k : Kept g.row.T.Denot g.row.U.Denot g.row.F.Denot g.row.G.Denot).
    (k.warnings).refused_connections) c.self.view_is
