use Rattle.std.proofs.Common.{◌∙◌, ap}
use Rattle.iox2_domain.specs.Fields.{Fields}
use Rattle.iox2_domain.proofs.state.DomainState.refused_connections.Goals as goal

pub returns : goal.returns
returns g c = c.refused_connections.ensures
    ∙ ap (λ (f : Fields g.row.T.Denot g.row.U.Denot). (f.warnings).items.refused_connections) c.self.view_is
