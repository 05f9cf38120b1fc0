use Rattle.std.proofs.Common.{ap, ◌∙◌}
use Rattle.iox2_machine.specs.declared.service_config.ServiceConfig.{ServiceConfig}
use Rattle.iox2_domain.specs.Kept.{Kept}
use Rattle.iox2_pubsub.proofs.domain.Domain.variant.Goals as goal

pub returns : goal.returns
returns g c =
    ap (λ (config : ServiceConfig). config.variant)
    (c.config.ensures
    ∙ ap (λ (k : Kept g.row.T.Denot g.row.U.Denot g.row.F.Denot g.row.G.Denot). k.config) c.self.view_is)
