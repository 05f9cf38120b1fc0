use Rattle.iox2_domain.proofs.lemmas.fields.OpenPorts.{publisher-live}
use Rattle.iox2_domain.proofs.state.DomainState.has_publisher.Goals as goal

pub returns : goal.returns
returns g c = rw c.is_some.ensures (publisher-live {T = g.row.T.Denot}
    {U = g.row.U.Denot} c.args.self.now c.args.id c.requires c.find_publisher.result c.find_publisher.ensures)
