use Rattle.iox2_domain.proofs.lemmas.samples.BorrowedNumbers.{found-live}
use Rattle.iox2_domain.proofs.state.DomainState.has_sample.Goals as goal

pub returns : goal.returns
returns g c =
    found-live c.args.self.now c.requires c.args.subscriber c.args.number c.find_sample.result c.find_sample.ensures
    c.is_some.result c.is_some.ensures
