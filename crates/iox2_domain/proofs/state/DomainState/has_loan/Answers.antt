use Rattle.iox2_domain.proofs.lemmas.loans.LoansOut.{found-out}
use Rattle.iox2_domain.proofs.state.DomainState.has_loan.Goals as goal

pub returns : goal.returns
returns g c =
    found-out c.args.self.now c.args.publisher c.args.number c.find_loan.result c.find_loan.ensures c.is_some.result
    c.is_some.ensures
