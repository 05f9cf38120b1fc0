use Rattle.iox2_domain.proofs.lemmas.loans.ChangedLoan.{one-cell}
use Rattle.iox2_domain.proofs.lemmas.loans.LoanCalls.{value-allowed, value-shown}
use Rattle.iox2_messages.proofs.loan_calls.loan_value.Goals as goal

pub value-requires : goal.value-requires
value-requires g c =
    value-allowed {T = g.row.T.Denot} {U = g.row.U.Denot} c.args.state.now _ c.state.view_is c.requires.agrees
    c.args.loan.now.publisher c.args.loan.now.number
    c.args.loan.now.book c.args.loan.now.slot c.requires.lies c.index.result.now c.index.ensures c.in-Some.contents
    c.in-Some.is
    (one-cell {T = g.row.T.Denot} {U = g.row.U.Denot} c.args.state.now c.requires.agrees c.args.loan.now.publisher
    c.args.loan.now.number c.args.loan.now.book c.args.loan.now.slot c.requires.lies c.requires.fixed_size
    c.requires.single) c.requires.live

pub returns : goal.returns
returns g c =
    value-shown {T = g.row.T.Denot} {U = g.row.U.Denot} c.args.state.now _ c.state.view_is c.requires.agrees
    c.args.loan.now.publisher c.args.loan.now.number
    c.args.loan.now.book c.args.loan.now.slot c.requires.lies c.index.result.now c.index.ensures c.in-Some.contents
    c.in-Some.is
    (one-cell {T = g.row.T.Denot} {U = g.row.U.Denot} c.args.state.now c.requires.agrees c.args.loan.now.publisher
    c.args.loan.now.number c.args.loan.now.book c.args.loan.now.slot c.requires.lies c.requires.fixed_size
    c.requires.single) c.requires.live c.value.result.now c.value.ensures
