use Rattle.iox2_domain.proofs.lemmas.loans.LoanCalls.{here, slot-within, user_header-read}
use Rattle.iox2_messages.proofs.loan_calls.loan_user_header.Goals as goal

pub user_header-requires : goal.user_header-requires
user_header-requires g c =
    slot-within {T = g.row.T.Denot} {U = g.row.U.Denot} c.args.state.now c.requires.agrees c.args.loan.now.publisher
    c.args.loan.now.number c.find_live_loan-at.result.book c.find_live_loan-at.result.slot c.find_live_loan-at.ensures
    c.in-Some.contents
    (here {T = g.row.T.Denot} {U = g.row.U.Denot} c.args.state.now _ c.state.view_is c.requires.agrees
    c.args.loan.now.publisher c.args.loan.now.number c.find_live_loan-at.result.book c.find_live_loan-at.result.slot
    c.find_live_loan-at.ensures c.index.result.now c.index.ensures c.in-Some.contents c.in-Some.is)

pub returns : goal.returns
returns g c =
    user_header-read {T = g.row.T.Denot} {U = g.row.U.Denot} c.args.state.now c.requires.agrees
    c.args.loan.now.publisher c.args.loan.now.number c.find_live_loan-at.result.book c.find_live_loan-at.result.slot
    c.find_live_loan-at.ensures c.in-Some.contents
    (here {T = g.row.T.Denot} {U = g.row.U.Denot} c.args.state.now _ c.state.view_is c.requires.agrees
    c.args.loan.now.publisher c.args.loan.now.number c.find_live_loan-at.result.book c.find_live_loan-at.result.slot
    c.find_live_loan-at.ensures c.index.result.now c.index.ensures c.in-Some.contents c.in-Some.is)
    c.user_header.result.now c.user_header.ensures
