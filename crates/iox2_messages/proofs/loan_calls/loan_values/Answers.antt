use Rattle.std.proofs.Common.{◌≡◌, false}
use Rattle.iox2_domain.proofs.lemmas.loans.LoanCalls.{here, some-at, in-lists, values-read, is-written}
use Rattle.iox2_messages.proofs.loan_calls.loan_values.Goals as goal

pub values-requires : goal.values-requires
values-requires g c =
    some-at {T = g.row.T.Denot} {U = g.row.U.Denot} c.args.state.now c.requires.agrees c.args.loan.now.publisher
    c.args.loan.now.number c.args.loan.now.book c.args.loan.now.slot c.requires.lies c.in-Some.contents
    (here {T = g.row.T.Denot} {U = g.row.U.Denot} c.args.state.now _ c.state.view_is c.requires.agrees
    c.args.loan.now.publisher c.args.loan.now.number c.args.loan.now.book c.args.loan.now.slot c.requires.lies
    c.index.result.now c.index.ensures c.in-Some.contents c.in-Some.is) (λ content. content.is_in_place ≡ false)
    (in-lists {T = g.row.T.Denot} {U = g.row.U.Denot} c.args.state.now c.requires.agrees c.args.loan.now.publisher
    c.args.loan.now.number c.args.loan.now.book c.args.loan.now.slot c.requires.lies c.in-Some.contents
    (here {T = g.row.T.Denot} {U = g.row.U.Denot} c.args.state.now _ c.state.view_is c.requires.agrees
    c.args.loan.now.publisher c.args.loan.now.number c.args.loan.now.book c.args.loan.now.slot c.requires.lies
    c.index.result.now c.index.ensures c.in-Some.contents c.in-Some.is) c.requires.several)

pub returns : goal.returns
returns g c = values-read {T = g.row.T.Denot} {U = g.row.U.Denot} c.args.state.now c.requires.agrees
    c.args.loan.now.publisher c.args.loan.now.number c.args.loan.now.book c.args.loan.now.slot c.requires.lies
    c.in-Some.contents (here {T = g.row.T.Denot} {U = g.row.U.Denot} c.args.state.now _ c.state.view_is
    c.requires.agrees c.args.loan.now.publisher c.args.loan.now.number c.args.loan.now.book c.args.loan.now.slot
    c.requires.lies c.index.result.now c.index.ensures c.in-Some.contents c.in-Some.is)
    (is-written {T = g.row.T.Denot} {U = g.row.U.Denot} c.args.state.now c.requires.agrees c.args.loan.now.publisher
    c.args.loan.now.number c.args.loan.now.book c.args.loan.now.slot c.requires.lies c.requires.live)
    c.values.result.now c.values.ensures
