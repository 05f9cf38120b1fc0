use Rattle.std.proofs.Common.{◌<◌}
use Rattle.iox2_domain.proofs.lemmas.loans.LoanCalls.{here, some-at, cells-listed, cells-read, is-unwritten}
use Rattle.iox2_messages.proofs.loan_calls.loan_cells.Goals as goal

pub cells-requires : goal.cells-requires
cells-requires g c =
    some-at {T = g.row.T.Denot} {U = g.row.U.Denot} c.args.state.now c.requires.agrees c.args.loan.now.publisher
    c.args.loan.now.number c.args.loan.now.book c.args.loan.now.slot c.requires.lies c.in-Some.contents
    (here {T = g.row.T.Denot} {U = g.row.U.Denot} c.args.state.now _ c.state.view_is c.requires.agrees
    c.args.loan.now.publisher c.args.loan.now.number c.args.loan.now.book c.args.loan.now.slot c.requires.lies
    c.index.result.now c.index.ensures c.in-Some.contents c.in-Some.is) (λ content. 0 < content.lists)
    (cells-listed {T = g.row.T.Denot} {U = g.row.U.Denot} c.args.state.now c.requires.agrees c.args.loan.now.publisher
    c.args.loan.now.number c.args.loan.now.book c.args.loan.now.slot c.requires.lies c.in-Some.contents
    (here {T = g.row.T.Denot} {U = g.row.U.Denot} c.args.state.now _ c.state.view_is c.requires.agrees
    c.args.loan.now.publisher c.args.loan.now.number c.args.loan.now.book c.args.loan.now.slot c.requires.lies
    c.index.result.now c.index.ensures c.in-Some.contents c.in-Some.is) c.requires.several c.requires.lists_cells)

pub returns : goal.returns
returns g c = cells-read {T = g.row.T.Denot} {U = g.row.U.Denot} c.args.state.now c.requires.agrees
    c.args.loan.now.publisher c.args.loan.now.number c.args.loan.now.book c.args.loan.now.slot c.requires.lies
    c.in-Some.contents (here {T = g.row.T.Denot} {U = g.row.U.Denot} c.args.state.now _ c.state.view_is
    c.requires.agrees c.args.loan.now.publisher c.args.loan.now.number c.args.loan.now.book c.args.loan.now.slot
    c.requires.lies c.index.result.now c.index.ensures c.in-Some.contents c.in-Some.is)
    (is-unwritten {T = g.row.T.Denot} {U = g.row.U.Denot} c.args.state.now c.requires.agrees c.args.loan.now.publisher
    c.args.loan.now.number c.args.loan.now.book c.args.loan.now.slot c.requires.lies c.requires.live) c.cells.result.now
    c.cells.ensures
