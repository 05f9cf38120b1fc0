use Rattle.std.proofs.Common.{sym}
use Rattle.iox2_domain.proofs.lemmas.loans.LoanSlots.{book-read, nothing-read, slot-read}
use Rattle.iox2_domain.proofs.state.DomainState.find_loan.Goals as goal

pub index-book-requires : goal.index-book-requires
index-book-requires g c =
    book-read {T = g.row.T.Denot}
    {U = g.row.U.Denot} c.args.self.now _ c.self.view_is c.in-Some.place c.args.publisher c.in-Some.ensures
    c.index.result.now c.index.ensures c.in_ok-lender.lender.now
    (sym c.in_ok-lender.ensures.value) _ c.lender.view_is c.requires

pub returns-in_err-slot : goal.returns-in_err-slot
returns-in_err-slot g c =
    rw c.from_residual-in_err-slot.ensures (
    nothing-read {T = g.row.T.Denot}
    {U = g.row.U.Denot} c.args.self.now _ c.self.view_is c.in-Some.place c.args.publisher c.in-Some.ensures
    c.index.result.now c.index.ensures c.in_ok-lender.lender.now
    (sym c.in_ok-lender.ensures.value) _ c.lender.view_is c.requires
    c.args.number c.index-book.result.now c.index-book.ensures c.deref.result.now c.deref.ensures.value
    c.in_err-slot.ensures
    )

pub returns : goal.returns
returns g c =
    slot-read {T = g.row.T.Denot}
    {U = g.row.U.Denot} c.args.self.now _ c.self.view_is c.in-Some.place c.args.publisher c.in-Some.ensures
    c.index.result.now c.index.ensures c.in_ok-lender.lender.now
    (sym c.in_ok-lender.ensures.value) _ c.lender.view_is c.requires
    c.args.number c.index-book.result.now c.index-book.ensures c.in_ok-slot.slot c.in_ok-slot.ensures
