use Rattle.iox2_domain.proofs.lemmas.slots.BookContents.{contents-there}
use Rattle.iox2_domain.proofs.lemmas.loans.LoanCalls.{assume-allowed, assume-refused, assume-done}
use Rattle.iox2_messages.proofs.loan_calls.assume_loan.Goals as goal

pub contents_mut-requires : goal.contents_mut-requires
contents_mut-requires g c = contents-there {T = g.row.T.Denot} {U = g.row.U.Denot} c.args.state.now
    (c.requires.agrees).parts c.args.loan.now.book (c.requires.lies).book (c.requires.lies).stands

pub assume_init-requires : goal.assume_init-requires
assume_init-requires g c = assume-allowed {T = g.row.T.Denot} {U = g.row.U.Denot} c.args.state.now c.requires.agrees
    c.args.loan.now.publisher c.args.loan.now.number c.args.loan.now.book c.args.loan.now.slot c.requires.lies
    c.contents_mut.result.now c.contents_mut.ensures.value c.requires.live

pub mark_written-requires : goal.mark_written-requires
mark_written-requires g c = let at = c.requires.lies in (at.book, at.stands, (at.loan_slot).in_bounds)

pub returns-then-not-assume_init : goal.returns-then-not-assume_init
returns-then-not-assume_init g c = assume-refused {T = g.row.T.Denot} {U = g.row.U.Denot} c.args.state.now
    c.requires.agrees c.args.loan.now.publisher c.args.loan.now.number c.args.loan.now.book c.args.loan.now.slot
    c.requires.lies c.contents_mut.result.now c.contents_mut.ensures.value c.requires.live c.assume_init.new.self _
    c.assume_init.ensures c.if-not-assume_init.true

pub returns : goal.returns
returns g c = assume-done {T = g.row.T.Denot} {U = g.row.U.Denot} c.args.state.now c.requires.agrees
    c.args.loan.now.publisher c.args.loan.now.number c.args.loan.now.book c.args.loan.now.slot c.requires.lies
    c.contents_mut.result.now c.contents_mut.ensures.value c.requires.live c.assume_init.new.self _
    c.assume_init.ensures c.if-not-assume_init.false _
    (c.mark_written.ensures (c.requires.lies).book (c.requires.lies).stands)
