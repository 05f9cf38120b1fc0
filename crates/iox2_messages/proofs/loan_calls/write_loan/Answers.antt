use Rattle.iox2_domain.proofs.lemmas.loans.ChangedLoan.{one-cell}
use Rattle.iox2_domain.proofs.lemmas.loans.LoanCalls.{contents-still, one-writable, one-written}
use Rattle.iox2_messages.proofs.loan_calls.write_loan.Goals as goal

pub mark_written-requires : goal.mark_written-requires
mark_written-requires g c = let at = c.requires.lies in (at.book, at.stands, (at.loan_slot).in_bounds)

pub contents_mut-requires : goal.contents_mut-requires
contents_mut-requires g c = contents-still {T = g.row.T.Denot} {U = g.row.U.Denot} _ c.requires.agrees _ _ _ _
    c.requires.lies _ (c.mark_written.ensures _ (c.requires.lies).stands)

pub write_payload-requires : goal.write_payload-requires
write_payload-requires g c =
    one-writable {T = g.row.T.Denot} {U = g.row.U.Denot} _ c.requires.agrees _ _ _ _ c.requires.lies _
    (c.mark_written.ensures _ (c.requires.lies).stands) _ c.contents_mut.ensures.value c.requires.live
    (one-cell {T = g.row.T.Denot} {U = g.row.U.Denot} c.args.state.now c.requires.agrees c.args.loan.publisher
    c.args.loan.number c.args.loan.book c.args.loan.slot c.requires.lies c.requires.fixed_size c.requires.single)

pub returns-clause-writes : goal.returns-clause-writes
returns-clause-writes g c =
    one-written {T = g.row.T.Denot} {U = g.row.U.Denot} _ c.requires.agrees _ _ _ _ c.requires.lies _
    (c.mark_written.ensures _ (c.requires.lies).stands) _ c.contents_mut.ensures.value c.requires.live
    (one-cell {T = g.row.T.Denot} {U = g.row.U.Denot} c.args.state.now c.requires.agrees c.args.loan.publisher
    c.args.loan.number c.args.loan.book c.args.loan.slot c.requires.lies c.requires.fixed_size c.requires.single)
    c.args.value c.write_payload.new.self c.write_payload.ensures
