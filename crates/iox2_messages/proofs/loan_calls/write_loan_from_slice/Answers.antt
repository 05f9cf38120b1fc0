use Rattle.iox2_domain.proofs.lemmas.loans.LoanCalls.{contents-still, many-writable, many-written}
use Rattle.iox2_messages.proofs.loan_calls.write_loan_from_slice.Goals as goal

pub mark_written-requires : goal.mark_written-requires
mark_written-requires g c = let at = c.requires.lies in (at.book, at.stands, (at.loan_slot).in_bounds)

pub contents_mut-requires : goal.contents_mut-requires
contents_mut-requires g c = contents-still {T = g.row.T.Denot} {U = g.row.U.Denot} _ c.requires.agrees _ _ _ _
    c.requires.lies _ (c.mark_written.ensures _ (c.requires.lies).stands)

pub write_from_slice-requires : goal.write_from_slice-requires
write_from_slice-requires g c =
    many-writable {T = g.row.T.Denot} {U = g.row.U.Denot} _ c.requires.agrees _ _ _ _ c.requires.lies _
    (c.mark_written.ensures _ (c.requires.lies).stands) _ c.contents_mut.ensures.value c.requires.live
    c.requires.several _ (c.requires.lengths (c.requires.lies).loan (c.requires.lies).is_out)

pub returns-clause-writes : goal.returns-clause-writes
returns-clause-writes g c =
    many-written {T = g.row.T.Denot} {U = g.row.U.Denot} _ c.requires.agrees _ _ _ _ c.requires.lies _
    (c.mark_written.ensures _ (c.requires.lies).stands) _ c.contents_mut.ensures.value c.requires.live c.args.values.now
    c.write_from_slice.new.self c.write_from_slice.ensures
