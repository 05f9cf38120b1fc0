use Rattle.iox2_domain.proofs.lemmas.loans.LoanCalls.{contents-still, all-writable, many-written}
use Rattle.iox2_messages.proofs.loan_calls.write_loan_from_fn.Goals as goal

pub mark_written-requires : goal.mark_written-requires
mark_written-requires g c = let at = c.requires.lies in (at.book, at.stands, (at.loan_slot).in_bounds)

pub contents_mut-requires : goal.contents_mut-requires
contents_mut-requires g c = contents-still {T = g.row.T.Denot} {U = g.row.U.Denot} _ c.requires.agrees _ _ _ _
    c.requires.lies _ (c.mark_written.ensures _ (c.requires.lies).stands)

pub write_from_fn-requires-clause-in_lists : goal.write_from_fn-requires-clause-in_lists
write_from_fn-requires-clause-in_lists g c =
    all-writable {T = g.row.T.Denot} {U = g.row.U.Denot} _ c.requires.agrees _ _ _ _ c.requires.lies _
    (c.mark_written.ensures _ (c.requires.lies).stands) _ c.contents_mut.ensures.value c.requires.live
    c.requires.several

pub returns-clause-writes : goal.returns-clause-writes
returns-clause-writes g c = (
  c.write_from_fn.ensures.0,
  c.write_from_fn.ensures.1,
  many-written {T = g.row.T.Denot} {U = g.row.U.Denot} _ c.requires.agrees _ _ _ _ c.requires.lies _
      (c.mark_written.ensures _ (c.requires.lies).stands) _ c.contents_mut.ensures.value c.requires.live
      c.write_from_fn.ensures.0 c.write_from_fn.new.self c.write_from_fn.ensures.2,
)
