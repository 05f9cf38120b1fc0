use Rattle.std.proofs.Common.{◌<◌, List, length, subst}
use Rattle.std.specs.Prelude.{◌↔◌, IsSome}
use Rattle.iox2_domain.proofs.lemmas.loans.LoanCalls.{contents-still, all-writable, many-written}
use Rattle.iox2_messages.proofs.FilledSlots.{filled-read, filled-readable}
use Rattle.iox2_messages.proofs.fills.fill_from_fn.Goals as goal

pub mark_written-requires : goal.mark_written-requires
mark_written-requires g c = let at = c.requires.lies in (at.book, at.stands, (at.loan_slot).in_bounds)

pub contents_mut-contents-requires : goal.contents_mut-contents-requires
contents_mut-contents-requires g c = contents-still {T = g.row.T.Denot} {U = g.row.U.Denot} _ c.requires.agrees _ _ _ _
    c.requires.lies _ (c.mark_written.ensures _ (c.requires.lies).stands)

pub write_from_fn-requires-clause-in_lists : goal.write_from_fn-requires-clause-in_lists
write_from_fn-requires-clause-in_lists g c =
    all-writable {T = g.row.T.Denot} {U = g.row.U.Denot} _ c.requires.agrees _ _ _ _ c.requires.lies _
    (c.mark_written.ensures _ (c.requires.lies).stands) _ c.contents_mut-contents.ensures.value c.requires.live
    c.requires.several

pub values-requires : goal.values-requires
values-requires g c =
    filled-readable {T = g.row.T.Denot} {U = g.row.U.Denot} c.contents_mut-contents.result.now c.write_from_fn.new.self
    c.args.loan.now.slot c.write_from_fn.ensures.0 c.write_from_fn.ensures.2
    (all-writable {T = g.row.T.Denot} {U = g.row.U.Denot} _ c.requires.agrees _ _ _ _ c.requires.lies _
    (c.mark_written.ensures _ (c.requires.lies).stands) _ c.contents_mut-contents.ensures.value c.requires.live
    c.requires.several)

pub returns : goal.returns
returns g c = (
  c.write_from_fn.ensures.0,
  c.write_from_fn.ensures.1,
  many-written {T = g.row.T.Denot} {U = g.row.U.Denot} _ c.requires.agrees _ _ _ _ c.requires.lies _
      (c.mark_written.ensures _ (c.requires.lies).stands) _ c.contents_mut-contents.ensures.value c.requires.live
      c.write_from_fn.ensures.0 c.write_from_fn.new.self c.write_from_fn.ensures.2,
  subst (λ (values : List g.row.T.Denot). IsSome c.start_of.result ↔ 0 < length values)
      (filled-read {T = g.row.T.Denot} {U = g.row.U.Denot} c.contents_mut-contents.result.now c.write_from_fn.new.self
      c.args.loan.now.slot c.write_from_fn.ensures.0 c.write_from_fn.ensures.2
      (all-writable {T = g.row.T.Denot} {U = g.row.U.Denot} _ c.requires.agrees _ _ _ _ c.requires.lies _
      (c.mark_written.ensures _ (c.requires.lies).stands) _ c.contents_mut-contents.ensures.value c.requires.live
      c.requires.several) c.values.result.now c.values.ensures)
      c.start_of.ensures,
)
