use Rattle.std.proofs.Common.{sym, subst, ◌∙◌}
use Rattle.iox2_pubsub.specs.Slices.{HasUnwrittenCells}
use Rattle.iox2_pubsub.specs.declared.sample_mut_uninit.SampleMutUninit.{SampleMutUninit}
use Rattle.iox2_runs.proofs.CellLists.{item-read}
use Rattle.iox2_runs.proofs.CellViews.{cell-read, cells-read}
use Rattle.iox2_runs.proofs.Services.{single-here, sliced-here}
use Rattle.iox2_runs.proofs.runs.cells.unwritten_cell.Goals as goal

pub payload-requires-clause-single_valued : goal.payload-requires-clause-single_valued
payload-requires-clause-single_valued g c = single-here {T = g.row.T.Denot} {U = g.row.U.Denot} c.args.domain.now
    (sym c.is_single_valued.ensures ∙ c.if-is_single_valued.true)

pub returns-then-is_single_valued-clause-reads : goal.returns-then-is_single_valued-clause-reads
returns-then-is_single_valued-clause-reads g c =
    cell-read {T = g.row.T.Denot} {U = g.row.U.Denot} c.args.domain.now c.args.loan.loan.number c.args.at
    c.payload.result.now c.only_at.result c.payload.ensures.cell c.only_at.ensures

pub payload-requires-2-clause-sliced : goal.payload-requires-2-clause-sliced
payload-requires-2-clause-sliced g c = sliced-here {T = g.row.T.Denot} {U = g.row.U.Denot} c.args.domain.now
    (sym c.is_single_valued.ensures ∙ c.if-is_single_valued.false)
    (c.requires.lists_cells (sym c.is_single_valued.ensures ∙ c.if-is_single_valued.false))

pub returns-clause-reads : goal.returns-clause-reads
returns-clause-reads g c =
    cells-read {T = g.row.T.Denot} {U = g.row.U.Denot} c.args.domain.now c.args.loan.loan.number c.args.at
    c.payload-2.result.now c.copied-cell.result
    (subst (λ (it : SampleMutUninit). HasUnwrittenCells c.args.domain.now it.loan.number c.payload-2.result.now)
    c.new-loan.ensures c.payload-2.ensures.reads)
    (c.copied-cell.ensures ∙ item-read c.payload-2.result.now c.args.at c.get.result c.get.ensures.lookup)
