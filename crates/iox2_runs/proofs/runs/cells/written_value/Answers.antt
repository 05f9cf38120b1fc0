use Rattle.std.proofs.Common.{sym, subst, ◌∙◌}
use Rattle.iox2_pubsub.specs.Slices.{HasValues}
use Rattle.iox2_pubsub.specs.declared.sample_mut.SampleMut.{SampleMut}
use Rattle.iox2_runs.proofs.CellLists.{item-read}
use Rattle.iox2_runs.proofs.CellViews.{value-read, values-read}
use Rattle.iox2_runs.proofs.Services.{single-here, holds-here}
use Rattle.iox2_runs.proofs.runs.cells.written_value.Goals as goal

pub payload-requires-clause-single_valued : goal.payload-requires-clause-single_valued
payload-requires-clause-single_valued g c = single-here {T = g.row.T.Denot} {U = g.row.U.Denot} c.args.domain.now
    (sym c.is_single_valued.ensures ∙ c.if-is_single_valued.true)

pub returns-then-is_single_valued-clause-reads : goal.returns-then-is_single_valued-clause-reads
returns-then-is_single_valued-clause-reads g c =
    value-read {T = g.row.T.Denot} {U = g.row.U.Denot} c.args.domain.now c.args.loan.loan.number c.args.at
    c.payload.result.now c.only_at.result c.payload.ensures.cell c.only_at.ensures

pub payload-requires-2-clause-sliced : goal.payload-requires-2-clause-sliced
payload-requires-2-clause-sliced g c = holds-here {T = g.row.T.Denot} {U = g.row.U.Denot} c.args.domain.now
    (sym c.is_single_valued.ensures ∙ c.if-is_single_valued.false)

pub returns-clause-reads : goal.returns-clause-reads
returns-clause-reads g c =
    values-read {T = g.row.T.Denot} {U = g.row.U.Denot} c.args.domain.now c.args.loan.loan.number c.args.at
    c.payload-2.result.now c.copied-value.result
    (subst (λ (it : SampleMut). HasValues c.args.domain.now it.loan.number c.payload-2.result.now) c.new-loan.ensures
    c.payload-2.ensures.reads)
    (c.copied-value.ensures ∙ item-read c.payload-2.result.now c.args.at c.get.result c.get.ensures.lookup)
