use Rattle.std.proofs.Common.{◌<◌, ℕ, true, false, refl, sym, subst, ◌∙◌, Some}
use Rattle.std.specs.Prelude.{slice_set}
use Rattle.iox2_pubsub.specs.ChangedLoans.{with_payload, with_payloads}
use Rattle.iox2_pubsub.specs.declared.sample_mut.SampleMut.{SampleMut}
use Rattle.iox2_runs.specs.Cells.{WritesAt}
use Rattle.iox2_runs.proofs.CellViews.{values-alike, cell-written, cell-past, values-past, values-written}
use Rattle.iox2_runs.proofs.Services.{single-here, holds-here}
use Rattle.iox2_runs.proofs.runs.cells.set_value_at.Goals as goal

pub payload-requires-clause-single_valued : goal.payload-requires-clause-single_valued
payload-requires-clause-single_valued g c = single-here {T = g.row.T.Denot} {U = g.row.U.Denot} c.args.domain.now
    (sym c.is_single_valued.ensures ∙ c.if-is_single_valued.true)

pub returns-then-at-ne0-clause-writes : goal.returns-then-at-ne0-clause-writes
returns-then-at-ne0-clause-writes g c =
    cell-past {T = g.row.T.Denot} {U = g.row.U.Denot} c.args.domain.now c.args.loan.loan.number c.args.at
    (Some c.payload.result.now) c.args.value c.if-at-ne0.true c.payload.ensures.cell

pub payload_mut-requires-clause-single_valued : goal.payload_mut-requires-clause-single_valued
payload_mut-requires-clause-single_valued g c = single-here {T = g.row.T.Denot} {U = g.row.U.Denot} c.args.domain.now
    (sym c.is_single_valued.ensures ∙ c.if-is_single_valued.true)

pub returns-then-is_single_valued-clause-writes : goal.returns-then-is_single_valued-clause-writes
returns-then-is_single_valued-clause-writes g c =
    cell-written {T = g.row.T.Denot} {U = g.row.U.Denot} c.args.domain.now c.args.loan.loan.number c.args.at
    (with_payload c.args.domain.now c.args.loan.loan.number c.args.value) c.args.value
    (Some c.payload.result.now) c.if-at-ne0.false c.payload.ensures.cell
    (λ m s shown. c.payload_mut.ensures.changes m s c.args.value shown)

pub payload-requires-2-clause-sliced : goal.payload-requires-2-clause-sliced
payload-requires-2-clause-sliced g c = holds-here {T = g.row.T.Denot} {U = g.row.U.Denot} c.args.domain.now
    (sym c.is_single_valued.ensures ∙ c.if-is_single_valued.false)

pub returns-then-at-payload-clause-writes : goal.returns-then-at-payload-clause-writes
returns-then-at-payload-clause-writes g c =
    subst (λ (it : SampleMut). WritesAt c.args.domain.now c.args.domain.now it.loan.number c.args.at c.args.value false)
    c.new-loan.ensures
    (values-past {T = g.row.T.Denot} {U = g.row.U.Denot} c.args.domain.now c.new-loan.result.sample.loan.number
    c.args.at c.payload-2.result.now c.args.value c.if-at-payload.true c.payload-2.ensures.reads)

pub payload_mut-values-requires-clause-sliced : goal.payload_mut-values-requires-clause-sliced
payload_mut-values-requires-clause-sliced g c = holds-here {T = g.row.T.Denot} {U = g.row.U.Denot} c.args.domain.now
    (sym c.is_single_valued.ensures ∙ c.if-is_single_valued.false)

pub bounds-values-at : goal.bounds-values-at
bounds-values-at g c =
    subst (λ (k : ℕ). c.args.at < k)
    (values-alike {T = g.row.T.Denot} {U = g.row.U.Denot} c.args.domain.now c.new-loan.result.sample.loan.number
    c.payload-2.result.now c.payload_mut-values.result.now c.payload-2.ensures.reads
    c.payload_mut-values.ensures.payload) c.if-at-payload.false

pub returns-clause-writes : goal.returns-clause-writes
returns-clause-writes g c =
    subst (λ (it : SampleMut). WritesAt c.args.domain.now
    (with_payloads c.args.domain.now c.new-loan.result.sample.loan.number
    (slice_set c.payload_mut-values.result.now c.args.at c.args.value)) it.loan.number c.args.at c.args.value true)
    c.new-loan.ensures
    (values-written {T = g.row.T.Denot} {U = g.row.U.Denot} c.args.domain.now c.new-loan.result.sample.loan.number
    c.args.at (with_payloads c.args.domain.now c.new-loan.result.sample.loan.number
    (slice_set c.payload_mut-values.result.now c.args.at c.args.value)) c.args.value
    c.payload_mut-values.result.now (slice_set c.payload_mut-values.result.now c.args.at c.args.value)
    (subst (λ (k : ℕ). c.args.at < k)
    (values-alike {T = g.row.T.Denot} {U = g.row.U.Denot} c.args.domain.now c.new-loan.result.sample.loan.number
    c.payload-2.result.now c.payload_mut-values.result.now c.payload-2.ensures.reads
    c.payload_mut-values.ensures.payload) c.if-at-payload.false)
    c.payload_mut-values.ensures.payload refl
    (λ m s shown. c.payload_mut-values.ensures.changes m s
    (slice_set c.payload_mut-values.result.now c.args.at c.args.value) shown))
