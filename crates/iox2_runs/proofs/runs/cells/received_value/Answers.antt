use Rattle.std.proofs.Common.{sym, subst, ◌∙◌}
use Rattle.iox2_pubsub.specs.Live.{sample_key}
use Rattle.iox2_pubsub.specs.Slices.{SampleHasValues}
use Rattle.iox2_pubsub.specs.Sample.{Sample}
use Rattle.iox2_runs.proofs.CellLists.{item-read}
use Rattle.iox2_runs.proofs.CellViews.{message-of, message-read, messages-read}
use Rattle.iox2_runs.proofs.Services.{single-here, holds-here}
use Rattle.iox2_runs.proofs.runs.cells.received_value.Goals as goal

pub payload-requires-clause-single_valued : goal.payload-requires-clause-single_valued
payload-requires-clause-single_valued g c = single-here {T = g.row.T.Denot} {U = g.row.U.Denot} c.args.domain.now
    (sym c.is_single_valued.ensures ∙ c.if-is_single_valued.true)

pub returns-then-is_single_valued-clause-reads : goal.returns-then-is_single_valued-clause-reads
returns-then-is_single_valued-clause-reads g c =
    message-read {T = g.row.T.Denot} {U = g.row.U.Denot} c.args.domain.now c.args.sample.sample.number c.args.at
    c.payload.result.now c.only_at.result c.payload.ensures.entry c.only_at.ensures

pub payload-requires-2-clause-sliced : goal.payload-requires-2-clause-sliced
payload-requires-2-clause-sliced g c = holds-here {T = g.row.T.Denot} {U = g.row.U.Denot} c.args.domain.now
    (sym c.is_single_valued.ensures ∙ c.if-is_single_valued.false)

pub returns-clause-reads : goal.returns-clause-reads
returns-clause-reads g c =
    messages-read {T = g.row.T.Denot} {U = g.row.U.Denot} c.args.domain.now c.args.sample.sample.number c.args.at
    c.payload-2.result.now c.copied-value.result
    (message-of {T = g.row.T.Denot} {U = g.row.U.Denot} c.args.domain.now
    (sample_key c.args.sample) c.payload-2.result.now
    (subst (λ (it : Sample). SampleHasValues {T = g.row.T.Denot} {U = g.row.U.Denot} c.args.domain.now
    (sample_key it) c.payload-2.result.now) c.into_kind-sample.ensures c.payload-2.ensures.reads))
    (c.copied-value.ensures ∙ item-read c.payload-2.result.now c.args.at c.get.result c.get.ensures.lookup)
