use Rattle.std.proofs.Common.{ap, ◌∙◌}
use Rattle.iox2_domain.specs.Kept.{Kept}
use Rattle.iox2_pubsub.proofs.LiveParts.{single-parts, sample-reads, sample-reads-one}
use Rattle.iox2_pubsub.proofs.SampleReads.{entry-kept, entry-shown, its-place, sample-lies}
use Rattle.iox2_pubsub.proofs.sample.Sample+Value.payload.Goals as goal

pub sample_payload-requires-clause-lies : goal.sample_payload-requires-clause-lies
sample_payload-requires-clause-lies g c = sample-lies {T = g.row.T.Denot} {U = g.row.U.Denot} c.domain.inside.state
    c.args.domain.now c.domain.view_is c.args.self.now (its-place c.self.view_is) c.domain.invariant c.requires.live

pub returns-clause-entry : goal.returns-clause-entry
returns-clause-entry g c = entry-shown {T = g.row.T.Denot} {U = g.row.U.Denot} c.domain.inside.state c.args.domain.now
    c.domain.view_is c.args.self.now (its-place c.self.view_is) c.sample_payload.ensures

pub sample_payload-requires-clause-single : goal.sample_payload-requires-clause-single
sample_payload-requires-clause-single g c =
    ap (λ (k : Kept g.row.T.Denot g.row.U.Denot g.row.F.Denot g.row.G.Denot). (k.config).units_per_element)
    c.domain.view_is ∙ (single-parts c.args.domain.now c.requires.single_valued).1

pub returns-clause-reads : goal.returns-clause-reads
returns-clause-reads g c =
    let read = entry-kept {T = g.row.T.Denot} {U = g.row.U.Denot} c.domain.inside.state c.args.domain.now
    c.domain.view_is c.args.self.now (its-place c.self.view_is) c.sample_payload.ensures in
    sample-reads {T = g.row.T.Denot}
    {U = g.row.U.Denot} c.args.domain.now c.args.self.now c.sample_payload.result.now read.0 read.1 read.2

pub returns-clause-same : goal.returns-clause-same
returns-clause-same g c = λ value reads. sample-reads-one {T = g.row.T.Denot}
    {U = g.row.U.Denot} c.args.domain.now c.args.self.now c.sample_payload.result.now value
    (returns-clause-reads g c) reads

pub sample_payload-requires-clause-fixed_size : goal.sample_payload-requires-clause-fixed_size
sample_payload-requires-clause-fixed_size g c =
    ap (λ (k : Kept g.row.T.Denot g.row.U.Denot g.row.F.Denot g.row.G.Denot). (k.config).variant) c.domain.view_is
    ∙ (single-parts c.args.domain.now c.requires.single_valued).0
