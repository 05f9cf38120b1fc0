use Rattle.iox2_pubsub.specs.Live.{sample_key}
use Rattle.iox2_pubsub.proofs.SliceParts.{holds-in, sample-values, sample-values-one}
use Rattle.iox2_pubsub.proofs.SampleReads.{entry-kept, its-place, sample-lies}
use Rattle.iox2_pubsub.proofs.slice.sample.Sample.payload_at_hint.Goals as goal

pub sample_payloads-requires-clause-lies : goal.sample_payloads-requires-clause-lies
sample_payloads-requires-clause-lies g c =
    sample-lies {T = g.row.T.Denot} {U = g.row.U.Denot} c.domain.inside.state c.args.domain.now c.domain.view_is
    c.args.self.now (its-place c.self.view_is) c.domain.invariant c.requires.live

pub sample_payloads-requires-clause-several : goal.sample_payloads-requires-clause-several
sample_payloads-requires-clause-several g c =
    holds-in c.args.domain.now c.domain.inside.state c.domain.view_is c.requires.sliced

pub returns-clause-reads : goal.returns-clause-reads
returns-clause-reads g c = sample-values c.args.domain.now (sample_key c.args.self.now) c.sample_payloads.result.now
    (entry-kept {T = g.row.T.Denot} {U = g.row.U.Denot} c.domain.inside.state c.args.domain.now c.domain.view_is
    c.args.self.now (its-place c.self.view_is) c.sample_payloads.ensures)

pub returns-clause-same : goal.returns-clause-same
returns-clause-same g c = λ values has. sample-values-one c.args.domain.now
    (sample_key c.args.self.now) c.sample_payloads.result.now values (returns-clause-reads g c) has
