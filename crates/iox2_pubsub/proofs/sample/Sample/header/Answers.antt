use Rattle.iox2_pubsub.specs.Live.{sample_key}
use Rattle.iox2_pubsub.proofs.SampleOrigins.{entry-origin}
use Rattle.iox2_pubsub.proofs.LiveParts.{sample-header, sample-header-one}
use Rattle.iox2_pubsub.proofs.SampleReads.{entry-kept, entry-shown, its-place, sample-from, sample-lies}
use Rattle.iox2_pubsub.proofs.sample.Sample.header.Goals as goal

pub sample_header-requires-clause-lies : goal.sample_header-requires-clause-lies
sample_header-requires-clause-lies g c = sample-lies {T = g.row.T.Denot} {U = g.row.U.Denot} c.domain.inside.state
    c.args.domain.now c.domain.view_is c.args.self.now (its-place c.self.view_is) c.domain.invariant c.requires.live

pub returns-clause-header : goal.returns-clause-header
returns-clause-header g c = entry-shown {T = g.row.T.Denot} {U = g.row.U.Denot} c.domain.inside.state c.args.domain.now
    c.domain.view_is c.args.self.now (its-place c.self.view_is) c.sample_header.ensures

pub returns-clause-origin : goal.returns-clause-origin
returns-clause-origin g c = λ from.
    entry-origin c.domain.inside.state c.domain.invariant c.self.inside.sample.subscriber c.args.self.now.origin
    c.self.inside.sample.number c.sample_header.result.now
    (sample-from {T = g.row.T.Denot} {U = g.row.U.Denot} c.domain.inside.state c.args.domain.now c.domain.view_is
    c.args.self.now (its-place c.self.view_is) from)
    c.sample_header.ensures

pub returns-clause-reads : goal.returns-clause-reads
returns-clause-reads g c = sample-header {T = g.row.T.Denot} {U = g.row.U.Denot} c.args.domain.now
    (sample_key c.args.self.now) c.sample_header.result.now
    (entry-kept {T = g.row.T.Denot} {U = g.row.U.Denot} c.domain.inside.state c.args.domain.now c.domain.view_is
    c.args.self.now (its-place c.self.view_is) c.sample_header.ensures)

pub returns-clause-same : goal.returns-clause-same
returns-clause-same g c = λ header has. sample-header-one {T = g.row.T.Denot} {U = g.row.U.Denot} c.args.domain.now
    (sample_key c.args.self.now) c.sample_header.result.now header (returns-clause-reads g c) has
