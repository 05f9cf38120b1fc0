use Rattle.iox2_pubsub.specs.Live.{sample_key}
use Rattle.iox2_pubsub.proofs.LiveParts.{sample-user-header, sample-user-header-one}
use Rattle.iox2_pubsub.proofs.SampleReads.{entry-kept, entry-shown, its-place, sample-lies}
use Rattle.iox2_pubsub.proofs.sample.Sample.user_header.Goals as goal

pub sample_user_header-requires-clause-lies : goal.sample_user_header-requires-clause-lies
sample_user_header-requires-clause-lies g c =
    sample-lies {T = g.row.T.Denot} {U = g.row.U.Denot} c.domain.inside.state c.args.domain.now c.domain.view_is
    c.args.self.now (its-place c.self.view_is) c.domain.invariant c.requires.live

pub returns-clause-header : goal.returns-clause-header
returns-clause-header g c = entry-shown {T = g.row.T.Denot} {U = g.row.U.Denot} c.domain.inside.state c.args.domain.now
    c.domain.view_is c.args.self.now (its-place c.self.view_is) c.sample_user_header.ensures

pub returns-clause-reads : goal.returns-clause-reads
returns-clause-reads g c = sample-user-header {T = g.row.T.Denot} {U = g.row.U.Denot} c.args.domain.now
    (sample_key c.args.self.now) c.sample_user_header.result.now
    (entry-kept {T = g.row.T.Denot} {U = g.row.U.Denot} c.domain.inside.state c.args.domain.now c.domain.view_is
    c.args.self.now (its-place c.self.view_is) c.sample_user_header.ensures)

pub returns-clause-same : goal.returns-clause-same
returns-clause-same g c = λ header has. sample-user-header-one {T = g.row.T.Denot} {U = g.row.U.Denot} c.args.domain.now
    (sample_key c.args.self.now) c.sample_user_header.result.now header (returns-clause-reads g c) has
