use Rattle.iox2_pubsub.specs.Live.{written_key}
use Rattle.iox2_pubsub.proofs.LoanHandles.{loan-out}
use Rattle.iox2_pubsub.proofs.LoanReads.{user_header-read}
use Rattle.iox2_pubsub.proofs.sample_mut.SampleMut.user_header.Goals as goal

pub loan_user_header-requires-clause-live : goal.loan_user_header-requires-clause-live
loan_user_header-requires-clause-live g c = loan-out {T = g.row.T.Denot}
    {U = g.row.U.Denot} _ c.args.domain.now c.domain.view_is (written_key c.args.self.now) c.requires.live

pub returns : goal.returns
returns g c = let it = user_header-read {T = g.row.T.Denot} {U = g.row.U.Denot} _ c.args.domain.now c.domain.view_is
    (written_key c.args.self.now) c.loan_user_header.result.now c.loan_user_header.ensures in
    record { header = it.shown; reads = it.reads; same = it.same }
