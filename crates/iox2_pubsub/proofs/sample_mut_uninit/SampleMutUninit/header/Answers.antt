use Rattle.iox2_pubsub.specs.Live.{unwritten_key}
use Rattle.iox2_pubsub.proofs.LoanHandles.{loan-out}
use Rattle.iox2_pubsub.proofs.LoanReads.{header-read}
use Rattle.iox2_pubsub.proofs.sample_mut_uninit.SampleMutUninit.header.Goals as goal

pub loan_header-requires-clause-live : goal.loan_header-requires-clause-live
loan_header-requires-clause-live g c = loan-out {T = g.row.T.Denot}
    {U = g.row.U.Denot} _ c.args.domain.now c.domain.view_is (unwritten_key c.args.self.now) c.requires.live

pub returns : goal.returns
returns g c = let it = header-read {T = g.row.T.Denot} {U = g.row.U.Denot} c.domain.inside.state c.domain.invariant
    c.args.domain.now c.domain.view_is (unwritten_key c.args.self.now) c.loan_header.result.now c.requires.live
    c.loan_header.ensures in record { header = it.shown; origin = it.origin; reads = it.reads; same = it.same }
