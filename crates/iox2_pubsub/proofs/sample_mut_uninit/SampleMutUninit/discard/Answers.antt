use Rattle.iox2_pubsub.specs.Live.{unwritten_key}
use Rattle.iox2_pubsub.proofs.DiscardedLoans.{discarded}
use Rattle.iox2_pubsub.proofs.LoanHandles.{loan-out}
use Rattle.iox2_pubsub.proofs.sample_mut_uninit.SampleMutUninit.discard.Goals as goal

pub discard_loan-requires-clause-live : goal.discard_loan-requires-clause-live
discard_loan-requires-clause-live g c = loan-out {T = g.row.T.Denot}
    {U = g.row.U.Denot} _ c.args.domain.now c.domain.view_is (unwritten_key c.args.self) c.requires.live

pub returns : goal.returns
returns g c = discarded {T = g.row.T.Denot} {U = g.row.U.Denot} c.domain.inside.state c.discard_loan.new.state
    c.domain.invariant c.args.domain.now c.domain.view_is
    (unwritten_key c.args.self) c.requires.live c.discard_loan.ensures
