use Rattle.iox2_pubsub.proofs.FilledHandles.{was-filled}
use Rattle.iox2_pubsub.proofs.LoanHandles.{unwritten-out}
use Rattle.iox2_pubsub.proofs.LoanReads.{several-inside}
use Rattle.iox2_pubsub.proofs.PlacedLoans.{unwritten-lies}
use Rattle.iox2_pubsub.proofs.slice.sample_mut_uninit.SampleMutUninit.write_from_fn.Goals as goal

pub write_loan_from_fn-loan-requires : goal.write_loan_from_fn-loan-requires
write_loan_from_fn-loan-requires g c =
    record {
      agrees = c.domain.invariant;
      several = several-inside {T = g.row.T.Denot}
          {U = g.row.U.Denot} _ c.args.domain.now c.domain.view_is c.requires.sliced;
      lies = unwritten-lies {T = g.row.T.Denot} {U = g.row.U.Denot} c.domain.inside.state c.domain.invariant
          c.args.domain.now c.domain.view_is c.args.self.sample c.requires.live;
      live = unwritten-out {T = g.row.T.Denot}
          {U = g.row.U.Denot} _ c.args.domain.now c.domain.view_is c.args.self.sample c.requires.live;
      callable = c.requires.callable;
    }

pub returns : goal.returns
returns g c = let it = was-filled {T = g.row.T.Denot} {U = g.row.U.Denot} c.domain.inside.state
    c.write_loan_from_fn-loan.new.state c.domain.invariant c.args.domain.now c.domain.view_is c.args.self.sample
    c.requires.live c.write_loan_from_fn-loan.ensures.writes.0 c.write_loan_from_fn-loan.ensures.writes.2
    c.write_loan_from_fn-loan.result c.write_loan_from_fn-loan.ensures.same in
    rw c.written.ensures
    (record {
      written = (
        c.write_loan_from_fn-loan.ensures.writes.0,
        c.write_loan_from_fn-loan.ensures.writes.1,
        it.written,
        it.shown,
      );
      becomes = it.becomes;
    })
