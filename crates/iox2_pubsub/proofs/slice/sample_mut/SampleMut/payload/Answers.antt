use Rattle.iox2_pubsub.proofs.LoanHandles.{written-out}
use Rattle.iox2_pubsub.proofs.LoanReads.{several-inside, values-read}
use Rattle.iox2_pubsub.proofs.PlacedLoans.{written-lies}
use Rattle.iox2_pubsub.proofs.slice.sample_mut.SampleMut.payload.Goals as goal

pub loan_values-requires : goal.loan_values-requires
loan_values-requires g c = let sliced = several-inside {T = g.row.T.Denot} {U = g.row.U.Denot} _ c.args.domain.now
    c.domain.view_is c.requires.sliced in
    record {
      agrees = c.domain.invariant;
      several = sliced;
      lies = written-lies {T = g.row.T.Denot}
          {U = g.row.U.Denot} _ c.domain.invariant c.args.domain.now c.domain.view_is c.args.self.now.sample
          c.requires.live;
      live = written-out {T = g.row.T.Denot}
          {U = g.row.U.Denot} _ c.args.domain.now c.domain.view_is c.args.self.now.sample c.requires.live;
    }

pub returns : goal.returns
returns g c = let it = values-read {T = g.row.T.Denot} {U = g.row.U.Denot} _ c.args.domain.now c.domain.view_is
    c.args.self.now.sample.loan.number c.loan_values.result.now c.loan_values.ensures in
    record { reads = it.reads; same = it.same }
