use Rattle.iox2_pubsub.proofs.LoanHandles.{written-out}
use Rattle.iox2_pubsub.proofs.LoanReads.{single-inside, value-read}
use Rattle.iox2_pubsub.proofs.PlacedLoans.{written-lies}
use Rattle.iox2_pubsub.proofs.sample_mut.SampleMut.payload.Goals as goal

pub loan_value-requires : goal.loan_value-requires
loan_value-requires g c = let single = single-inside {T = g.row.T.Denot} {U = g.row.U.Denot} _ c.args.domain.now
    c.domain.view_is c.requires.single_valued in
    record {
      agrees = c.domain.invariant;
      fixed_size = single.0;
      single = single.1;
      lies = written-lies {T = g.row.T.Denot}
          {U = g.row.U.Denot} _ c.domain.invariant c.args.domain.now c.domain.view_is c.args.self.now c.requires.live;
      live = written-out {T = g.row.T.Denot}
          {U = g.row.U.Denot} _ c.args.domain.now c.domain.view_is c.args.self.now c.requires.live;
    }

pub returns : goal.returns
returns g c = let it = value-read {T = g.row.T.Denot} {U = g.row.U.Denot} _ c.args.domain.now c.domain.view_is
    c.args.self.now c.loan_value.result.now c.loan_value.ensures in
    record { cell = it.shown; reads = it.reads; same = it.same }
