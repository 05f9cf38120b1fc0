use Rattle.iox2_pubsub.proofs.LoanHandles.{unwritten-out}
use Rattle.iox2_pubsub.proofs.LoanReads.{single-inside, cell-read}
use Rattle.iox2_pubsub.proofs.PlacedLoans.{unwritten-lies}
use Rattle.iox2_pubsub.proofs.sample_mut_uninit.SampleMutUninit.payload.Goals as goal

pub loan_cell-requires : goal.loan_cell-requires
loan_cell-requires g c = let single = single-inside {T = g.row.T.Denot} {U = g.row.U.Denot} _ c.args.domain.now
    c.domain.view_is c.requires.single_valued in
    record {
      agrees = c.domain.invariant;
      fixed_size = single.0;
      single = single.1;
      lies = unwritten-lies {T = g.row.T.Denot}
          {U = g.row.U.Denot} _ c.domain.invariant c.args.domain.now c.domain.view_is c.args.self.now c.requires.live;
      live = unwritten-out {T = g.row.T.Denot}
          {U = g.row.U.Denot} _ c.args.domain.now c.domain.view_is c.args.self.now c.requires.live;
    }

pub returns : goal.returns
returns g c = let it = cell-read {T = g.row.T.Denot} {U = g.row.U.Denot} _ c.args.domain.now c.domain.view_is
    c.args.self.now c.loan_cell.result.now c.loan_cell.ensures in
    record { cell = it.shown; reads = it.reads; same = it.same }
