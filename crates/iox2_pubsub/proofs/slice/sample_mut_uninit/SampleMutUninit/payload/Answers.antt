use Rattle.iox2_pubsub.proofs.LoanHandles.{unwritten-out}
use Rattle.iox2_pubsub.proofs.LoanReads.{listed-inside, cells-read}
use Rattle.iox2_pubsub.proofs.PlacedLoans.{unwritten-lies}
use Rattle.iox2_pubsub.proofs.slice.sample_mut_uninit.SampleMutUninit.payload.Goals as goal

pub loan_cells-requires : goal.loan_cells-requires
loan_cells-requires g c = let sliced = listed-inside {T = g.row.T.Denot} {U = g.row.U.Denot} _ c.args.domain.now
    c.domain.view_is c.requires.sliced in
    record {
      agrees = c.domain.invariant;
      several = sliced.0;
      lists_cells = sliced.1;
      lies = unwritten-lies {T = g.row.T.Denot} {U = g.row.U.Denot} _ c.domain.invariant c.args.domain.now
          c.domain.view_is c.args.self.now.sample c.requires.live;
      live = unwritten-out {T = g.row.T.Denot}
          {U = g.row.U.Denot} _ c.args.domain.now c.domain.view_is c.args.self.now.sample c.requires.live;
    }

pub returns : goal.returns
returns g c = let it = cells-read {T = g.row.T.Denot} {U = g.row.U.Denot} _ c.args.domain.now c.domain.view_is
    c.args.self.now.sample.loan.number c.loan_cells.result.now c.loan_cells.ensures in
    record { reads = it.reads; same = it.same }
