use Rattle.std.proofs.Common.{[], ◌∷◌}
use Rattle.iox2_pubsub.proofs.FilledHandles.{was-filled}
use Rattle.iox2_pubsub.proofs.LoanHandles.{unwritten-out, write-shown}
use Rattle.iox2_pubsub.proofs.LoanReads.{single-inside}
use Rattle.iox2_pubsub.proofs.PlacedLoans.{unwritten-lies}
use Rattle.iox2_pubsub.proofs.sample_mut_uninit.SampleMutUninit.write_payload.Goals as goal

pub write_loan-requires : goal.write_loan-requires
write_loan-requires g c = let single = single-inside {T = g.row.T.Denot} {U = g.row.U.Denot} _ c.args.domain.now
    c.domain.view_is c.requires.single_valued in
    record {
      agrees = c.domain.invariant;
      fixed_size = single.0;
      single = single.1;
      lies = unwritten-lies {T = g.row.T.Denot} {U = g.row.U.Denot} c.domain.inside.state c.domain.invariant
          c.args.domain.now c.domain.view_is c.args.self c.requires.live;
      live = unwritten-out {T = g.row.T.Denot}
          {U = g.row.U.Denot} _ c.args.domain.now c.domain.view_is c.args.self c.requires.live;
    }

pub returns : goal.returns
returns g c = let it = was-filled {T = g.row.T.Denot} {U = g.row.U.Denot} c.domain.inside.state c.write_loan.new.state
    c.domain.invariant c.args.domain.now c.domain.view_is c.args.self c.requires.live
    (c.args.value ∷ []) c.write_loan.ensures.writes c.write_loan.result c.write_loan.ensures.same in
    record {
      written = write-shown {T = g.row.T.Denot} {U = g.row.U.Denot} c.domain.inside.state c.write_loan.new.state
          c.args.domain.now c.domain.view_is c.args.self.loan.number c.args.value c.write_loan.ensures.writes;
      reads = it.written;
      becomes = it.becomes;
    }
