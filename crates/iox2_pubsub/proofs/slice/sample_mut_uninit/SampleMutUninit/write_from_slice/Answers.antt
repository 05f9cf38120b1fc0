use Rattle.std.proofs.Common.{refl, subst}
use Rattle.iox2_domain.specs.Kept.{Kept, state_of}
use Rattle.iox2_domain.specs.LoanCalls.{HasCells}
use Rattle.iox2_pubsub.proofs.FilledHandles.{was-filled}
use Rattle.iox2_pubsub.proofs.LoanHandles.{unwritten-out}
use Rattle.iox2_pubsub.proofs.LoanReads.{several-inside}
use Rattle.iox2_pubsub.proofs.SliceParts.{has-cells}
use Rattle.iox2_pubsub.proofs.PlacedLoans.{unwritten-lies}
use Rattle.iox2_pubsub.proofs.slice.sample_mut_uninit.SampleMutUninit.write_from_slice.Goals as goal

pub write_loan_from_slice-loan-requires : goal.write_loan_from_slice-loan-requires
write_loan_from_slice-loan-requires g c =
    record {
      agrees = c.domain.invariant;
      several = several-inside {T = g.row.T.Denot}
          {U = g.row.U.Denot} _ c.args.domain.now c.domain.view_is c.requires.sliced;
      lies = unwritten-lies {T = g.row.T.Denot} {U = g.row.U.Denot} c.domain.inside.state c.domain.invariant
          c.args.domain.now c.domain.view_is c.args.self.sample c.requires.live;
      live = unwritten-out {T = g.row.T.Denot}
          {U = g.row.U.Denot} _ c.args.domain.now c.domain.view_is c.args.self.sample c.requires.live;
      lengths = λ l found. c.requires.lengths l.cells
          (has-cells c.args.domain.now c.args.self.sample.loan.number l.cells
          (subst (λ (k : Kept g.row.T.Denot g.row.U.Denot g.row.F.Denot g.row.G.Denot).
          HasCells (state_of k) c.args.self.sample.loan.number l.cells) c.domain.view_is (l, found, refl)));
    }

pub returns : goal.returns
returns g c = let it = was-filled {T = g.row.T.Denot} {U = g.row.U.Denot} c.domain.inside.state
    c.write_loan_from_slice-loan.new.state c.domain.invariant c.args.domain.now c.domain.view_is c.args.self.sample
    c.requires.live c.args.values.now c.write_loan_from_slice-loan.ensures.writes c.write_loan_from_slice-loan.result
    c.write_loan_from_slice-loan.ensures.same in
    rw c.written.ensures (record { step = it.shown; written = it.written; becomes = it.becomes })
