use Rattle.std.proofs.Common.{refl, sym, ◌∙◌}
use Rattle.std.proofs.lemmas.Bool.{true≢false}
use Rattle.iox2_pubsub.proofs.LoanHandles.{unwritten-out}
use Rattle.iox2_pubsub.proofs.AssumedLoans.{all-taken, some-left, taken-values, taken-becomes, left-leaves}
use Rattle.iox2_pubsub.proofs.AssumedLoans.{written-taken, unwritten-left, taken-shown, taken-reads, left-same}
use Rattle.iox2_pubsub.proofs.AssumedLoans.{left-shown, left-stays, left-loans, left-borrows}
use Rattle.iox2_pubsub.proofs.WaitingShown.{waiting-same}
use Rattle.iox2_pubsub.proofs.PlacedLoans.{unwritten-lies}
use Rattle.iox2_pubsub.proofs.sample_mut_uninit.SampleMutUninit.assume_init.Goals as goal

pub assume_loan-requires-clause-lies : goal.assume_loan-requires-clause-lies
assume_loan-requires-clause-lies g c = unwritten-lies {T = g.row.T.Denot}
    {U = g.row.U.Denot} _ c.domain.invariant c.args.domain.now c.domain.view_is c.args.self c.requires.live

pub assume_loan-requires-clause-live : goal.assume_loan-requires-clause-live
assume_loan-requires-clause-live g c = unwritten-out {T = g.row.T.Denot}
    {U = g.row.U.Denot} _ c.args.domain.now c.domain.view_is c.args.self c.requires.live

pub returns-then-not-assume_loan : goal.returns-then-not-assume_loan
returns-then-not-assume_loan g c = record {
  step = λ m s shown. let it = left-shown {T = g.row.T.Denot} {U = g.row.U.Denot} c.domain.inside.state
      c.assume_loan.new.state c.domain.invariant c.args.domain.now c.domain.view_is c.args.self.loan.number
      c.assume_loan.result c.assume_loan.ensures c.if-not-assume_loan.true m s shown in (it.0, it.1, (it.2, it.3));
  becomes = tt;
  reads = λ value reads.
      absurd
      (true≢false
      (sym (written-taken {T = g.row.T.Denot} {U = g.row.U.Denot} c.domain.inside.state c.assume_loan.new.state
      c.domain.invariant c.args.domain.now c.domain.view_is c.args.self.loan.number c.assume_loan.result
      c.assume_loan.ensures c.args.self value refl reads) ∙ c.if-not-assume_loan.true));
  refused = λ reads. refl;
  all_read = λ values has.
      absurd
      (true≢false
      (sym (all-taken {T = g.row.T.Denot} {U = g.row.U.Denot} c.domain.inside.state c.assume_loan.new.state
      c.domain.invariant c.args.domain.now c.domain.view_is c.args.self.loan.number c.assume_loan.result
      c.assume_loan.ensures values has) ∙ c.if-not-assume_loan.true));
  some_unwritten = λ cells has some. refl;
  handed_back = (
    refl,
    left-same {T = g.row.T.Denot} {U = g.row.U.Denot} c.domain.inside.state c.assume_loan.new.state
        c.domain.invariant c.args.domain.now c.domain.view_is c.args.self.loan.number c.assume_loan.result
        c.assume_loan.ensures c.if-not-assume_loan.true,
  );
  leaves = record {
    stays = left-stays {T = g.row.T.Denot} {U = g.row.U.Denot} c.domain.inside.state c.assume_loan.new.state
        c.domain.invariant c.args.domain.now c.domain.view_is c.args.self.loan.number c.assume_loan.result
        c.assume_loan.ensures c.if-not-assume_loan.true;
    waits = waiting-same c.args.domain.now _
        (left-same {T = g.row.T.Denot} {U = g.row.U.Denot} c.domain.inside.state c.assume_loan.new.state
        c.domain.invariant c.args.domain.now c.domain.view_is c.args.self.loan.number c.assume_loan.result
        c.assume_loan.ensures c.if-not-assume_loan.true);
    up_to_date = left-leaves {T = g.row.T.Denot} {U = g.row.U.Denot} c.domain.inside.state c.assume_loan.new.state
        c.domain.invariant c.args.domain.now c.domain.view_is c.args.self.loan.number c.assume_loan.result
        c.assume_loan.ensures c.if-not-assume_loan.true;
    loans_left = left-loans {T = g.row.T.Denot} {U = g.row.U.Denot} c.domain.inside.state c.assume_loan.new.state
        c.domain.invariant c.args.domain.now c.domain.view_is c.args.self.loan.number c.assume_loan.result
        c.assume_loan.ensures c.if-not-assume_loan.true;
    borrows_left = left-borrows {T = g.row.T.Denot} {U = g.row.U.Denot} c.domain.inside.state c.assume_loan.new.state
        c.domain.invariant c.args.domain.now c.domain.view_is c.args.self.loan.number c.assume_loan.result
        c.assume_loan.ensures c.if-not-assume_loan.true;
  };
}

pub returns : goal.returns
returns g c = record {
  step = λ m s shown. let it = taken-shown {T = g.row.T.Denot} {U = g.row.U.Denot} c.domain.inside.state
      c.assume_loan.new.state c.domain.invariant c.args.domain.now c.domain.view_is c.args.self.loan.number
      c.assume_loan.result c.assume_loan.ensures c.if-not-assume_loan.false m s shown in (it.0, it.1, (it.2, it.3));
  becomes = taken-becomes {T = g.row.T.Denot} {U = g.row.U.Denot} c.domain.inside.state c.assume_loan.new.state
      c.domain.invariant c.args.domain.now c.domain.view_is c.args.self.loan.number c.assume_loan.result
      c.assume_loan.ensures c.if-not-assume_loan.false c.args.self refl c.requires.live;
  reads = λ value reads. taken-reads {T = g.row.T.Denot} {U = g.row.U.Denot} c.domain.inside.state
      c.assume_loan.new.state c.domain.invariant c.args.domain.now c.domain.view_is c.args.self.loan.number
      c.assume_loan.result c.assume_loan.ensures c.if-not-assume_loan.false c.args.self value refl reads;
  refused =
      λ reads.
      absurd (true≢false (sym c.if-not-assume_loan.false ∙ unwritten-left {T = g.row.T.Denot}
      {U = g.row.U.Denot} c.domain.inside.state c.assume_loan.new.state c.domain.invariant c.args.domain.now
      c.domain.view_is c.args.self.loan.number c.assume_loan.result c.assume_loan.ensures c.args.self refl reads));
  all_read = λ values has. taken-values {T = g.row.T.Denot} {U = g.row.U.Denot} c.domain.inside.state
      c.assume_loan.new.state c.domain.invariant c.args.domain.now c.domain.view_is c.args.self.loan.number
      c.assume_loan.result c.assume_loan.ensures c.if-not-assume_loan.false c.args.self.loan.number values refl has;
  some_unwritten = λ cells has some.
      absurd (true≢false (sym c.if-not-assume_loan.false ∙ some-left {T = g.row.T.Denot}
      {U = g.row.U.Denot} c.domain.inside.state c.assume_loan.new.state c.domain.invariant c.args.domain.now
      c.domain.view_is c.args.self.loan.number c.assume_loan.result c.assume_loan.ensures cells some has));
  handed_back = refl;
  leaves = (taken-becomes {T = g.row.T.Denot} {U = g.row.U.Denot} c.domain.inside.state c.assume_loan.new.state
      c.domain.invariant c.args.domain.now c.domain.view_is c.args.self.loan.number c.assume_loan.result
      c.assume_loan.ensures c.if-not-assume_loan.false c.args.self refl c.requires.live).leaves;
}
