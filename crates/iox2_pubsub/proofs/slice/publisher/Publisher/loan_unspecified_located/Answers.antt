use Rattle.std.proofs.Common.{rules, refl}
use Rattle.std.proofs.lemmas.Bool.{true≢false}
use Rattle.iox2_pubsub.specs.declared.slice.publisher.loan_located.LocatedLoan.{LocatedLoan}
use Rattle.iox2_pubsub.proofs.DefaultSlices.{any-values}
use Rattle.iox2_pubsub.proofs.LocatedLoans.{granted-out, granted-several, granted-sound, may-lend, starts, was-located}
use Rattle.iox2_pubsub.proofs.LocatedLoans.{was-refused}
use Rattle.iox2_pubsub.proofs.slice.publisher.Publisher.loan_unspecified_located.Goals as goal

pub loan-requires : goal.loan-requires
loan-requires g c = let it = may-lend {T = g.row.T.Denot} {U = g.row.U.Denot} c.args.slice_len c.domain.inside.state
    c.domain.invariant c.args.domain.now c.domain.view_is c.args.self.now.publisher c.requires.ready in
    record { agrees = c.domain.invariant; stands = it.0; unchecked = λ no. absurd (true≢false no); single = it.1 }

pub fill_unspecified-start-requires : goal.fill_unspecified-start-requires
fill_unspecified-start-requires g c =
    record {
      agrees = granted-sound {T = g.row.T.Denot} {U = g.row.U.Denot} g.U.Default.is_default c.args.slice_len
          c.domain.inside.state c.loan.new.state c.domain.invariant c.args.domain.now c.domain.view_is
          c.args.self.now.publisher c.requires.ready c.loan.result c.loan.ensures.reaches c.in-Ok.loan c.in-Ok.is
          c.in-Ok.ensures.named c.in-Ok.ensures.lies;
      several = granted-several {T = g.row.T.Denot} {U = g.row.U.Denot} g.U.Default.is_default c.args.slice_len
          c.domain.inside.state c.loan.new.state c.domain.invariant c.args.domain.now c.domain.view_is
          c.args.self.now.publisher c.requires.ready c.loan.result c.loan.ensures.reaches c.in-Ok.loan c.in-Ok.is
          c.in-Ok.ensures.named c.in-Ok.ensures.lies;
      live = granted-out {T = g.row.T.Denot} {U = g.row.U.Denot} g.U.Default.is_default c.args.slice_len
          c.domain.inside.state c.loan.new.state c.domain.invariant c.args.domain.now c.domain.view_is
          c.args.self.now.publisher c.requires.ready c.loan.result c.loan.ensures.reaches c.in-Ok.loan c.in-Ok.is
          c.in-Ok.ensures.named c.in-Ok.ensures.lies;
      lies = search rules;
    }

pub returns-in-Ok : goal.returns-in-Ok
returns-in-Ok g c = let it = was-located {T = g.row.T.Denot} {U = g.row.U.Denot} g.U.Default.is_default c.args.slice_len
    c.domain.inside.state c.loan.new.state c.domain.invariant c.args.domain.now c.domain.view_is
    c.args.self.now.publisher c.requires.ready c.loan.result c.loan.ensures.reaches c.in-Ok.loan c.in-Ok.is
    c.in-Ok.ensures.named c.in-Ok.ensures.lies c.fill_unspecified-start.new.state c.fill_unspecified-start.ensures.0
    c.fill_unspecified-start.ensures.1 _ c.located.ensures.handle (LocatedLoan g.row.T.Denot) c.located.result
    (λ (value : g.row.T.Denot). Unit {0}) (any-values c.fill_unspecified-start.ensures.0) in
    record {
      lends = it.lends;
      granted = λ loans numbers left numbered short. refl;
      loan = it.loan;
      reads = (c.fill_unspecified-start.ensures.0, it.size, it.reads);
      start = starts _ _ _ _ c.located.ensures.start c.fill_unspecified-start.ensures.2 it.size;
      refused = tt;
      leaves = it.leaves;
    }

pub returns-in-Err : goal.returns-in-Err
returns-in-Err g c = let it = was-refused {T = g.row.T.Denot} {U = g.row.U.Denot} g.U.Default.is_default
    c.args.slice_len c.domain.inside.state c.loan.new.state c.domain.invariant c.args.domain.now c.domain.view_is
    c.args.self.now.publisher c.requires.ready c.loan.result c.loan.ensures.reaches c.in-Err.error c.in-Err.is
    (LocatedLoan g.row.T.Denot) (λ (value : g.row.T.Denot). Unit {0}) in
    record {
      lends = it.lends;
      granted = λ loans numbers left numbered short.
          absurd (it.none loans numbers left numbered short);
      loan = tt;
      reads = tt;
      start = tt;
      refused = it.refused;
      leaves = it.leaves;
    }
