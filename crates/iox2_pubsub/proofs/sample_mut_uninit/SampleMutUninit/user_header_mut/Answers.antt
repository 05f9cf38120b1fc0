use Rattle.std.proofs.Common.{refl, subst}
use Rattle.iox2_domain.specs.Kept.{Kept, state_of}
use Rattle.iox2_domain.specs.LoanCalls.{HasLoanUserHeader, user_header_changed}
use Rattle.iox2_domain.proofs.lemmas.loans.LentLoans.{header-lent}
use Rattle.iox2_pubsub.specs.ChangedLoans.{with_user_header_left}
use Rattle.iox2_pubsub.specs.Live.{unwritten_key}
use Rattle.iox2_pubsub.proofs.LiveParts.{loan-user-header}
use Rattle.iox2_pubsub.proofs.LoanHandles.{loan-out}
use Rattle.iox2_pubsub.proofs.LentHandles.{user_header-word, header-there, header-known, was-lent}
use Rattle.iox2_pubsub.proofs.sample_mut_uninit.SampleMutUninit.user_header_mut.Goals as goal

pub find_live_loan-at-requires-clause-live : goal.find_live_loan-at-requires-clause-live
find_live_loan-at-requires-clause-live g c =
    loan-out {T = g.row.T.Denot} {U = g.row.U.Denot} _ c.args.domain.now c.domain.view_is _ c.requires.live.live

pub user_header_at_mut-requires : goal.user_header_at_mut-requires
user_header_at_mut-requires g c = header-there {T = g.row.T.Denot} {U = g.row.U.Denot} c.domain.inside.state
    c.domain.invariant c.args.sample.now.loan.publisher c.args.sample.now.loan.number c.find_live_loan-at.result.book
    c.find_live_loan-at.result.slot c.find_live_loan-at.ensures

pub invariant_of-domain-lent : goal.invariant_of-domain-lent
invariant_of-domain-lent g c =
    λ w. (header-lent {T = g.row.T.Denot} {U = g.row.U.Denot} c.domain.inside.state c.domain.invariant
    c.args.sample.now.loan.publisher c.args.sample.now.loan.number c.find_live_loan-at.result.book
    c.find_live_loan-at.result.slot c.find_live_loan-at.ensures w).agrees

pub returns : goal.returns
returns g c =
    let known = header-known {T = g.row.T.Denot} {U = g.row.U.Denot} c.domain.inside.state c.domain.invariant
    c.args.sample.now.loan.publisher c.args.sample.now.loan.number c.find_live_loan-at.result.book
    c.find_live_loan-at.result.slot c.find_live_loan-at.ensures _ c.user_header_at_mut.ensures.value in
    let lent = λ (w : g.row.U.Denot). was-lent {T = g.row.T.Denot} {U = g.row.U.Denot} c.domain.inside.state _
    c.domain.invariant c.args.domain.now c.domain.view_is c.args.sample.now.loan.number
    (c.find_live_loan-at.ensures).loan (c.find_live_loan-at.ensures).is_out (user_header_changed w)
    (header-lent {T = g.row.T.Denot} {U = g.row.U.Denot} c.domain.inside.state c.domain.invariant
    c.args.sample.now.loan.publisher c.args.sample.now.loan.number c.find_live_loan-at.result.book
    c.find_live_loan-at.result.slot c.find_live_loan-at.ensures w)
    (with_user_header_left c.args.domain.now c.args.sample.now.loan.number w)
    (user_header-word c.args.domain.now c.args.sample.now.loan.number w) in (
      (refl, λ w. (lent w).is),
      record {
        writes_back = tt;
        same = refl;
        user_header = loan-user-header c.args.domain.now (unwritten_key c.args.sample.now)
            c.user_header_at_mut.result.now
            (subst (λ (k : Kept g.row.T.Denot g.row.U.Denot g.row.F.Denot g.row.G.Denot).
            HasLoanUserHeader (state_of k) c.args.sample.now.loan.number c.user_header_at_mut.result.now)
            c.domain.view_is known);
        changes = λ m s w shown. (lent w).shown m s shown;
        out = λ w. (lent w).unwritten refl refl c.args.sample.now refl c.requires.live;
        live = λ never w. (lent w).unwritten_live refl refl c.args.sample.now refl c.requires.live never;
        is = λ w. (lent w).user_header (unwritten_key c.args.sample.now) w refl refl;
        reads = λ w. (lent w).same_cells refl;
        header = λ w header. (lent w).same_header refl (unwritten_key c.args.sample.now) refl header;
        leaves = λ w. (lent w).leaves;
      },
    )
