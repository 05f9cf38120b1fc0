use Rattle.std.proofs.Common.{List, ◌≡◌, false, refl, subst, sym, map, Some}
use Rattle.iox2_machine.specs.SingleValues.{is_single_valued}
use Rattle.iox2_domain.specs.Fields.{kept_of}
use Rattle.iox2_domain.specs.Kept.{Kept, state_of}
use Rattle.iox2_domain.specs.LoanCalls.{HasCells, cells_changed}
use Rattle.iox2_domain.proofs.lemmas.loans.LentLoans.{values-lent}
use Rattle.iox2_pubsub.specs.Live.{written_key}
use Rattle.iox2_pubsub.proofs.LoanHandles.{written-out, loan-out}
use Rattle.iox2_pubsub.proofs.SliceParts.{holds-parts, has-values}
use Rattle.iox2_pubsub.specs.ChangedLoans.{with_payloads}
use Rattle.iox2_pubsub.proofs.LentHandles.{payloads-word, values-there, values-known, values-left, was-lent}
use Rattle.iox2_pubsub.proofs.slice.sample_mut.SampleMut.payload_mut.Goals as goal

pub find_live_loan-at-requires-clause-live : goal.find_live_loan-at-requires-clause-live
find_live_loan-at-requires-clause-live g c =
    loan-out {T = g.row.T.Denot} {U = g.row.U.Denot} _ c.args.domain.now c.domain.view_is _ c.requires.live.live

pub values_at_mut-requires : goal.values_at_mut-requires
values_at_mut-requires g c = values-there {T = g.row.T.Denot} {U = g.row.U.Denot} c.domain.inside.state
    c.domain.invariant c.args.sample.now.sample.loan.publisher c.args.sample.now.sample.loan.number
    c.find_live_loan-at.result.book c.find_live_loan-at.result.slot c.find_live_loan-at.ensures
    (written-out {T = g.row.T.Denot} {U = g.row.U.Denot} _ c.args.domain.now c.domain.view_is c.args.sample.now.sample
    c.requires.live) (subst (λ (k : Kept g.row.T.Denot g.row.U.Denot g.row.F.Denot g.row.G.Denot).
    is_single_valued k.config ≡ false) (sym c.domain.view_is) (holds-parts c.args.domain.now c.requires.sliced))

pub invariant_of-domain-lent : goal.invariant_of-domain-lent
invariant_of-domain-lent g c =
    λ w. (values-lent {T = g.row.T.Denot} {U = g.row.U.Denot} c.domain.inside.state c.domain.invariant
    c.args.sample.now.sample.loan.publisher c.args.sample.now.sample.loan.number c.find_live_loan-at.result.book
    c.find_live_loan-at.result.slot c.find_live_loan-at.ensures
    (written-out {T = g.row.T.Denot}
    {U = g.row.U.Denot} _ c.args.domain.now c.domain.view_is c.args.sample.now.sample c.requires.live) w).agrees

pub returns : goal.returns
returns g c =
    let out = written-out {T = g.row.T.Denot}
    {U = g.row.U.Denot} _ c.args.domain.now c.domain.view_is c.args.sample.now.sample c.requires.live in
    let known = values-known {T = g.row.T.Denot} {U = g.row.U.Denot} c.domain.inside.state c.domain.invariant
    c.args.sample.now.sample.loan.publisher c.args.sample.now.sample.loan.number c.find_live_loan-at.result.book
    c.find_live_loan-at.result.slot c.find_live_loan-at.ensures out _ c.values_at_mut.ensures.value in
    let lent = λ (w : List g.row.T.Denot). was-lent {T = g.row.T.Denot} {U = g.row.U.Denot} c.domain.inside.state _
    c.domain.invariant c.args.domain.now c.domain.view_is c.args.sample.now.sample.loan.number
    (c.find_live_loan-at.ensures).loan (c.find_live_loan-at.ensures).is_out (cells_changed (map Some w))
    (values-lent {T = g.row.T.Denot} {U = g.row.U.Denot} c.domain.inside.state c.domain.invariant
    c.args.sample.now.sample.loan.publisher c.args.sample.now.sample.loan.number c.find_live_loan-at.result.book
    c.find_live_loan-at.result.slot c.find_live_loan-at.ensures out w)
    (with_payloads c.args.domain.now c.args.sample.now.sample.loan.number w)
    (payloads-word c.args.domain.now c.args.sample.now.sample.loan.number w) in (
      (refl, λ w. (lent w).is),
      record {
        writes_back = tt;
        same = refl;
        payload = has-values c.args.domain.now c.args.sample.now.sample.loan.number c.values_at_mut.result.now
            (subst (λ (k : Kept g.row.T.Denot g.row.U.Denot g.row.F.Denot g.row.G.Denot).
            HasCells (state_of k) c.args.sample.now.sample.loan.number (map Some c.values_at_mut.result.now))
            c.domain.view_is known);
        changes = λ m s w shown. (lent w).shown m s shown;
        out = λ w. (lent w).written refl refl c.args.sample.now.sample refl c.requires.live;
        live = λ never w. (lent w).written_live refl refl c.args.sample.now.sample refl c.requires.live never;
        reads = λ w same. (lent w).values w
            (values-left (state_of (kept_of c.domain.inside.state)) c.args.sample.now.sample.loan.number
            (c.find_live_loan-at.ensures).loan
            (c.find_live_loan-at.ensures).is_out c.values_at_mut.result.now w known same);
        header = λ w header. (lent w).same_header refl (written_key c.args.sample.now.sample) refl header;
        user_header = λ w header. (lent w).same_user_header refl (written_key c.args.sample.now.sample) refl header;
        leaves = λ w. (lent w).leaves;
      },
    )
