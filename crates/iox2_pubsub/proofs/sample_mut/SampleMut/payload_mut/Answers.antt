use Rattle.std.proofs.Common.{[], ◌∷◌, Some, refl, ap, subst, ◌∙◌}
use Rattle.iox2_domain.specs.Kept.{Kept, state_of}
use Rattle.iox2_domain.specs.LoanCalls.{HasCell, first_cell_changed}
use Rattle.iox2_domain.proofs.lemmas.loans.ChangedLoan.{one-cell}
use Rattle.iox2_domain.proofs.lemmas.loans.LentLoans.{value-lent}
use Rattle.iox2_pubsub.specs.ChangedLoans.{with_payload}
use Rattle.iox2_pubsub.specs.Live.{written_key}
use Rattle.iox2_pubsub.proofs.LiveParts.{loan-reads, single-parts}
use Rattle.iox2_pubsub.proofs.LoanHandles.{written-out, loan-out}
use Rattle.iox2_pubsub.proofs.LentHandles.{payload-word, value-there, value-known, one-changed, was-lent}
use Rattle.iox2_pubsub.proofs.sample_mut.SampleMut.payload_mut.Goals as goal

pub find_live_loan-at-requires-clause-live : goal.find_live_loan-at-requires-clause-live
find_live_loan-at-requires-clause-live g c =
    loan-out {T = g.row.T.Denot} {U = g.row.U.Denot} _ c.args.domain.now c.domain.view_is _ c.requires.live.live

pub value_at_mut-requires : goal.value_at_mut-requires
value_at_mut-requires g c = value-there {T = g.row.T.Denot} {U = g.row.U.Denot} c.domain.inside.state c.domain.invariant
    c.args.sample.now.loan.publisher c.args.sample.now.loan.number c.find_live_loan-at.result.book
    c.find_live_loan-at.result.slot c.find_live_loan-at.ensures
    (written-out {T = g.row.T.Denot} {U = g.row.U.Denot} _ c.args.domain.now c.domain.view_is c.args.sample.now
    c.requires.live) (one-cell {T = g.row.T.Denot} {U = g.row.U.Denot} c.domain.inside.state c.domain.invariant
    c.args.sample.now.loan.publisher c.args.sample.now.loan.number c.find_live_loan-at.result.book
    c.find_live_loan-at.result.slot c.find_live_loan-at.ensures
    (ap (λ (k : Kept g.row.T.Denot g.row.U.Denot g.row.F.Denot g.row.G.Denot). (k.config).variant) c.domain.view_is
    ∙ (single-parts c.args.domain.now c.requires.single_valued).0)
    (ap (λ (k : Kept g.row.T.Denot g.row.U.Denot g.row.F.Denot g.row.G.Denot). (k.config).units_per_element)
    c.domain.view_is ∙ (single-parts c.args.domain.now c.requires.single_valued).1))

pub invariant_of-domain-lent : goal.invariant_of-domain-lent
invariant_of-domain-lent g c =
    λ w. (value-lent {T = g.row.T.Denot} {U = g.row.U.Denot} c.domain.inside.state c.domain.invariant
    c.args.sample.now.loan.publisher c.args.sample.now.loan.number c.find_live_loan-at.result.book
    c.find_live_loan-at.result.slot c.find_live_loan-at.ensures
    (written-out {T = g.row.T.Denot}
    {U = g.row.U.Denot} _ c.args.domain.now c.domain.view_is c.args.sample.now c.requires.live) w).agrees

pub returns : goal.returns
returns g c =
    let out = written-out {T = g.row.T.Denot}
    {U = g.row.U.Denot} _ c.args.domain.now c.domain.view_is c.args.sample.now c.requires.live in
    let one = one-cell {T = g.row.T.Denot} {U = g.row.U.Denot} c.domain.inside.state c.domain.invariant
    c.args.sample.now.loan.publisher c.args.sample.now.loan.number c.find_live_loan-at.result.book
    c.find_live_loan-at.result.slot c.find_live_loan-at.ensures
    (ap (λ (k : Kept g.row.T.Denot g.row.U.Denot g.row.F.Denot g.row.G.Denot). (k.config).variant) c.domain.view_is
    ∙ (single-parts c.args.domain.now c.requires.single_valued).0)
    (ap (λ (k : Kept g.row.T.Denot g.row.U.Denot g.row.F.Denot g.row.G.Denot). (k.config).units_per_element)
    c.domain.view_is ∙ (single-parts c.args.domain.now c.requires.single_valued).1) in
    let known = value-known {T = g.row.T.Denot} {U = g.row.U.Denot} c.domain.inside.state c.domain.invariant
    c.args.sample.now.loan.publisher c.args.sample.now.loan.number c.find_live_loan-at.result.book
    c.find_live_loan-at.result.slot c.find_live_loan-at.ensures out one _ c.value_at_mut.ensures.value in
    let lent = λ (w : g.row.T.Denot). was-lent {T = g.row.T.Denot} {U = g.row.U.Denot} c.domain.inside.state _
    c.domain.invariant c.args.domain.now c.domain.view_is c.args.sample.now.loan.number
    (c.find_live_loan-at.ensures).loan (c.find_live_loan-at.ensures).is_out (first_cell_changed (Some w))
    (value-lent {T = g.row.T.Denot} {U = g.row.U.Denot} c.domain.inside.state c.domain.invariant
    c.args.sample.now.loan.publisher c.args.sample.now.loan.number c.find_live_loan-at.result.book
    c.find_live_loan-at.result.slot c.find_live_loan-at.ensures out w)
    (with_payload c.args.domain.now c.args.sample.now.loan.number w)
    (payload-word c.args.domain.now c.args.sample.now.loan.number w) in (
      (refl, λ w. (lent w).is),
      record {
        writes_back = tt;
        same = refl;
        payload = loan-reads c.args.domain.now c.args.sample.now c.value_at_mut.result.now
            (subst (λ (k : Kept g.row.T.Denot g.row.U.Denot g.row.F.Denot g.row.G.Denot).
            HasCell (state_of k) c.args.sample.now.loan.number (Some c.value_at_mut.result.now)) c.domain.view_is
            known);
        changes = λ m s w shown. (lent w).shown m s shown;
        out = λ w. (lent w).written refl refl c.args.sample.now refl c.requires.live;
        live = λ never w. (lent w).written_live refl refl c.args.sample.now refl c.requires.live never;
        reads = λ w. (lent w).values (w ∷ []) (one-changed _ (Some w) one);
        header = λ w header. (lent w).same_header refl (written_key c.args.sample.now) refl header;
        user_header = λ w header. (lent w).same_user_header refl (written_key c.args.sample.now) refl header;
        leaves = λ w. (lent w).leaves;
      },
    )
