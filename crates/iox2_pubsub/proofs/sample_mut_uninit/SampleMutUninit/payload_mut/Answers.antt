use Rattle.std.proofs.Common.{Option, [], ◌∷◌, refl, ap, subst, ◌∙◌}
use Rattle.iox2_domain.specs.Kept.{Kept, state_of}
use Rattle.iox2_domain.specs.LoanCalls.{HasCell, first_cell_changed}
use Rattle.iox2_domain.proofs.lemmas.loans.ChangedLoan.{one-cell}
use Rattle.iox2_domain.proofs.lemmas.loans.LentLoans.{cell-lent}
use Rattle.iox2_pubsub.specs.ChangedLoans.{with_cell_left}
use Rattle.iox2_pubsub.specs.Live.{unwritten_key}
use Rattle.iox2_pubsub.proofs.LiveParts.{unwritten-reads, single-parts}
use Rattle.iox2_pubsub.proofs.LoanHandles.{unwritten-out, loan-out}
use Rattle.iox2_pubsub.proofs.LentHandles.{cell-word, cell-there, cell-known, one-changed, was-lent}
use Rattle.iox2_pubsub.proofs.sample_mut_uninit.SampleMutUninit.payload_mut.Goals as goal

pub find_live_loan-at-requires-clause-live : goal.find_live_loan-at-requires-clause-live
find_live_loan-at-requires-clause-live g c =
    loan-out {T = g.row.T.Denot} {U = g.row.U.Denot} _ c.args.domain.now c.domain.view_is _ c.requires.live.live

pub cell_at_mut-requires : goal.cell_at_mut-requires
cell_at_mut-requires g c = cell-there {T = g.row.T.Denot} {U = g.row.U.Denot} c.domain.inside.state c.domain.invariant
    c.args.sample.now.loan.publisher c.args.sample.now.loan.number c.find_live_loan-at.result.book
    c.find_live_loan-at.result.slot c.find_live_loan-at.ensures
    (unwritten-out {T = g.row.T.Denot} {U = g.row.U.Denot} _ c.args.domain.now c.domain.view_is c.args.sample.now
    c.requires.live) (one-cell {T = g.row.T.Denot} {U = g.row.U.Denot} c.domain.inside.state c.domain.invariant
    c.args.sample.now.loan.publisher c.args.sample.now.loan.number c.find_live_loan-at.result.book
    c.find_live_loan-at.result.slot c.find_live_loan-at.ensures
    (ap (λ (k : Kept g.row.T.Denot g.row.U.Denot g.row.F.Denot g.row.G.Denot). (k.config).variant) c.domain.view_is
    ∙ (single-parts c.args.domain.now c.requires.single_valued).0)
    (ap (λ (k : Kept g.row.T.Denot g.row.U.Denot g.row.F.Denot g.row.G.Denot). (k.config).units_per_element)
    c.domain.view_is ∙ (single-parts c.args.domain.now c.requires.single_valued).1))

pub invariant_of-domain-lent : goal.invariant_of-domain-lent
invariant_of-domain-lent g c =
    λ w. (cell-lent {T = g.row.T.Denot} {U = g.row.U.Denot} c.domain.inside.state c.domain.invariant
    c.args.sample.now.loan.publisher c.args.sample.now.loan.number c.find_live_loan-at.result.book
    c.find_live_loan-at.result.slot c.find_live_loan-at.ensures
    (unwritten-out {T = g.row.T.Denot}
    {U = g.row.U.Denot} _ c.args.domain.now c.domain.view_is c.args.sample.now c.requires.live) w).agrees

pub returns : goal.returns
returns g c =
    let out = unwritten-out {T = g.row.T.Denot}
    {U = g.row.U.Denot} _ c.args.domain.now c.domain.view_is c.args.sample.now c.requires.live in
    let one = one-cell {T = g.row.T.Denot} {U = g.row.U.Denot} c.domain.inside.state c.domain.invariant
    c.args.sample.now.loan.publisher c.args.sample.now.loan.number c.find_live_loan-at.result.book
    c.find_live_loan-at.result.slot c.find_live_loan-at.ensures
    (ap (λ (k : Kept g.row.T.Denot g.row.U.Denot g.row.F.Denot g.row.G.Denot). (k.config).variant) c.domain.view_is
    ∙ (single-parts c.args.domain.now c.requires.single_valued).0)
    (ap (λ (k : Kept g.row.T.Denot g.row.U.Denot g.row.F.Denot g.row.G.Denot). (k.config).units_per_element)
    c.domain.view_is ∙ (single-parts c.args.domain.now c.requires.single_valued).1) in
    let known = cell-known {T = g.row.T.Denot} {U = g.row.U.Denot} c.domain.inside.state c.domain.invariant
    c.args.sample.now.loan.publisher c.args.sample.now.loan.number c.find_live_loan-at.result.book
    c.find_live_loan-at.result.slot c.find_live_loan-at.ensures out one _ c.cell_at_mut.ensures.value in
    let lent = λ (w : Option g.row.T.Denot). was-lent {T = g.row.T.Denot} {U = g.row.U.Denot} c.domain.inside.state _
    c.domain.invariant c.args.domain.now c.domain.view_is c.args.sample.now.loan.number
    (c.find_live_loan-at.ensures).loan (c.find_live_loan-at.ensures).is_out (first_cell_changed w)
    (cell-lent {T = g.row.T.Denot} {U = g.row.U.Denot} c.domain.inside.state c.domain.invariant
    c.args.sample.now.loan.publisher c.args.sample.now.loan.number c.find_live_loan-at.result.book
    c.find_live_loan-at.result.slot c.find_live_loan-at.ensures out w)
    (with_cell_left c.args.domain.now c.args.sample.now.loan.number w)
    (cell-word c.args.domain.now c.args.sample.now.loan.number w) in (
      (refl, λ w. (lent w).is),
      record {
        writes_back = tt;
        same = refl;
        payload = unwritten-reads c.args.domain.now c.args.sample.now c.cell_at_mut.result.now
            (subst (λ (k : Kept g.row.T.Denot g.row.U.Denot g.row.F.Denot g.row.G.Denot).
            HasCell (state_of k) c.args.sample.now.loan.number c.cell_at_mut.result.now) c.domain.view_is known);
        changes = λ m s w shown. (lent w).shown m s shown;
        out = λ w. (lent w).unwritten refl refl c.args.sample.now refl c.requires.live;
        live = λ never w. (lent w).unwritten_live refl refl c.args.sample.now refl c.requires.live never;
        reads = λ w. (lent w).cells (w ∷ []) (one-changed _ w one);
        header = λ w header. (lent w).same_header refl (unwritten_key c.args.sample.now) refl header;
        user_header = λ w header. (lent w).same_user_header refl (unwritten_key c.args.sample.now) refl header;
        leaves = λ w. (lent w).leaves;
      },
    )
