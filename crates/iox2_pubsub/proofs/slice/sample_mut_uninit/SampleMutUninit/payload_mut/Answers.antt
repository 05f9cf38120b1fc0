use Rattle.std.proofs.Common.{List, Option, ◌≡◌, true, false, refl, subst, sym}
use Rattle.iox2_machine.specs.SingleValues.{is_single_valued}
use Rattle.iox2_domain.specs.Fields.{kept_of}
use Rattle.iox2_domain.specs.Kept.{Kept, state_of}
use Rattle.iox2_domain.specs.LoanCalls.{HasCells, cells_changed}
use Rattle.iox2_domain.proofs.lemmas.loans.LentLoans.{cells-lent}
use Rattle.iox2_pubsub.specs.Live.{unwritten_key}
use Rattle.iox2_pubsub.proofs.LoanHandles.{unwritten-out, loan-out}
use Rattle.iox2_pubsub.proofs.SliceParts.{holds-parts, has-cells}
use Rattle.iox2_pubsub.specs.ChangedLoans.{with_cells_left}
use Rattle.iox2_pubsub.proofs.LentHandles.{cells-word, cells-there, cells-known, cells-left, was-lent}
use Rattle.iox2_pubsub.proofs.slice.sample_mut_uninit.SampleMutUninit.payload_mut.Goals as goal

pub find_live_loan-at-requires-clause-live : goal.find_live_loan-at-requires-clause-live
find_live_loan-at-requires-clause-live g c =
    loan-out {T = g.row.T.Denot} {U = g.row.U.Denot} _ c.args.domain.now c.domain.view_is _ c.requires.live.live

pub cells_at_mut-requires : goal.cells_at_mut-requires
cells_at_mut-requires g c = cells-there {T = g.row.T.Denot} {U = g.row.U.Denot} c.domain.inside.state c.domain.invariant
    c.args.sample.now.sample.loan.publisher c.args.sample.now.sample.loan.number c.find_live_loan-at.result.book
    c.find_live_loan-at.result.slot c.find_live_loan-at.ensures
    (unwritten-out {T = g.row.T.Denot} {U = g.row.U.Denot} _ c.args.domain.now c.domain.view_is c.args.sample.now.sample
    c.requires.live) (subst (λ (k : Kept g.row.T.Denot g.row.U.Denot g.row.F.Denot g.row.G.Denot).
    is_single_valued k.config ≡ false) (sym c.domain.view_is) (holds-parts c.args.domain.now c.requires.sliced.holds))
    (subst (λ (k : Kept g.row.T.Denot g.row.U.Denot g.row.F.Denot g.row.G.Denot). (k.config).lists_cells ≡ true)
    (sym c.domain.view_is) c.requires.sliced.lists_cells)

pub invariant_of-domain-lent : goal.invariant_of-domain-lent
invariant_of-domain-lent g c =
    λ w. (cells-lent {T = g.row.T.Denot} {U = g.row.U.Denot} c.domain.inside.state c.domain.invariant
    c.args.sample.now.sample.loan.publisher c.args.sample.now.sample.loan.number c.find_live_loan-at.result.book
    c.find_live_loan-at.result.slot c.find_live_loan-at.ensures
    (unwritten-out {T = g.row.T.Denot}
    {U = g.row.U.Denot} _ c.args.domain.now c.domain.view_is c.args.sample.now.sample c.requires.live) w).agrees

pub returns : goal.returns
returns g c =
    let out = unwritten-out {T = g.row.T.Denot}
    {U = g.row.U.Denot} _ c.args.domain.now c.domain.view_is c.args.sample.now.sample c.requires.live in
    let known = cells-known {T = g.row.T.Denot} {U = g.row.U.Denot} c.domain.inside.state c.domain.invariant
    c.args.sample.now.sample.loan.publisher c.args.sample.now.sample.loan.number c.find_live_loan-at.result.book
    c.find_live_loan-at.result.slot c.find_live_loan-at.ensures out _ c.cells_at_mut.ensures.value in
    let lent = λ (w : List (Option g.row.T.Denot)). was-lent {T = g.row.T.Denot}
    {U = g.row.U.Denot} c.domain.inside.state _ c.domain.invariant c.args.domain.now c.domain.view_is
    c.args.sample.now.sample.loan.number (c.find_live_loan-at.ensures).loan (c.find_live_loan-at.ensures).is_out
    (cells_changed w) (cells-lent {T = g.row.T.Denot} {U = g.row.U.Denot} c.domain.inside.state c.domain.invariant
    c.args.sample.now.sample.loan.publisher c.args.sample.now.sample.loan.number c.find_live_loan-at.result.book
    c.find_live_loan-at.result.slot c.find_live_loan-at.ensures out w)
    (with_cells_left c.args.domain.now c.args.sample.now.sample.loan.number w)
    (cells-word c.args.domain.now c.args.sample.now.sample.loan.number w) in (
      (refl, λ w. (lent w).is),
      record {
        writes_back = tt;
        same = refl;
        payload = has-cells c.args.domain.now c.args.sample.now.sample.loan.number c.cells_at_mut.result.now
            (subst (λ (k : Kept g.row.T.Denot g.row.U.Denot g.row.F.Denot g.row.G.Denot).
            HasCells (state_of k) c.args.sample.now.sample.loan.number c.cells_at_mut.result.now) c.domain.view_is
            known);
        changes = λ m s w shown. (lent w).shown m s shown;
        out = λ w. (lent w).unwritten refl refl c.args.sample.now.sample refl c.requires.live;
        live = λ never w. (lent w).unwritten_live refl refl c.args.sample.now.sample refl c.requires.live never;
        reads = λ w same. (lent w).cells w
            (cells-left (state_of (kept_of c.domain.inside.state)) c.args.sample.now.sample.loan.number
            (c.find_live_loan-at.ensures).loan
            (c.find_live_loan-at.ensures).is_out c.cells_at_mut.result.now w known same);
        header = λ w header. (lent w).same_header refl (unwritten_key c.args.sample.now.sample) refl header;
        user_header = λ w header. (lent w).same_user_header refl (unwritten_key c.args.sample.now.sample) refl header;
        leaves = λ w. (lent w).leaves;
      },
    )
