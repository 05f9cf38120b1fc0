use Rattle.iox2_pubsub.proofs.LiveParts.{written-parts}
use Rattle.iox2_pubsub.proofs.StaysBut.{nothing-is-new}
use Rattle.iox2_pubsub.specs.Live.{A_blocked_send, A_loan, Both, publisher_key}
use Rattle.iox2_runs.proofs.CarriedCopies.{default_passed, default_of_other, default_held_up, default_carried}
use Rattle.iox2_runs.proofs.CarriedCopies.{default_denied}
use Rattle.iox2_runs.proofs.LeavingSteps.{leaves-lending}
use Rattle.iox2_runs.proofs.LiveEntries.{shown_free}
use Rattle.iox2_runs.proofs.Services.{single-here}
use Rattle.iox2_runs.proofs.Turned.{keeps, looks, makes, unready}
use Rattle.iox2_runs.specs.declared.runs.made.Made.TheVariants.{Nothing, Written}
use Rattle.std.proofs.Common.{ℕ, refl, sym, ap, ◌∙◌}
use Rattle.iox2_runs.proofs.runs.lends.loan.Goals as goal

pub returns-then-not-is_single_valued : goal.returns-then-not-is_single_valued
returns-then-not-is_single_valued g c =
    looks {T = g.row.T.Denot} {U = g.row.U.Denot} _ _ c.args.domain.now c.args.held _ _
    (λ table of at. default_of_other {T = g.row.T.Denot} {U = g.row.U.Denot} _ c.args.domain.now c.args.domain.now table
    of (sym c.is_single_valued.ensures ∙ c.if-not-is_single_valued.true))

pub loan-requires : goal.loan-requires
loan-requires g c = record {
  ready = c.in-Ok.ensures.1;
  single_valued = single-here {T = g.row.T.Denot}
      {U = g.row.U.Denot} c.args.domain.now (sym c.is_single_valued.ensures ∙ c.if-not-is_single_valued.false);
}

pub returns-in-Ok-loan : goal.returns-in-Ok-loan
returns-in-Ok-loan g c =
    rw c.in-Ok.ensures.0 (keeps {T = g.row.T.Denot} {U = g.row.U.Denot} _ _ c.args.domain.now c.loan.new.domain _ _ _
    (Written c.in-Ok-loan.loan) (λ table of at.
    default_carried {T = g.row.T.Denot} {U = g.row.U.Denot} _ c.args.domain.now c.loan.new.domain table of
    c.in-Ok.publisher c.in-Ok-loan.loan at (shown_free {T = g.row.T.Denot} {U = g.row.U.Denot} c.args.domain.now
    (publisher_key c.in-Ok.publisher) (c.in-Ok.ensures.1).unblocked)
    (sym c.is_single_valued.ensures ∙ c.if-not-is_single_valued.false)
    c.in-Ok-loan.ensures.lends (written-parts {T = g.row.T.Denot} {U = g.row.U.Denot} c.loan.new.domain
    c.in-Ok-loan.loan c.in-Ok-loan.ensures.loan.out).0 c.in-Ok-loan.ensures.loan.lent.publisher
    c.in-Ok-loan.ensures.loan.lent.number)
    (λ table of at. leaves-lending {T = g.row.T.Denot} {U = g.row.U.Denot} c.args.domain.now c.loan.new.domain table
    table refl of c.in-Ok.publisher (Written c.in-Ok-loan.loan) (A_loan c.in-Ok-loan.loan.loan.number) at
    c.loan.ensures.leaves.stays c.in-Ok-loan.ensures.loan.lent.is_new
    (ap (λ (p : ℕ). Both (A_loan c.in-Ok-loan.loan.loan.number) (A_blocked_send p))
    c.in-Ok-loan.ensures.loan.lent.publisher) c.in-Ok-loan.ensures.loan.out.placed))

pub returns-in-Err-loan : goal.returns-in-Err-loan
returns-in-Err-loan g c =
    rw c.in-Ok.ensures.0 (makes {T = g.row.T.Denot}
    {U = g.row.U.Denot} _ _ c.args.domain.now c.loan.new.domain _ _ _ Nothing (λ table of at.
    default_denied {T = g.row.T.Denot} {U = g.row.U.Denot} _ c.args.domain.now c.loan.new.domain table of
    c.in-Ok.publisher c.in-Err-loan.error at (shown_free {T = g.row.T.Denot} {U = g.row.U.Denot} c.args.domain.now
    (publisher_key c.in-Ok.publisher) (c.in-Ok.ensures.1).unblocked)
    (sym c.is_single_valued.ensures ∙ c.if-not-is_single_valued.false) c.in-Err-loan.ensures.lends)
    c.loan.ensures.leaves.stays (nothing-is-new {T = g.row.T.Denot} {U = g.row.U.Denot} c.args.domain.now) tt)

pub returns-in-Err : goal.returns-in-Err
returns-in-Err g c =
    rw c.in-Err.ensures.0
    (unready {T = g.row.T.Denot} {U = g.row.U.Denot} _ _ c.args.domain.now c.args.held _ c.in-Err.ensures.1
    (λ table of other at.
    default_passed {T = g.row.T.Denot} {U = g.row.U.Denot} _ c.args.domain.now c.args.domain.now table of other)
    (λ table of h at waits. default_held_up {T = g.row.T.Denot}
    {U = g.row.U.Denot} _ c.args.domain.now c.args.domain.now table of h at waits))
