use Rattle.iox2_domain.proofs.lemmas.fields.SingleSettings.{single-settings}
use Rattle.iox2_pubsub.proofs.LiveParts.{unwritten-parts}
use Rattle.iox2_pubsub.proofs.StaysBut.{nothing-is-new}
use Rattle.iox2_pubsub.specs.Live.{A_blocked_send, A_loan, Both, publisher_key}
use Rattle.iox2_runs.proofs.CarriedLoans.{loan_passed, loan_of_other, loan_held_up, loan_carried, loan_denied}
use Rattle.iox2_runs.proofs.LeavingSteps.{leaves-lending}
use Rattle.iox2_runs.proofs.LiveEntries.{shown_free}
use Rattle.iox2_runs.proofs.Services.{single-here}
use Rattle.iox2_runs.proofs.Turned.{keeps, looks, makes, unready}
use Rattle.iox2_machine.specs.declared.service_config.ServiceConfig.{ServiceConfig}
use Rattle.iox2_runs.specs.declared.runs.made.Made.TheVariants.{Nothing, Unwritten}
use Rattle.iox2_machine.specs.machine.Environments.{fixed_handlers}
use Rattle.std.proofs.Common.{ℕ, refl, sym, ap, ◌∙◌}
use Rattle.iox2_runs.proofs.runs.lends.loan_uninit.Goals as goal

pub returns-then-not-is_single_valued : goal.returns-then-not-is_single_valued
returns-then-not-is_single_valued g c =
    looks {T = g.row.T.Denot} {U = g.row.U.Denot} _ _ c.args.domain.now c.args.held _ _
    (λ table of at. loan_of_other {T = g.row.T.Denot} {U = g.row.U.Denot} fixed_handlers _ c.args.domain.now
    c.args.domain.now table table of (sym c.is_single_valued.ensures ∙ c.if-not-is_single_valued.true))

pub loan_uninit-requires : goal.loan_uninit-requires
loan_uninit-requires g c =
    record {
      ready = c.in-Ok.ensures.1;
      single_valued = single-here {T = g.row.T.Denot}
          {U = g.row.U.Denot} c.args.domain.now (sym c.is_single_valued.ensures ∙ c.if-not-is_single_valued.false);
    }

pub returns-in-Ok-loan_uninit : goal.returns-in-Ok-loan_uninit
returns-in-Ok-loan_uninit g c =
    rw c.in-Ok.ensures.0 (keeps {T = g.row.T.Denot} {U = g.row.U.Denot} _ _ c.args.domain.now c.loan_uninit.new.domain _
    _ _ (Unwritten c.in-Ok-loan_uninit.loan) (λ table of at.
    loan_carried {T = g.row.T.Denot} {U = g.row.U.Denot} fixed_handlers _ c.args.domain.now c.loan_uninit.new.domain
    table table of c.in-Ok.publisher c.in-Ok-loan_uninit.loan at
    (shown_free {T = g.row.T.Denot} {U = g.row.U.Denot} c.args.domain.now (publisher_key c.in-Ok.publisher)
    (c.in-Ok.ensures.1).unblocked) (sym c.is_single_valued.ensures ∙ c.if-not-is_single_valued.false)
    c.in-Ok-loan_uninit.ensures.lends
    (unwritten-parts {T = g.row.T.Denot} {U = g.row.U.Denot} c.loan_uninit.new.domain c.in-Ok-loan_uninit.loan
    c.in-Ok-loan_uninit.ensures.loan.out).0 c.in-Ok-loan_uninit.ensures.loan.lent.publisher
    c.in-Ok-loan_uninit.ensures.loan.lent.number)
    (λ table of at. leaves-lending {T = g.row.T.Denot} {U = g.row.U.Denot} c.args.domain.now c.loan_uninit.new.domain
    table table refl of c.in-Ok.publisher (Unwritten c.in-Ok-loan_uninit.loan)
    (A_loan c.in-Ok-loan_uninit.loan.loan.number) at
    c.loan_uninit.ensures.leaves.stays c.in-Ok-loan_uninit.ensures.loan.lent.is_new
    (ap (λ (p : ℕ). Both (A_loan c.in-Ok-loan_uninit.loan.loan.number) (A_blocked_send p))
    c.in-Ok-loan_uninit.ensures.loan.lent.publisher) (
      c.in-Ok-loan_uninit.ensures.loan.out.placed,
      ap (λ (s : ServiceConfig). s.units_per_element) c.loan_uninit.ensures.leaves.stays.settings
          ∙ (single-settings c.args.domain.now.config
          (sym c.is_single_valued.ensures ∙ c.if-not-is_single_valued.false)).1,
    )))

pub returns-in-Err-loan_uninit : goal.returns-in-Err-loan_uninit
returns-in-Err-loan_uninit g c =
    rw c.in-Ok.ensures.0 (makes {T = g.row.T.Denot}
    {U = g.row.U.Denot} _ _ c.args.domain.now c.loan_uninit.new.domain _ _ _ Nothing (λ table of at.
    loan_denied {T = g.row.T.Denot} {U = g.row.U.Denot} fixed_handlers _ c.args.domain.now c.loan_uninit.new.domain
    table table of c.in-Ok.publisher c.in-Err-loan_uninit.error at
    (shown_free {T = g.row.T.Denot} {U = g.row.U.Denot} c.args.domain.now (publisher_key c.in-Ok.publisher)
    (c.in-Ok.ensures.1).unblocked)
    (sym c.is_single_valued.ensures ∙ c.if-not-is_single_valued.false) c.in-Err-loan_uninit.ensures.lends)
    c.loan_uninit.ensures.leaves.stays (nothing-is-new {T = g.row.T.Denot} {U = g.row.U.Denot} c.args.domain.now) tt)

pub returns-in-Err : goal.returns-in-Err
returns-in-Err g c =
    rw c.in-Err.ensures.0
    (unready {T = g.row.T.Denot} {U = g.row.U.Denot} _ _ c.args.domain.now c.args.held _ c.in-Err.ensures.1
    (λ table of other at. loan_passed {T = g.row.T.Denot}
    {U = g.row.U.Denot} fixed_handlers _ c.args.domain.now c.args.domain.now table table of other)
    (λ table of h at waits. loan_held_up {T = g.row.T.Denot}
    {U = g.row.U.Denot} fixed_handlers _ c.args.domain.now c.args.domain.now table table of h at waits))
