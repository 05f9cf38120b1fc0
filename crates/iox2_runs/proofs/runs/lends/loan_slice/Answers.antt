use Rattle.iox2_pubsub.proofs.LiveParts.{unwritten-parts}
use Rattle.iox2_pubsub.proofs.StaysBut.{nothing-is-new}
use Rattle.iox2_pubsub.specs.Live.{A_blocked_send, Both, IsReadyPublisher, publisher_key, unwritten_loan}
use Rattle.iox2_runs.proofs.CarriedSlices.{slice_passed, slice_of_other, slice_held_up, slice_carried, slice_denied}
use Rattle.iox2_runs.proofs.LeavingSteps.{leaves-lending}
use Rattle.iox2_runs.proofs.LiveEntries.{shown_free}
use Rattle.iox2_runs.proofs.Services.{slices-parts}
use Rattle.iox2_runs.proofs.Turned.{keeps, looks, makes, unready}
use Rattle.iox2_machine.specs.declared.service_config.ServiceConfig.{ServiceConfig}
use Rattle.iox2_runs.specs.declared.runs.made.Made.TheVariants.{Nothing, Unwritten}
use Rattle.std.proofs.Common.{ℕ, refl, sym, ap, subst, ◌∙◌}
use Rattle.iox2_runs.proofs.runs.lends.loan_slice.Goals as goal

pub returns-then-not-has_slices : goal.returns-then-not-has_slices
returns-then-not-has_slices g c =
    looks {T = g.row.T.Denot} {U = g.row.U.Denot} _ _ c.args.domain.now c.args.held _ _
    (λ table of at. slice_of_other {T = g.row.T.Denot} {U = g.row.U.Denot} _ c.args.domain.now c.args.domain.now table
    of c.args.len (sym c.has_slices.ensures ∙ c.if-not-has_slices.true))

pub loan_slice_uninit-requires : goal.loan_slice_uninit-requires
loan_slice_uninit-requires g c =
    let slices = slices-parts c.args.domain.now.config (sym c.has_slices.ensures ∙ c.if-not-has_slices.false) in
    record {
      ready = record {
        ready = subst (IsReadyPublisher {T = g.row.T.Denot} {U = g.row.U.Denot} c.args.domain.now)
            (sym c.new-publisher.ensures) c.in-Ok.ensures.1;
        dynamic = slices.0;
        one_unit = slices.1;
      };
    }

pub returns-in-Ok-loan_slice_uninit : goal.returns-in-Ok-loan_slice_uninit
returns-in-Ok-loan_slice_uninit g c =
    rw (c.in-Ok.ensures.0, c.into_inner.ensures, c.into_inner-in-Ok-loan_slice_uninit.ensures, c.new-publisher.ensures)
    (keeps {T = g.row.T.Denot} {U = g.row.U.Denot} _ _ c.args.domain.now c.loan_slice_uninit.new.domain _ _ _
    (Unwritten c.in-Ok-loan_slice_uninit.loan.sample) (λ table of at.
    slice_carried {T = g.row.T.Denot} {U = g.row.U.Denot} _ c.args.domain.now c.loan_slice_uninit.new.domain table of
    c.args.len c.in-Ok.publisher at (shown_free {T = g.row.T.Denot} {U = g.row.U.Denot} c.args.domain.now
    (publisher_key c.in-Ok.publisher) (c.in-Ok.ensures.1).unblocked)
    (sym c.has_slices.ensures ∙ c.if-not-has_slices.false)
    c.in-Ok-loan_slice_uninit.loan.sample (rw c.new-publisher.ensures at c.in-Ok-loan_slice_uninit.ensures.lends)
    (unwritten-parts {T = g.row.T.Denot} {U = g.row.U.Denot} c.loan_slice_uninit.new.domain
    c.in-Ok-loan_slice_uninit.loan.sample c.in-Ok-loan_slice_uninit.ensures.loan.out).0
    (rw c.new-publisher.ensures at c.in-Ok-loan_slice_uninit.ensures.loan.lent.publisher)
    c.in-Ok-loan_slice_uninit.ensures.loan.lent.number)
    (λ table of at. leaves-lending {T = g.row.T.Denot} {U = g.row.U.Denot} c.args.domain.now
    c.loan_slice_uninit.new.domain table table refl of c.in-Ok.publisher
    (Unwritten c.in-Ok-loan_slice_uninit.loan.sample) (unwritten_loan c.in-Ok-loan_slice_uninit.loan.sample) at
    c.loan_slice_uninit.ensures.leaves.stays c.in-Ok-loan_slice_uninit.ensures.loan.lent.is_new
    (ap (λ (p : ℕ). Both (unwritten_loan c.in-Ok-loan_slice_uninit.loan.sample) (A_blocked_send p))
    (rw c.new-publisher.ensures at c.in-Ok-loan_slice_uninit.ensures.loan.lent.publisher)) (
      c.in-Ok-loan_slice_uninit.ensures.loan.out.placed,
      ap (λ (s : ServiceConfig). s.units_per_element) c.loan_slice_uninit.ensures.leaves.stays.settings
          ∙ (slices-parts c.args.domain.now.config (sym c.has_slices.ensures ∙ c.if-not-has_slices.false)).1,
    )))

pub returns-in-Err-loan_slice_uninit : goal.returns-in-Err-loan_slice_uninit
returns-in-Err-loan_slice_uninit g c =
    rw (c.in-Ok.ensures.0, c.into_inner-in-Err-loan_slice_uninit.ensures, sym c.new-publisher.ensures)
    (makes {T = g.row.T.Denot} {U = g.row.U.Denot} _ _ c.args.domain.now c.loan_slice_uninit.new.domain _ _ _ Nothing
    (λ table of at.
    slice_denied {T = g.row.T.Denot} {U = g.row.U.Denot} _ c.args.domain.now c.loan_slice_uninit.new.domain table of
    c.args.len c.new-publisher.result.publisher at
    (shown_free {T = g.row.T.Denot} {U = g.row.U.Denot} c.args.domain.now
    (publisher_key c.new-publisher.result.publisher)
    (subst (IsReadyPublisher {T = g.row.T.Denot} {U = g.row.U.Denot} c.args.domain.now)
    (sym c.new-publisher.ensures) c.in-Ok.ensures.1).unblocked)
    (sym c.has_slices.ensures ∙ c.if-not-has_slices.false) c.in-Err-loan_slice_uninit.error
    c.in-Err-loan_slice_uninit.ensures.lends)
    c.loan_slice_uninit.ensures.leaves.stays
    (nothing-is-new {T = g.row.T.Denot} {U = g.row.U.Denot} c.args.domain.now) tt)

pub returns-in-Err : goal.returns-in-Err
returns-in-Err g c =
    rw c.in-Err.ensures.0
    (unready {T = g.row.T.Denot} {U = g.row.U.Denot} _ _ c.args.domain.now c.args.held _ c.in-Err.ensures.1
    (λ table of other at. slice_passed {T = g.row.T.Denot}
    {U = g.row.U.Denot} _ c.args.domain.now c.args.domain.now table of c.args.len other)
    (λ table of h at waits. slice_held_up {T = g.row.T.Denot}
    {U = g.row.U.Denot} _ c.args.domain.now c.args.domain.now table of c.args.len h at waits))
