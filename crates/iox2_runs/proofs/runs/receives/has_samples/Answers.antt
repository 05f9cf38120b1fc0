use Rattle.iox2_domain.specs.Boxes.{answers_of}
use Rattle.iox2_pubsub.proofs.StaysBut.{nothing-is-new}
use Rattle.iox2_runs.proofs.CarriedQuestions.{question_passed, question_carried}
use Rattle.iox2_runs.proofs.FixedCalls.{asked}
use Rattle.iox2_runs.proofs.LiveEntries.{live_subscriber, unboxed_subscriber}
use Rattle.iox2_runs.proofs.TableEntries.{not_subscriber}
use Rattle.iox2_runs.proofs.TableLooks.{is_subscriber_entry}
use Rattle.iox2_runs.proofs.Turned.{looks, makes}
use Rattle.iox2_runs.specs.Carries.{entry_for}
use Rattle.iox2_runs.specs.declared.runs.made.Made.TheVariants.{Nothing}
use Rattle.iox2_runs.specs.declared.runs.made.Made.{Made}
use Rattle.iox2_machine.specs.machine.Environments.{fixed_handlers}
use Rattle.std.proofs.Common.{refl, ap, ◌∙◌, None, Some}
use Rattle.iox2_runs.proofs.runs.receives.has_samples.Goals as goal

pub has_samples-requires : goal.has_samples-requires
has_samples-requires g c =
    record {
      live = live_subscriber {T = g.row.T.Denot}
          {U = g.row.U.Denot} c.args.domain.now c.args.held c.requires c.in-Subscriber.subscriber c.in-Subscriber.is;
    }

pub returns-in-Ok : goal.returns-in-Ok
returns-in-Ok g c =
    rw c.in-Subscriber.is (makes {T = g.row.T.Denot}
    {U = g.row.U.Denot} _ _ c.args.domain.now c.has_samples.new.domain _ _ _ Nothing (λ table of at.
    question_carried {T = g.row.T.Denot} {U = g.row.U.Denot} fixed_handlers _ c.args.domain.now c.has_samples.new.domain
    table of c.in-Subscriber.subscriber None _ at (λ m s shown.
    let got = c.in-Ok.ensures.answers m s shown in (
      got.0,
      got.1,
      (
        c.in-Ok.waits,
        asked {T = g.row.T.Denot} {U = g.row.U.Denot}
            (answers_of g.F.BackpressureFn.allows g.G.DegradationFn.allows c.args.domain.now.boxes.subscribers)
            c.args.domain.now c.has_samples.new.domain c.in-Subscriber.subscriber.id
            (unboxed_subscriber {T = g.row.T.Denot} {U = g.row.U.Denot} c.args.domain.now c.args.held c.requires
            c.in-Subscriber.subscriber c.in-Subscriber.is) m s shown got.0 None c.in-Ok.waits got.2,
        refl,
      ),
    )))
    c.has_samples.ensures.leaves.stays (nothing-is-new {T = g.row.T.Denot} {U = g.row.U.Denot} c.args.domain.now) tt)

pub returns-in-Err : goal.returns-in-Err
returns-in-Err g c =
    rw c.in-Subscriber.is (makes {T = g.row.T.Denot}
    {U = g.row.U.Denot} _ _ c.args.domain.now c.has_samples.new.domain _ _ _ Nothing (λ table of at.
    question_carried {T = g.row.T.Denot} {U = g.row.U.Denot} fixed_handlers _ c.args.domain.now c.has_samples.new.domain
    table of c.in-Subscriber.subscriber (Some c.in-Err.failure) _ at (λ m s shown.
    let got = c.in-Err.ensures.answers m s shown in (
      got.0,
      got.1,
      (
        got.2.0,
        asked {T = g.row.T.Denot} {U = g.row.U.Denot}
            (answers_of g.F.BackpressureFn.allows g.G.DegradationFn.allows c.args.domain.now.boxes.subscribers)
            c.args.domain.now c.has_samples.new.domain c.in-Subscriber.subscriber.id
            (unboxed_subscriber {T = g.row.T.Denot} {U = g.row.U.Denot} c.args.domain.now c.args.held c.requires
            c.in-Subscriber.subscriber c.in-Subscriber.is) m s shown got.0 (Some c.in-Err.failure) got.2.0 got.2.1,
        refl,
      ),
    )))
    c.has_samples.ensures.leaves.stays (nothing-is-new {T = g.row.T.Denot} {U = g.row.U.Denot} c.args.domain.now) tt)

pub returns-in_default : goal.returns-in_default
returns-in_default g c =
    looks {T = g.row.T.Denot} {U = g.row.U.Denot} _ _ c.args.domain.now c.args.held _ _ (λ table of at.
    question_passed {T = g.row.T.Denot} {U = g.row.U.Denot} fixed_handlers _ c.args.domain.now c.args.domain.now table
    of (ap (λ (h : Made). is_subscriber_entry (entry_for h)) at
    ∙ not_subscriber c.args.held c.in_default.not-Subscriber))
