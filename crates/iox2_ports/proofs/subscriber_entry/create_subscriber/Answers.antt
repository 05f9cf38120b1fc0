use Rattle.std.proofs.Common.{ap, refl, sym, ◌∙◌, Some, List}
use Rattle.std.proofs.lemmas.Result.{err_from_is_err_and}
use Rattle.iox2_domain.specs.Boxes.{answers_of, boxes_of}
use Rattle.iox2_machine.specs.declared.errors.SubscriberCreateError.TheVariants.{FailedToDeployThreadsafetyPolicy}
use Rattle.iox2_domain.specs.declared.boxes.PortBox.{PortBox}
use Rattle.iox2_domain.specs.SubscriberEntry.{asked_for}
use Rattle.iox2_domain.specs.Kept.{state_of}
use Rattle.iox2_domain.specs.Fields.{kept_of}
use Rattle.iox2_steps.proofs.creations.SubscriberEntries.{created-reaches, created-refused, created-made}
use Rattle.iox2_ports.proofs.subscriber_entry.create_subscriber.Goals as goal

pub returns-in_err-place-clause-step : goal.returns-in_err-place-clause-step
returns-in_err-place-clause-step g c =
    let refused = err_from_is_err_and c.from_residual.result c.from_residual.ensures.1 in
    rw (refused.1, refused.2) (
      created-refused {T = g.row.T.Denot} {U = g.row.U.Denot} c.args.state.now (asked_for c.args.given.now)
          (answers_of g.F.BackpressureFn.allows g.G.DegradationFn.allows c.args.boxes.now.boxes)
          c.in_err-place.field-0.0 (sym c.place_for_subscriber.ensures ∙ c.in_err-place.was),
      refl,
    )

pub returns-in_err-id-clause-step : goal.returns-in_err-id-clause-step
returns-in_err-id-clause-step g c =
    let refused = err_from_is_err_and c.from_residual-in_err-id.result c.from_residual-in_err-id.ensures.1 in
    let why = c.in_err-id.ensures.step in
    rw (refused.1, refused.2) (
      created-made {T = g.row.T.Denot} {U = g.row.U.Denot} c.args.state.now (asked_for c.args.given.now)
          (answers_of g.F.BackpressureFn.allows g.G.DegradationFn.allows c.reserve_for.new.kept.boxes)
          c.in_ok-place.place (state_of (kept_of c.args.state.now))
          (Some c.in_err-id.field-0.0) (sym c.place_for_subscriber.ensures ∙ c.in_ok-place.was) (tt, refl, why.1),
      why.0,
    )

pub returns-clause-step : goal.returns-clause-step
returns-clause-step g c =
    created-reaches {T = g.row.T.Denot} {U = g.row.U.Denot} c.args.state.now (asked_for c.args.given.now)
    (answers_of g.F.BackpressureFn.allows g.G.DegradationFn.allows c.keep_boxes.new.kept.boxes)
    c.admit_subscriber.new.state c.update_first.new.state c.in_ok-place.place
    (sym c.place_for_subscriber.ensures ∙ c.in_ok-place.was) c.in_ok-id.ensures.step c.update_first.ensures

pub returns-clause-stands : goal.returns-clause-stands
returns-clause-stands g c =
    let entered = c.in_ok-id.ensures.step in
    let updated = c.update_first.ensures entered.1 entered.2 in
    (updated.subscriber, updated.stands, updated.is_its ∙ entered.3 ∙ sym c.in_ok-id.ensures.id)

pub update_first-requires-clause-agrees : goal.update_first-requires-clause-agrees
update_first-requires-clause-agrees g c = c.in_ok-id.ensures.step.0.agrees

pub update_first-requires-clause-stands : goal.update_first-requires-clause-stands
update_first-requires-clause-stands g c =
    let entered = c.in_ok-id.ensures.step in
    (entered.1, entered.2, entered.3 ∙ sym c.in_ok-id.ensures.id)

pub returns-in_default-clause-step : goal.returns-in_default-clause-step
returns-in_default-clause-step g c = (
  created-made {T = g.row.T.Denot} {U = g.row.U.Denot} c.args.state.now (asked_for c.args.given.now)
      (answers_of g.F.BackpressureFn.allows g.G.DegradationFn.allows c.reserve_for.new.kept.boxes) c.in_ok-place.place
      (state_of (kept_of c.args.state.now))
      (Some FailedToDeployThreadsafetyPolicy) (sym c.place_for_subscriber.ensures ∙ c.in_ok-place.was) (tt, refl, refl),
  refl,
)

pub returns-clause-others : goal.returns-clause-others
returns-clause-others g c = λ port away.
    c.keep_boxes.ensures.others port (λ is. away (is ∙ c.value.ensures ∙ c.in_ok-id.ensures.id))
    ∙ ap (λ (all : List (PortBox g.row.F.Denot g.row.G.Denot)). boxes_of port all) c.reserve_for.ensures.same
