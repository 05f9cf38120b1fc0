use Rattle.std.proofs.Common.{◌≡◌, ap, sym, subst, ℕ, refl, ◌∙◌, inr, List}
use Rattle.std.specs.declared.option.Option.{Option}
use Rattle.std.proofs.lemmas.Result.{err_from_is_err_and}
use Rattle.std.specs.Prelude.{IsTrue}
use Rattle.std.specs.declared.option.Option.TheVariants.{None, Some}
use Rattle.iox2_machine.specs.machine.Limits.{segment_fits}
use Rattle.iox2_machine.specs.machine.Ports.{first_segment_fits, slots_for, with_new_publisher}
use Rattle.iox2_machine.specs.machine.Records.{Handler}
use Rattle.iox2_machine.specs.declared.backpressure.BackpressureAction.{BackpressureAction}
use Rattle.iox2_machine.specs.declared.errors.PublisherCreateError.TheVariants.{FailedToDeployThreadsafetyPolicy}
use Rattle.iox2_connections.proofs.MailboxChanges.{both-true}
use Rattle.iox2_domain.specs.Boxes.{answers_of, boxes_of}
use Rattle.iox2_domain.specs.Kept.{state_of}
use Rattle.iox2_domain.specs.Reaches.{Reaches}
use Rattle.iox2_domain.specs.declared.boxes.PortBox.{PortBox}
use Rattle.iox2_domain.specs.Fields.{Fields, kept_of}
use Rattle.iox2_connections.specs.Handlers.{marks_of}
use Rattle.iox2_ports.specs.Settings.{settings_with}
use Rattle.iox2_steps.proofs.creations.PublisherCreations.{created-refused, created-unfit, created-made}
use Rattle.iox2_steps.proofs.creations.PublisherCreations.{created-updated}
use Rattle.iox2_domain.proofs.lemmas.fields.ReachesShows.{reaches-same}
use Rattle.iox2_ports.proofs.publisher_entry.create_publisher.Goals as goal

pub returns-in_err-place-clause-step : goal.returns-in_err-place-clause-step
returns-in_err-place-clause-step g c =
    let refused = err_from_is_err_and c.from_residual.result c.from_residual.ensures.1 in
    rw (refused.1, refused.2) (
      created-refused {T = g.row.T.Denot} {U = g.row.U.Denot} c.args.state.now
          (settings_with c.args.given.now (marks_of c.args.handler) c.args.segments)
          (answers_of g.F.BackpressureFn.allows g.G.DegradationFn.allows c.args.boxes.now.boxes)
          c.in_err-place.field-0.0 (sym c.place_for_publisher.ensures ∙ c.in_err-place.was),
      reaches-same c.args.state.now c.requires,
    )

pub returns-in_default-clause-step : goal.returns-in_default-clause-step
returns-in_default-clause-step g c = (
  created-unfit {T = g.row.T.Denot} {U = g.row.U.Denot} c.args.state.now
      (settings_with c.args.given.now (marks_of c.args.handler) c.args.segments)
      (answers_of g.F.BackpressureFn.allows g.G.DegradationFn.allows c.args.boxes.now.boxes) c.in_ok-place.place
      (sym c.place_for_publisher.ensures ∙ c.in_ok-place.was)
      (subst (λ (f : Fields g.row.T.Denot g.row.U.Denot).
      IsTrue (first_segment_fits f.config (settings_with c.args.given.now (marks_of c.args.handler) c.args.segments))
      → ⊥) c.state.view_is c.in_default.ensures),
  reaches-same c.args.state.now c.requires,
)

pub returns-in_err-id-clause-step : goal.returns-in_err-id-clause-step
returns-in_err-id-clause-step g c =
    let refused = err_from_is_err_and c.from_residual-in_err-id.result c.from_residual-in_err-id.ensures.1 in
    rw (refused.1, refused.2) (
      created-made {T = g.row.T.Denot} {U = g.row.U.Denot} c.args.state.now
          (settings_with c.args.given.now (marks_of c.args.handler) c.args.segments)
          (answers_of g.F.BackpressureFn.allows g.G.DegradationFn.allows c.reserve_for.new.kept.boxes)
          c.in_ok-place.place (state_of (kept_of c.args.state.now)) (Some c.in_err-id.field-0.0)
          (sym c.place_for_publisher.ensures ∙ c.in_ok-place.was)
          (subst (λ (f : Fields g.row.T.Denot g.row.U.Denot).
          IsTrue (first_segment_fits f.config (settings_with c.args.given.now
          (marks_of c.args.handler) c.args.segments))) c.state.view_is c.in-Some.ensures.0)
          (tt, refl, c.in_err-id.ensures.step.1),
      c.in_err-id.ensures.step.0,
    )

pub update_first-requires-clause-stands : goal.update_first-requires-clause-stands
update_first-requires-clause-stands g c =
    let entered = c.in_ok-id.ensures in
    (entered.stands.0, entered.stands.1, entered.stands.2 ∙ sym entered.id, entered.stands.3)

pub returns-clause-step : goal.returns-clause-step
returns-clause-step g c =
    let entered = c.in_ok-id.ensures in
    created-updated {T = g.row.T.Denot} {U = g.row.U.Denot} c.args.state.now
    (settings_with c.args.given.now (marks_of c.args.handler) c.args.segments)
    (answers_of g.F.BackpressureFn.allows g.G.DegradationFn.allows c.keep_boxes.new.kept.boxes)
    c.admit_publisher.new.state c.update_first.new.state c.in_ok-place.place
    (sym c.place_for_publisher.ensures ∙ c.in_ok-place.was)
    (subst (λ (f : Fields g.row.T.Denot g.row.U.Denot).
    IsTrue (first_segment_fits f.config (settings_with c.args.given.now (marks_of c.args.handler) c.args.segments)))
    c.state.view_is c.in-Some.ensures.0)
    (subst (λ (h : Option (Handler BackpressureAction)). Reaches c.args.state.now c.admit_publisher.new.state
    (with_new_publisher (state_of (kept_of c.args.state.now))
    (settings_with c.args.given.now h c.args.segments) c.in_ok-place.place)) c.mark_of-mark.ensures entered.step)
    entered.stands.0 entered.stands.2 (c.update_first.ensures entered.stands.0 entered.stands.1)

pub returns-in_default-reserve_for-clause-step : goal.returns-in_default-reserve_for-clause-step
returns-in_default-reserve_for-clause-step g c = (
  created-made {T = g.row.T.Denot} {U = g.row.U.Denot} c.args.state.now
      (settings_with c.args.given.now (marks_of c.args.handler) c.args.segments)
      (answers_of g.F.BackpressureFn.allows g.G.DegradationFn.allows c.reserve_for.new.kept.boxes) c.in_ok-place.place
      (state_of (kept_of c.args.state.now)) (Some FailedToDeployThreadsafetyPolicy)
      (sym c.place_for_publisher.ensures ∙ c.in_ok-place.was)
      (subst (λ (f : Fields g.row.T.Denot g.row.U.Denot).
      IsTrue (first_segment_fits f.config (settings_with c.args.given.now (marks_of c.args.handler) c.args.segments)))
      c.state.view_is c.in-Some.ensures.0)
      (tt, refl, inr refl),
  reaches-same c.args.state.now c.requires,
)

pub returns-clause-others : goal.returns-clause-others
returns-clause-others g c = λ port away.
    c.keep_boxes.ensures.others port (λ is. away (is ∙ c.value.ensures ∙ c.in_ok-id.ensures.id))
    ∙ ap (λ (all : List (PortBox g.row.F.Denot g.row.G.Denot)). boxes_of port all) c.reserve_for.ensures.same

pub admit_publisher-requires-clause-has_place : goal.admit_publisher-requires-clause-has_place
admit_publisher-requires-clause-has_place g c = sym c.place_for_publisher.ensures ∙ c.in_ok-place.was

pub returns-clause-stands : goal.returns-clause-stands
returns-clause-stands g c =
    let entered = c.in_ok-id.ensures in
    let updated = c.update_first.ensures entered.stands.0 entered.stands.1 in
    (updated.publisher, updated.stands, updated.is_its ∙ entered.stands.2 ∙ sym entered.id)

pub admit_publisher-requires-clause-size : goal.admit_publisher-requires-clause-size
admit_publisher-requires-clause-size g c =
    let fits : IsTrue (first_segment_fits c.args.state.now.config
    (settings_with c.args.given.now (marks_of c.args.handler) c.args.segments)) =
    subst (λ (f : Fields g.row.T.Denot g.row.U.Denot).
    IsTrue (first_segment_fits f.config (settings_with c.args.given.now (marks_of c.args.handler) c.args.segments)))
    c.state.view_is c.in-Some.ensures.0 in
    let slots : c.in-Some.slots ≡ slots_for c.args.state.now.config
    (settings_with c.args.given.now None c.args.segments) =
    c.in-Some.ensures.1 ∙ ap (λ (f : Fields g.row.T.Denot g.row.U.Denot).
    slots_for f.config (settings_with c.args.given.now None c.args.segments)) c.state.view_is in
    ap (λ (n : ℕ). segment_fits c.args.state.now.config n c.args.given.now.initial_max_slice_len) slots
    ∙ (both-true _ _ fits).1

pub admit_publisher-requires-clause-slots : goal.admit_publisher-requires-clause-slots
admit_publisher-requires-clause-slots g c =
    c.in-Some.ensures.1 ∙ ap (λ (f : Fields g.row.T.Denot g.row.U.Denot).
    slots_for f.config (settings_with c.args.given.now None c.args.segments)) c.state.view_is
