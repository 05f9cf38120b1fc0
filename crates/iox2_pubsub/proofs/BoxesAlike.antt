-- A send reads alike in two domains in which its publisher has the same box.
use Rattle.std.proofs.Common.{◌≡◌, ◌∙◌, ℕ, ap, sym, subst}
use Rattle.std.proofs.lemmas.Option.{same_Some}
use Rattle.std.specs.declared.option.Option.{Option}
use Rattle.std.specs.declared.option.Option.TheVariants.{None, Some}
use Rattle.std.specs.declared.result.Result.{Result}
use Rattle.iox2_machine.specs.machine.Records.{Custom, Environment, Fixed, Handler, Loan}
use Rattle.iox2_machine.specs.machine.State.{State, Messages}
use Rattle.iox2_machine.specs.declared.backpressure.BackpressureAction.{BackpressureAction}
use Rattle.iox2_machine.specs.declared.backpressure.BackpressureInfo.{BackpressureInfo}
use Rattle.iox2_machine.specs.declared.degradation.DegradationAction.{DegradationAction}
use Rattle.iox2_machine.specs.declared.degradation.DegradationCause.{DegradationCause}
use Rattle.iox2_machine.specs.declared.degradation.DegradationCause.TheVariants.{FailedToEstablishConnection as NotEstablished}
use Rattle.iox2_machine.specs.declared.degradation.DegradationInfo.{DegradationInfo}
use Rattle.iox2_machine.specs.declared.errors.SendError.{SendError}
use Rattle.iox2_connections.proofs.AnyEnvironment.{AllowsAsMuch}
use Rattle.iox2_domain.specs.Boxes.{BoxAnswers, BoxDegrades, answers_of, box_of, degradation_box_of}
use Rattle.iox2_domain.specs.Kept.{Kept}
use Rattle.iox2_domain.specs.Shows.{Shows}
use Rattle.iox2_steps.proofs.sends.AnySends.{sends-alike}
use Rattle.iox2_steps.proofs.updates.AnyBoxes.{AllowsDegradation}
use Rattle.iox2_pubsub.specs.Live.{IsWritten, degradation_box, handler_box}
use Rattle.iox2_pubsub.specs.SendCalls.{Sends, result_of_send}
use Rattle.iox2_pubsub.specs.declared.sample_mut.SampleMut.{SampleMut}
use Rattle.iox2_pubsub.specs.declared.send_outcome.SendOutcome.{SendOutcome}
use Rattle.iox2_pubsub.proofs.LiveParts.{written-parts}

-- a written loan is out for the publisher that its handle names
pub written-lender : {T U F G : Type 0} (kept : Kept T U F G) (loan : SampleMut) → IsWritten kept loan
    → (m : Messages T U) (s : State T U) → Shows kept m s → (l : Loan T U)
    → s.loans loan.loan.number ≡ Some l → l.publisher ≡ loan.loan.publisher
written-lender {T} {U} kept loan live m s shown l out =
    let has = (written-parts kept loan live).1 in
    ap (λ (x : Loan T U). x.publisher)
    (same_Some l has.0 (sym out ∙ ap (λ (t : State T U). t.loans loan.loan.number) shown.state ∙ has.1)) ∙ has.2

module _ {T U F G : Type 0} (allows : F → BackpressureInfo → BackpressureAction → Type 0)
    (degrades : G → DegradationCause → DegradationInfo → DegradationAction → Type 0)
    (old new : Kept T U F G) (p : ℕ) (same : handler_box new p ≡ handler_box old p)
    (degrading : degradation_box new p ≡ degradation_box old p) where
  -- the boxes that answer before, and those that do after
  abbrev before : Environment
  before = answers_of allows degrades (old.boxes).publishers

  abbrev after : Environment
  after = answers_of allows degrades (new.boxes).publishers

  -- the same box answers alike
  box-alike : (q : ℕ) → q ≡ p → (h : Option (Handler BackpressureAction)) → AllowsAsMuch after before q h
  unfolding handler_box
  box-alike q is None = tt
  box-alike q is (Some (Fixed action)) = tt
  box-alike q is (Some Custom) = λ info action answers.
      let alike : box_of q (new.boxes).publishers ≡ box_of q (old.boxes).publishers =
      ap (λ (i : ℕ). box_of i (new.boxes).publishers) is ∙ same
      ∙ ap (λ (i : ℕ). box_of i (old.boxes).publishers) (sym is) in
      subst (λ (box : Option F). BoxAnswers allows box info action) alike answers

  degradation-alike : (q : ℕ) → q ≡ p → (h : Handler DegradationAction) → AllowsDegradation after before q h
  unfolding degradation_box
  degradation-alike q is (Fixed action) = tt
  degradation-alike q is Custom = λ info action answers.
      let alike : degradation_box_of q (new.boxes).publishers ≡ degradation_box_of q (old.boxes).publishers =
      ap (λ (i : ℕ). degradation_box_of i (new.boxes).publishers) is ∙ degrading
      ∙ ap (λ (i : ℕ). degradation_box_of i (old.boxes).publishers) (sym is) in
      subst (λ (box : Option G). BoxDegrades degrades box NotEstablished info action) alike answers

  -- what a publisher sends where it has kept its boxes
  pub sends-kept : (s : State T U) (n : ℕ) (l : Loan T U) (result : Result SendOutcome SendError) (s' : State T U)
      → l.publisher ≡ p
      → Sends after s n l result s' → Sends before s n l result s'
  sends-kept s n l result s' its sends =
      sends-alike after before s n l s' (result_of_send result)
      (λ x there. record { memory = λ m. m; answers = degradation-alike l.publisher its x.degradation_handler })
      (λ mid updated x at. box-alike l.publisher its x.backpressure_handler) sends
