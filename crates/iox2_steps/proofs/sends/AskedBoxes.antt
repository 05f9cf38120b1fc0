-- A send where a publisher's box may be asked.
use Rattle.std.proofs.Common.{◌≡◌, ℕ, true, false, List, refl}
use Rattle.std.specs.Option.{is_some}
use Rattle.std.specs.declared.option.Option.{Option}
use Rattle.std.specs.declared.option.Option.TheVariants.{None, Some}
use Rattle.iox2_machine.specs.machine.Environments.{fixed_handlers}
use Rattle.iox2_machine.specs.machine.Records.{Environment, Handler}
use Rattle.iox2_machine.specs.declared.backpressure.BackpressureAction.{BackpressureAction}
use Rattle.iox2_machine.specs.declared.backpressure.BackpressureInfo.{BackpressureInfo}
use Rattle.iox2_machine.specs.declared.degradation.DegradationAction.{DegradationAction}
use Rattle.iox2_machine.specs.declared.degradation.DegradationCause.{DegradationCause}
use Rattle.iox2_machine.specs.declared.degradation.DegradationInfo.{DegradationInfo}
use Rattle.iox2_connections.proofs.AnyEnvironment.{AllowsAsMuch}
use Rattle.iox2_domain.specs.Boxes.{answers_of}
use Rattle.iox2_domain.specs.Fields.{Fields}
use Rattle.iox2_domain.specs.SentLoans.{IsReadyToSend}
use Rattle.iox2_domain.specs.declared.boxes.PortBox.{PortBox}
use Rattle.iox2_steps.proofs.updates.AnyBoxes.{updates-alike, unboxed-updates}

-- a publisher for which nothing answers has no handler
pub unhandled : (h : Option (Handler BackpressureAction)) → is_some h ≡ false → None ≡ h
unhandled None e = refl
unhandled (Some h) e = absurd (let no : true ≡ false = e in cc)

-- and depends on no box
pub unasked : (e e' : Environment) (p : ℕ) (h : Option (Handler BackpressureAction)) → is_some h ≡ false
    → AllowsAsMuch e e' p h
unasked e e' p None none = tt
unasked e e' p (Some h) none = absurd (let no : true ≡ false = none in cc)

-- a publisher that is due for no update asks no box
pub ready-boxes : {T U F G : Type 0} (allows : F → BackpressureInfo → BackpressureAction → Type 0)
    (degrades : G → DegradationCause → DegradationInfo → DegradationAction → Type 0) (boxes : List (PortBox F G))
    (old new : Fields T U) (p n place slot : ℕ) → IsReadyToSend fixed_handlers old new p n place slot
    → IsReadyToSend (answers_of allows degrades boxes) old new p n place slot
ready-boxes allows degrades boxes old new p n place slot ready = record {
  publisher = ready.publisher;
  stands = ready.stands;
  is_its = ready.is_its;
  updated = updates-alike fixed_handlers (answers_of allows degrades boxes) old place ready.publisher new None
      (λ z there. unboxed-updates (answers_of allows degrades boxes) tt (ready.publisher).id z.degradation_handler)
      ready.updated;
  key = ready.key;
  lies = ready.lies;
}
