-- What comes of calls where the boxes answer that a domain keeps.
use Rattle.std.proofs.Common.{◌≡◌, ℕ, Bool, get_or, ap, subst, Option, Some, None, Result}
use Rattle.iox2_machine.specs.machine.Records.{Environment}
use Rattle.iox2_machine.specs.declared.backpressure.BackpressureAction.{BackpressureAction}
use Rattle.iox2_machine.specs.declared.backpressure.BackpressureInfo.{BackpressureInfo}
use Rattle.iox2_machine.specs.declared.degradation.DegradationAction.{DegradationAction}
use Rattle.iox2_machine.specs.declared.degradation.DegradationCause.{DegradationCause}
use Rattle.iox2_machine.specs.declared.degradation.DegradationInfo.{DegradationInfo}
use Rattle.iox2_machine.specs.declared.errors.ConnectionFailure.{ConnectionFailure}
use Rattle.iox2_machine.specs.declared.errors.ReceiveError.{ReceiveError}
use Rattle.iox2_domain.specs.Boxes.{DomainBoxes, answers_of}
use Rattle.iox2_domain.specs.Fields.{Fields, keeping}
use Rattle.iox2_domain.specs.Kept.{Kept}
use Rattle.iox2_domain.specs.Ports.{PublisherFields, SubscriberFields}
use Rattle.iox2_domain.specs.Questions.{AnswersAs}
use Rattle.iox2_domain.specs.Receipts.{ReceivesAs}
use Rattle.iox2_domain.specs.ReceiverSteps.{UpdatesReceiver}
use Rattle.iox2_domain.specs.declared.sample_slots.Receipt.{Receipt}
use Rattle.iox2_messages.specs.CatchingUp.{CatchesUp}

module _ {T U F G : Type 0} (allows : F → BackpressureInfo → BackpressureAction → Type 0)
    (degrades : G → DegradationCause → DegradationInfo → DegradationAction → Type 0)
    {boxes : DomainBoxes F G} (f g : Fields T U) (kept : Kept T U F G) (view : keeping boxes f ≡ kept) (place : ℕ) where
  -- the boxes of the domain's publishers, as it has them and as it keeps them
  abbrev had : Environment
  had = answers_of allows degrades boxes.publishers

  abbrev pub publishers_answer : Environment
  publishers_answer = answers_of allows degrades (kept.boxes).publishers

  -- and those of its subscribers
  abbrev subscribers_had : Environment
  subscribers_had = answers_of allows degrades boxes.subscribers

  abbrev pub subscribers_answer : Environment
  subscribers_answer = answers_of allows degrades (kept.boxes).subscribers

  pub publisher-caught-up : (failure : Option ConnectionFailure)
      → ((x : PublisherFields) → get_or f.publishers place None ≡ Some x → CatchesUp had f place x g failure)
      → (x : PublisherFields) → get_or f.publishers place None ≡ Some x
      → CatchesUp publishers_answer f place x g failure
  publisher-caught-up failure updates x at =
      subst (λ all. CatchesUp (answers_of allows degrades all) f place x g failure)
      (ap (λ (k : Kept T U F G). (k.boxes).publishers) view) (updates x at)

  pub subscriber-updated : (failure : Option ConnectionFailure)
      → ((y : SubscriberFields) → get_or f.subscribers place None ≡ Some y
      → UpdatesReceiver subscribers_had f place y g failure)
      → (y : SubscriberFields) → get_or f.subscribers place None ≡ Some y
      → UpdatesReceiver subscribers_answer f place y g failure
  subscriber-updated failure updates y at =
      subst (λ all. UpdatesReceiver (answers_of allows degrades all) f place y g failure)
      (ap (λ (k : Kept T U F G). (k.boxes).subscribers) view) (updates y at)

  pub received : (result : Result (Option Receipt) ReceiveError)
      → ((y : SubscriberFields) → get_or f.subscribers place None ≡ Some y → ReceivesAs subscribers_had f y.id result g)
      → (y : SubscriberFields) → get_or f.subscribers place None ≡ Some y
      → ReceivesAs subscribers_answer f y.id result g
  received result receives y at =
      subst (λ all. ReceivesAs (answers_of allows degrades all) f y.id result g)
      (ap (λ (k : Kept T U F G). (k.boxes).subscribers) view) (receives y at)

  pub asked : (result : Result Bool ConnectionFailure)
      → ((y : SubscriberFields) → get_or f.subscribers place None ≡ Some y → AnswersAs subscribers_had f y.id result g)
      → (y : SubscriberFields) → get_or f.subscribers place None ≡ Some y → AnswersAs subscribers_answer f y.id result g
  asked result answers y at =
      subst (λ all. AnswersAs (answers_of allows degrades all) f y.id result g)
      (ap (λ (k : Kept T U F G). (k.boxes).subscribers) view) (answers y at)
