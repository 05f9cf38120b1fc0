-- Asking for samples, seen from outside.
use Rattle.std.proofs.Common.{◌≡◌, ℕ, Bool, get_or, subst, Option, Some, None, Result, Ok, Err}
use Rattle.iox2_machine.specs.machine.Records.{Environment}
use Rattle.iox2_machine.specs.machine.Receives.{HasSamples}
use Rattle.iox2_machine.specs.machine.State.{State, Messages}
use Rattle.iox2_machine.specs.declared.errors.ConnectionFailure.{ConnectionFailure}
use Rattle.iox2_laws.proofs.LoanKeeping.{has_samples_loans}
use Rattle.iox2_laws.proofs.ReceiveLaws.{has_samples_advances}
use Rattle.iox2_domain.specs.Boxes.{DomainBoxes}
use Rattle.iox2_domain.specs.Fields.{Fields, kept_of, keeping}
use Rattle.iox2_domain.specs.Kept.{Kept}
use Rattle.iox2_domain.specs.Ports.{SubscriberFields}
use Rattle.iox2_domain.specs.Questions.{AnswersAs, IsAnswer}
use Rattle.iox2_domain.specs.Shows.{Shows}
use Rattle.iox2_pubsub.proofs.UpdateShown.{step-shows}

module _ {T U : Type 0} (environment : Environment) where
  -- an answer, or a failure, is the machine's
  pub answered : (s : State T U) (q : ℕ) (result : Result Bool ConnectionFailure) (s' : State T U)
      → IsAnswer environment s q result s'
      → (failure : Option ConnectionFailure) × (waits : Bool) × HasSamples environment s q s' failure waits
  answered s q (Ok waits) s' asked = (None, waits, asked)
  answered s q (Err failure) s' asked = (Some failure, asked.0, asked.1)

  -- the domain shows what the question comes to, with the same messages
  pub answer-shows : {F G : Type 0} {boxes : DomainBoxes F G} (kept : Kept T U F G) (f g : Fields T U)
      → keeping boxes f ≡ kept → (q : ℕ) (result : Result Bool ConnectionFailure) → AnswersAs environment f q result g
      → (m : Messages T U) (s : State T U) → Shows kept m s
      → (s' : State T U) × Shows (kept_of g) m s' × IsAnswer environment s q result s'
  answer-shows kept f g same q result answers =
      step-shows kept f g same (λ s t. IsAnswer environment s q result t)
      (λ s t asked. let has = answered s q result t asked in (
        (has_samples_advances environment s q t has.0 has.1 has.2).next_message,
        has_samples_loans environment s q t has.0 has.1 has.2,
      ))
      answers.0 answers.1 answers.2

  -- the subscriber that was found is the one that was asked
  pub answer-at : (f g : Fields T U) (place q : ℕ) (result : Result Bool ConnectionFailure)
      → (y : SubscriberFields) × (get_or f.subscribers place None ≡ Some y) × (y.id ≡ q)
      → ((y : SubscriberFields) → get_or f.subscribers place None ≡ Some y → AnswersAs environment f y.id result g)
      → AnswersAs environment f q result g
  answer-at f g place q result found answers =
      subst (λ (r : ℕ). AnswersAs environment f r result g) found.2 (answers found.0 found.1)
