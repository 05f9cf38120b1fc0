-- A copy that was lent isn't refused as a loan is.
use Rattle.std.proofs.Common.{◌≡◌, sym, ◌∙◌, ⊎_elim, Result, Ok, Err}
use Rattle.std.specs.Prelude.{IfErr}
use Rattle.iox2_machine.specs.declared.errors.LoanError.{LoanError}
use Rattle.iox2_machine.specs.declared.errors.SendError.{SendError}
use Rattle.iox2_machine.specs.declared.errors.SendError.TheVariants.{ConnectionBrokenSinceSenderNoLongerExists}
use Rattle.iox2_machine.specs.declared.errors.SendError.TheVariants.{ConnectionError, UnableToDeliver}
use Rattle.iox2_machine.specs.declared.errors.SendError.TheVariants.{LoanError as Not_lent}
use Rattle.iox2_machine.specs.declared.key.Key.{Key}
use Rattle.iox2_domain.specs.Kept.{Kept}
use Rattle.iox2_pubsub.specs.SendCalls.{FailsSend}
use Rattle.iox2_pubsub.specs.declared.send_outcome.SendOutcome.{SendOutcome}

module _ {T U F G : Type 0} (kept : Kept T U F G) (key : Key) (P : Type 0) where
  other-error : (error : SendError) → FailsSend kept key error → (reason : LoanError) → error ≡ Not_lent reason → P
  unfolding FailsSend
  other-error error fails reason is =
      ⊎_elim
      (λ gone. absurd (let clash : ConnectionBrokenSinceSenderNoLongerExists ≡ Not_lent reason = sym gone.0 ∙ is in cc))
      (λ handled.
      ⊎_elim
      (λ full. absurd (let clash : UnableToDeliver ≡ Not_lent reason = sym full ∙ is in cc))
      (λ unmade. absurd (let clash : ConnectionError unmade.0 ≡ Not_lent reason = sym unmade.1 ∙ is in cc))
      handled.0)
      fails

  pub lent-not-refused : (result : Result SendOutcome SendError) → IfErr result (FailsSend kept key)
      → IfErr result (λ error. (reason : LoanError) → error ≡ Not_lent reason → P)
  lent-not-refused (Ok outcome) fails = tt
  lent-not-refused (Err error) fails = other-error error fails
