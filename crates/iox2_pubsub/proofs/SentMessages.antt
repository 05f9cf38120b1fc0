-- The messages after a send that failed.
use Rattle.std.proofs.Common.{◌≡◌, ◌≢◌, ◌⊎◌, ℕ, refl, sym, ap, ◌∙◌, inl, inr, Result, Ok, None}
use Rattle.std.proofs.lemmas.Bool.{ne_eqb}
use Rattle.std.proofs.lemmas.Option.{none-some}
use Rattle.std.specs.declared.option.Option.TheVariants.{Some}
use Rattle.std.specs.declared.result.Result.TheVariants.{Err}
use Rattle.iox2_machine.specs.machine.Loans.{entry_of}
use Rattle.iox2_machine.specs.machine.Numbers.{put_at}
use Rattle.iox2_machine.specs.machine.Records.{Entry, Loan}
use Rattle.iox2_machine.specs.machine.State.{Messages}
use Rattle.iox2_machine.specs.declared.errors.SendError.{SendError}
use Rattle.iox2_machine.specs.declared.errors.SendError.TheVariants.{ConnectionBrokenSinceSenderNoLongerExists}
use Rattle.iox2_machine.specs.declared.errors.SendError.TheVariants.{ConnectionCorrupted, LoanError, ConnectionError}
use Rattle.iox2_machine.specs.declared.errors.SendError.TheVariants.{UnableToDeliver, InternalError}
use Rattle.iox2_laws.proofs.Puts.{put_at-other}
use Rattle.iox2_pubsub.specs.SendCalls.{messages_after_send}
use Rattle.iox2_pubsub.specs.declared.send_outcome.SendOutcome.{SendOutcome}

module _ {T U : Type 0} (m : Messages T U) (n : ℕ) (l : Loan T U) where
  -- where a handler failed it, the loan's is one of them; after another error none was added
  pub after-error : (error : SendError)
      → ((error ≡ UnableToDeliver) × (messages_after_send m n l (Err error) ≡ put_at m n (Some (entry_of l))))
      ⊎ ((error ≢ UnableToDeliver) × (messages_after_send m n l (Err error) ≡ m))
  after-error ConnectionBrokenSinceSenderNoLongerExists = inr (λ e. absurd cc, refl)
  after-error ConnectionCorrupted = inr (λ e. absurd cc, refl)
  after-error (LoanError reason) = inr (λ e. absurd cc, refl)
  after-error (ConnectionError failure) = inr (λ e. absurd cc, refl)
  after-error UnableToDeliver = inl (refl, refl)
  after-error InternalError = inr (λ e. absurd cc, refl)

  -- each message that was sent before is the same after a send
  pub sent-before-stays : (result : Result SendOutcome SendError) → m n ≡ None → (k : ℕ) (entry : Entry T U)
      → m k ≡ Some entry → messages_after_send m n l result k ≡ Some entry
  sent-before-stays (Ok outcome) unsent k entry at = put_at-other m n (Some (entry_of l)) k
      (ne_eqb k n (λ same. none-some entry (sym unsent ∙ ap m (sym same) ∙ at))) ∙ at
  sent-before-stays (Err error) unsent k entry at = elim (after-error error) [
    | inl sent ↦
        ap (λ (f : Messages T U). f k) sent.1
        ∙ put_at-other m n (Some (entry_of l)) k
        (ne_eqb k n (λ same. none-some entry (sym unsent ∙ ap m (sym same) ∙ at))) ∙ at
    | inr lost ↦ ap (λ (f : Messages T U). f k) lost.1 ∙ at
  ]
