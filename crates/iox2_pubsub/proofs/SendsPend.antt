-- What a send that is blocked leaves for each subscriber with which its publisher is connected.
use Rattle.std.proofs.Common.{◌≡◌, ℕ, List, sym, ap, subst, ◌∙◌, inl, inr, ⊎_elim, false, None, Some, Result, Ok, Err}
use Rattle.std.specs.Prelude.{IfOk}
use Rattle.iox2_machine.specs.machine.Loans.{entry_of}
use Rattle.iox2_machine.specs.machine.Numbers.{put_at}
use Rattle.iox2_machine.specs.machine.Records.{Environment, Loan}
use Rattle.iox2_machine.specs.machine.Sends.{Blocked_send}
use Rattle.iox2_machine.specs.machine.State.{State, Messages, is_blocked}
use Rattle.iox2_machine.specs.declared.errors.SendError.{SendError}
use Rattle.iox2_machine.specs.declared.key.Key.{Key}
use Rattle.iox2_laws.proofs.Puts.{put_at-same}
use Rattle.iox2_domain.specs.Kept.{Kept, state_of}
use Rattle.iox2_domain.specs.Shows.{Shows}
use Rattle.iox2_pubsub.specs.Live.{HasItsBuffer, IsBlockedSend, IsConnected, IsServedOrPending, WaitingStays}
use Rattle.iox2_pubsub.specs.Live.{blocked_key}
use Rattle.iox2_pubsub.specs.SendCalls.{IfBlocked, Sends, messages_after_send}
use Rattle.iox2_pubsub.specs.Slices.{HasValues}
use Rattle.iox2_pubsub.specs.declared.send_outcome.SendOutcome.{SendOutcome}
use Rattle.iox2_pubsub.specs.declared.send_outcome.SendOutcome.TheVariants.{Blocked, Delivered}
use Rattle.iox2_pubsub.specs.declared.subscriber.Subscriber.{Subscriber}
use Rattle.iox2_pubsub.proofs.ConnectedCounts.{send-touches}
use Rattle.iox2_pubsub.proofs.ConnectionsShown.{loan-values}
use Rattle.iox2_pubsub.proofs.CopiesServe.{served-since}
use Rattle.iox2_pubsub.proofs.PendingShown.{split-shown}
use Rattle.iox2_pubsub.proofs.PendingSteps.{send-splits}
use Rattle.iox2_pubsub.proofs.SendsServe.{send-connections}
use Rattle.iox2_pubsub.proofs.SentMessages.{sent-before-stays}
use Rattle.iox2_pubsub.proofs.UpToDateShown.{connected-in}

module _ {T U F G : Type 0} (old new : Kept T U F G) (m : Messages T U) (s : State T U) (environment : Environment)
    (shown : Shows old m s) where
  pub send-pends : (n : ℕ) (l : Loan T U) (p : ℕ) (result : Result SendOutcome SendError) (s' : State T U)
      → Shows new (messages_after_send m n l result) s' → Sends environment s n l result s' → m n ≡ None
      → s.loans n ≡ Some l → l.publisher ≡ p → is_blocked (state_of old) p ≡ false → (key : Key) → key.port ≡ p
      → key.message ≡ n
      → IfOk result (λ outcome. IfBlocked outcome (λ blocked. IsBlockedSend new blocked × (blocked_key blocked ≡ key)))
      → (subscriber : Subscriber) (values : List T) → IsConnected old p subscriber → HasValues old n values
      → IfOk result (λ outcome. IfBlocked outcome (λ blocked. IsServedOrPending old new blocked subscriber values))
  send-pends n l p
      (Ok (Delivered count)) s' shown' h unsent out its free key port message blocked subscriber values is reads = tt
  send-pends n l p (Err error) s' shown' h unsent out its free key port message blocked subscriber values is reads = tt
  send-pends n l p
      (Ok (Blocked again)) s' shown' h unsent out its free key port message blocked subscriber values is reads =
      let here : IsConnected old l.publisher subscriber =
      subst (λ (i : ℕ). IsConnected old i subscriber) (sym its) is in
      let open_now : is_blocked s l.publisher ≡ false =
      ap (λ (t : State T U). is_blocked t l.publisher) shown.state ∙ ap (is_blocked (state_of old)) its ∙ free in
      let c = connected-in old m s shown l.publisher subscriber here in
      split-shown old new m (put_at m n (Some (entry_of l))) s s' shown shown'
      (sent-before-stays m n l (Ok (Blocked again)) unsent) l.publisher
      (send-touches environment s n l s' Blocked_send h) n (entry_of l)
      (put_at-same m n (Some (entry_of l))) (send-connections environment s n l s' Blocked_send shown.well_formed h)
      subscriber here c again
      (its ∙ sym port ∙ ap (λ (k : Key). k.port) (sym blocked.1))
      (sym message ∙ ap (λ (k : Key). k.message) (sym blocked.1)) blocked.0 values
      (loan-values old m s shown n l values out reads)
      (send-splits environment s n l s' shown.well_formed open_now subscriber.id c h)

-- what a copy's send leaves, seen from before
pub copy-pends : {T U F G : Type 0} (old mid new : Kept T U F G) (waits : WaitingStays old mid)
    (settings : mid.config ≡ old.config) → ((it : Subscriber) → HasItsBuffer old it → HasItsBuffer mid it)
    → (subscriber : Subscriber) (values : List T) (result : Result SendOutcome SendError)
    → IfOk result (λ outcome. IfBlocked outcome (λ blocked. IsServedOrPending mid new blocked subscriber values))
    → IfOk result (λ outcome. IfBlocked outcome (λ blocked. IsServedOrPending old new blocked subscriber values))
copy-pends old mid new waits settings buffers subscriber values (Ok (Delivered count)) pends = tt
copy-pends old mid new waits settings buffers subscriber values (Err error) pends = tt
copy-pends {T} {U} {F} {G} old mid new waits settings buffers subscriber values (Ok (Blocked blocked)) pends =
    ⊎_elim
    (λ it. inl
    (served-since old mid new waits settings buffers blocked.loan.publisher subscriber values it.0, it.1))
    (λ it. inr (
      record {
        all = it.0.all ∙ ap (λ (f : Subscriber → List (List T)). f subscriber) waits.all;
        from = λ i. it.0.from i ∙ ap (λ (f : ℕ → Subscriber → List (List T)). f i subscriber) waits.from;
      },
      it.1,
    ))
    pends
