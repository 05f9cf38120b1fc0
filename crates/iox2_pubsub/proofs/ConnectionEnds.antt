-- How a send into channel 0 of one connection ends that is blocked, or fails, seen from outside.
use Rattle.std.proofs.Common.{◌≡◌, ℕ, ⊎_elim, true, false, List, [], ◌∷◌, drop, take, refl, sym, ap, subst, ◌∙◌, Option}
use Rattle.std.proofs.Common.{None, Some, Result, Ok, Err}
use Rattle.std.specs.Prelude.{IfErr, IfOk}
use Rattle.iox2_machine.specs.machine.Delivery.{no_time}
use Rattle.iox2_machine.specs.machine.Loans.{entry_of}
use Rattle.iox2_machine.specs.machine.Numbers.{contains, IsOnce}
use Rattle.iox2_machine.specs.machine.Places.{occupants}
use Rattle.iox2_machine.specs.machine.Records.{Environment, Loan}
use Rattle.iox2_machine.specs.machine.Sends.{Blocked_send, Send_error}
use Rattle.iox2_machine.specs.machine.State.{State, Messages, with_loan}
use Rattle.iox2_machine.specs.declared.errors.SendError.{SendError}
use Rattle.iox2_machine.specs.declared.errors.SendError.TheVariants.{UnableToDeliver}
use Rattle.iox2_machine.specs.declared.key.Key.{Key}
use Rattle.iox2_laws.proofs.NumberLemmas.{contains_one}
use Rattle.iox2_domain.specs.Kept.{Kept, state_of}
use Rattle.iox2_domain.specs.Shows.{Shows}
use Rattle.iox2_pubsub.specs.BlockedSends.{IsNext, waits_for}
use Rattle.iox2_pubsub.specs.Live.{IsAtConnection, IsBlockedSend, IsConnected, IsFull, IsServed, blocked_key}
use Rattle.iox2_pubsub.specs.SendCalls.{AfterError, IfBlocked, SendsToConnection, messages_after_send}
use Rattle.iox2_pubsub.specs.Slices.{HasValues}
use Rattle.iox2_pubsub.specs.declared.send_outcome.SendOutcome.{SendOutcome}
use Rattle.iox2_pubsub.specs.declared.send_outcome.SendOutcome.TheVariants.{Blocked, Delivered}
use Rattle.iox2_pubsub.specs.declared.subscriber.Subscriber.{Subscriber}
use Rattle.iox2_pubsub.proofs.ConnectionSendShown.{to-connections}
use Rattle.iox2_pubsub.proofs.ConnectionServes.{comes, delivers, ends, one-end, stands, touches}
use Rattle.iox2_pubsub.proofs.ConnectionsShown.{loan-values}
use Rattle.iox2_pubsub.proofs.FailedSends.{error-messages, failed-delivery}
use Rattle.iox2_pubsub.proofs.FullEnds.{Stops, full-connected, goes-on-stops}
use Rattle.iox2_pubsub.proofs.FullReceivers.{next-is-full}
use Rattle.iox2_pubsub.proofs.PendingShown.{box-served, next-is}
use Rattle.iox2_pubsub.proofs.PendingSteps.{first-waits}
use Rattle.iox2_pubsub.proofs.SentMessages.{sent-before-stays}
use Rattle.iox2_pubsub.proofs.UpToDateShown.{connected-in}

module _ {T U F G : Type 0} (old new : Kept T U F G) (m : Messages T U) (s : State T U) (shown : Shows old m s)
    (environment : Environment) (n : ℕ) (l : Loan T U) (out : s.loans n ≡ Some l) (p : ℕ) (its : l.publisher ≡ p)
    (channel place : ℕ) (first : channel ≡ 0) where
  in-first : (result : Result SendOutcome SendError) (s' : State T U)
      → SendsToConnection environment s n l channel place result s'
      → SendsToConnection environment s n l 0 place result s'
  in-first result s' h = subst (λ (k : ℕ). SendsToConnection environment s n l k place result s') first h

  -- where it fails, its subscriber was served
  pub sends-to-fail : (result : Result SendOutcome SendError) (s' : State T U)
      → Shows new (messages_after_send m n l result) s' → SendsToConnection environment s n l channel place result s'
      → (subscriber : Subscriber) (values : List T) → IsAtConnection old p place subscriber
      → IsConnected old p subscriber → HasValues old n values
      → IfErr result (AfterError old new p subscriber values)
  sends-to-fail (Ok outcome) s' shown' h subscriber values at is reads = tt
  sends-to-fail (Err error) s' shown' h subscriber values at is reads =
      let step = in-first (Err error) s' h in
      let joined : IsConnected old l.publisher subscriber =
      subst (λ (i : ℕ). IsConnected old i subscriber) (sym its) is in
      let undelivered : error ≡ UnableToDeliver =
      failed-delivery environment (with_loan s n None) l.publisher n 0 no_time place
      (take 1 (drop place
      (ends old new m s shown environment n l out p its place (Err error) s' shown' step subscriber at is))) 0 false s'
      error (delivers old new m s shown environment n l out p its place (Err error) s' shown' step subscriber at is) in
      let served : IsServed old new l.publisher subscriber (entry_of l).values =
      box-served old new m (messages_after_send m n l (Err error)) s s' shown shown'
      (sent-before-stays m n l (Err error) (shown.unsent n l out)) l.publisher
      (touches old new m s shown environment n l out p its place (Err error) s' shown' step subscriber at is) n
      (entry_of l) (error-messages m n l error undelivered)
      (to-connections environment s n l 0 place s' (Send_error error) step)
      subscriber joined
      (connected-in old m s shown l.publisher subscriber joined)
      (⊎_elim (λ it. it.1)
      (λ it. absurd (let clash : Send_error error ≡ Blocked_send = it.0 in cc))
      (comes old new m s shown environment n l out p its place (Err error) s' shown' step subscriber at is)) in (
        λ _. subst (λ (i : ℕ). IsServed old new i subscriber values) its
            (subst (IsServed old new l.publisher subscriber) (loan-values old m s shown n l values out reads) served),
        λ other. absurd (other undelivered),
      )

  -- where it is blocked, its subscriber is the one that it waits for, and was full
  pub sends-to-full : (result : Result SendOutcome SendError) (s' : State T U)
      → Shows new (messages_after_send m n l result) s' → SendsToConnection environment s n l channel place result s'
      → (key : Key) → key.port ≡ p → IfOk result
      (λ outcome. IfBlocked outcome (λ blocked. IsBlockedSend new blocked × (blocked_key blocked ≡ key)))
      → (subscriber : Subscriber) → IsAtConnection old p place subscriber → IsConnected old p subscriber
      → IfOk result (λ outcome. IfBlocked outcome (λ blocked. IsNext new blocked subscriber × IsFull old p subscriber))
  sends-to-full (Ok (Delivered count)) s' shown' h key port blocked subscriber at is = tt
  sends-to-full (Err error) s' shown' h key port blocked subscriber at is = tt
  sends-to-full (Ok (Blocked again)) s' shown' h key port blocked subscriber at is =
      let result : Result SendOutcome SendError = Ok (Blocked again) in
      let step = in-first result s' h in
      let one : take 1 (drop place
      (ends old new m s shown environment n l out p its place result s' shown' step subscriber at is)) ≡ Some
      subscriber.id ∷ [] =
      one-end (ends old new m s shown environment n l out p its place result s' shown' step subscriber at is) place
      subscriber.id (stands old new m s shown environment n l out p its place result s' shown' step subscriber at is) in
      let it = goes-on-stops environment (with_loan s n None) l.publisher n 0 no_time place
      (take 1 (drop place
      (ends old new m s shown environment n l out p its place result s' shown' step subscriber at is))) 0 false s'
      (subst (λ (es : List (Option ℕ)). IsOnce (occupants es)) (sym one) (refl, tt))
      (delivers old new m s shown environment n l out p its place result s' shown' step subscriber at is) in
      let here : subscriber.id ≡ it.receiver =
      contains_one subscriber.id it.receiver
      (subst (λ (es : List (Option ℕ)). contains (occupants es) it.receiver ≡ true) one it.among) in
      let stops : Stops s s' l.publisher n
      (take 1 (drop place
      (ends old new m s shown environment n l out p its place result s' shown' step subscriber at is))) =
      record { receiver = it.receiver; among = it.among; goes = it.goes; first = it.first; full = it.full } in
      let waits : waits_for (state_of new) l.publisher ≡ Some subscriber.id =
      ap (λ (t : State T U). waits_for t l.publisher) (sym shown'.state)
      ∙ first-waits s' shown'.well_formed l.publisher n it.receiver it.goes it.first
      ∙ ap (λ (i : ℕ). Some i) (sym here) in
      let joined : IsConnected old l.publisher subscriber =
      subst (λ (i : ℕ). IsConnected old i subscriber) (sym its) is in
      let sender : l.publisher ≡ again.loan.publisher = its ∙ sym port ∙ ap (λ (k : Key). k.port) (sym blocked.1) in (
        next-is new again subscriber (ap (waits_for (state_of new)) (sym sender) ∙ waits),
        subst (λ (i : ℕ). IsFull old i subscriber) its
            (next-is-full old new m (messages_after_send m n l result) s s' shown shown' l.publisher n
            (full-connected environment s shown.well_formed s' l.publisher n _ stops) subscriber joined waits).0,
      )
