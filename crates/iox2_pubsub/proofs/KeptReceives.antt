-- What a receive and a question leave of what waits for a subscriber whose update loses nothing, and a send of what
-- waits from others.
use Rattle.std.proofs.Common.{◌≡◌, ℕ, suc, true, length, refl, sym, ap, subst, ◌∙◌, Option, None, Some, Result, Ok, Err}
use Rattle.std.proofs.Common.{◌⊎◌, inl, inr, ⊎_elim}
use mathlib.Core.Path.{fun_ext}
use Rattle.std.specs.Prelude.{◌≢◌}
use Rattle.std.proofs.lemmas.Bool.{true≢false, ne_eqb}
use Rattle.std.proofs.lemmas.Option.{none-some, same_Some}
use Rattle.iox2_machine.specs.machine.Mailbox.{Mailbox}
use Rattle.iox2_machine.specs.machine.Numbers.{put_at}
use Rattle.iox2_machine.specs.machine.Receives.{Got_sample, No_sample, Receive_error, Receive}
use Rattle.iox2_machine.specs.machine.Records.{Entry, Environment, Loan, Subscriber as MachineSubscriber}
use Rattle.iox2_machine.specs.machine.State.{State, Messages, with_mailbox}
use Rattle.iox2_machine.specs.machine.SubscriberUpdate.{UpdateSubscriber}
use Rattle.iox2_machine.specs.machine.Waiting.{waiting_from}
use Rattle.iox2_machine.specs.machine.WellFormed.{IsWellFormed}
use Rattle.iox2_machine.specs.declared.errors.ConnectionFailure.{ConnectionFailure}
use Rattle.iox2_machine.specs.declared.errors.ReceiveError.{ReceiveError}
use Rattle.iox2_machine.specs.declared.errors.ReceiveError.TheVariants.{ExceedsMaxBorrows}
use Rattle.iox2_machine.specs.declared.errors.SendError.{SendError}
use Rattle.iox2_domain.specs.Kept.{Kept}
use Rattle.iox2_domain.specs.Shows.{Shows}
use Rattle.iox2_laws.proofs.Cases.{by_option, by_bool}
use Rattle.iox2_laws.proofs.PortsStay.{update_subscriber_stays}
use Rattle.iox2_laws.proofs.Puts.{put_at-other}
use Rattle.iox2_laws.proofs.SubscriberUpdates.{update_subscriber_keeps}
use Rattle.iox2_laws.proofs.UpToDate.{IsUpdated}
use Rattle.iox2_laws.proofs.WaitingCounts.{SameWaits, same_count, same_from, same_itself, waiting_for}
use Rattle.iox2_laws.proofs.WaitingReceives.{receive_none, take_waits}
use Rattle.iox2_pubsub.specs.DepartedPorts.{HasDepartedRoom}
use Rattle.iox2_pubsub.specs.Live.{IsLiveSubscriber, KeepsAll, OthersSend, WaitingStays, payloads_from, waiting}
use Rattle.iox2_pubsub.specs.ReceivedSamples.{OnNoSample, received_result}
use Rattle.iox2_pubsub.specs.SendCalls.{Sends, messages_after_send, result_of_send}
use Rattle.iox2_pubsub.specs.Sample.{Sample}
use Rattle.iox2_pubsub.specs.declared.send_outcome.SendOutcome.{SendOutcome}
use Rattle.iox2_pubsub.specs.declared.subscriber.Subscriber.{Subscriber}
use Rattle.iox2_pubsub.proofs.ConnectedCounts.{send-others}
use Rattle.iox2_pubsub.proofs.DepartedUpdates.{update-keeps-all}
use Rattle.iox2_pubsub.proofs.SentMessages.{sent-before-stays}
use Rattle.iox2_pubsub.proofs.UpToDateShown.{room-in, up-to-date-in}
use Rattle.iox2_pubsub.proofs.WaitingShown.{live-open, payloads-stay, payloads-stay-from, waiting-is}

module _ {T U : Type 0} (environment : Environment) (s : State T U) (q : ℕ) where
  -- The next update of q loses nothing.
  abbrev Keeps : Type 0
  Keeps =
      (t : State T U) (failure : Option ConnectionFailure) → UpdateSubscriber environment s q t failure → SameWaits s t

  -- there is nothing to update
  pub unchanged : IsUpdated s q → (s' : State T U) (failure : Option ConnectionFailure)
      → UpdateSubscriber environment s q s' failure → s' ≡ s
  unchanged is s' failure h =
      by_option (s' ≡ s) (s.subscribers q) _ _ h (λ _ v. absurd v) (λ y present h.
      by_bool (s' ≡ s) y.is_due _ _ h
      (λ due h. absurd (true≢false
      (sym due ∙ ap (λ (z : MachineSubscriber). z.is_due) (same_Some y is.0 (sym present ∙ is.1)) ∙ is.3)))
      (λ _ h. h.0))

  keeps-by : IsWellFormed s → IsUpdated s q ⊎ HasDepartedRoom s q 0 → Keeps
  keeps-by w how t failure h =
      ⊎_elim (λ is. subst (SameWaits s) (sym (unchanged is t failure h)) (same_itself s))
      (λ room. update-keeps-all environment s w q t failure room h) how

  same-for : (t : State T U) → SameWaits s t → waiting_for t q ≡ waiting_for s q
  same-for t same = same_count s t q same.ports (λ p. ap length (same.from p q))

  -- where nothing was received nothing waited
  kept-none : Keeps → (s' : State T U) → Receive environment s q s' No_sample → waiting_for s q ≡ 0
  kept-none keeps s' h =
      by_option (waiting_for s q ≡ 0) h.1 _ _ h.3
      (λ _ k. by_option (waiting_for s q ≡ 0) ((h.0).subscribers q) _ _ k (λ _ v. absurd v) (λ z _ k.
      sym (same-for h.0 (keeps h.0 h.1 h.2)) ∙ ap (λ (t : State T U). waiting_for t q) (sym k.1)
      ∙ receive_none environment s q s' h))
      (λ e _ k. let clash : No_sample ≡ Receive_error _ = k.1 in absurd cc)

  -- nor does anything move where nothing was received, or the receive failed
  kept-all : Keeps → (s' : State T U) → Receive environment s q s' No_sample → SameWaits s s'
  kept-all keeps s' h =
      by_option (SameWaits s s') h.1 _ _ h.3
      (λ _ k. by_option (SameWaits s s') ((h.0).subscribers q) _ _ k (λ _ v. absurd v)
      (λ z _ k. subst (SameWaits s) (sym k.1) (keeps h.0 h.1 h.2)))
      (λ e _ k. let clash : No_sample ≡ Receive_error _ = k.1 in absurd cc)

  kept-failed : Keeps → (s' : State T U) (e : ReceiveError) → Receive environment s q s' (Receive_error e)
      → SameWaits s s'
  kept-failed keeps s' e h =
      by_option (SameWaits s s') h.1 _ _ h.3
      (λ _ k. by_option (SameWaits s s') ((h.0).subscribers q) _ _ k (λ _ v. absurd v)
      (λ z _ k. subst (SameWaits s) (sym k.3) (keeps h.0 h.1 h.2)))
      (λ _ _ k. subst (SameWaits s) (sym k.0) (keeps h.0 h.1 h.2))

  -- where there is nothing to update, a receive fails at the limit of borrows alone
  pub no-failure : IsUpdated s q → (t : State T U) (failure : Option ConnectionFailure)
      → UpdateSubscriber environment s q t failure → failure ≡ None
  no-failure is t failure h =
      by_option (failure ≡ None) (s.subscribers q) _ _ h (λ _ v. absurd v) (λ y present h.
      by_bool (failure ≡ None) y.is_due _ _ h
      (λ due h. absurd (true≢false
      (sym due ∙ ap (λ (z : MachineSubscriber). z.is_due) (same_Some y is.0 (sym present ∙ is.1)) ∙ is.3)))
      (λ _ h. h.1))

  pub updated-unfailed : IsUpdated s q → (s' : State T U) (e : ReceiveError)
      → Receive environment s q s' (Receive_error e) → e ≡ ExceedsMaxBorrows
  updated-unfailed is s' e h =
      by_option (e ≡ ExceedsMaxBorrows) h.1 _ _ h.3
      (λ _ k. by_option (e ≡ ExceedsMaxBorrows) ((h.0).subscribers q) _ _ k (λ _ v. absurd v) (λ z _ k. k.0))
      (λ f failed _. absurd (none-some f (sym (no-failure is h.0 h.1 h.2) ∙ failed)))

  -- what waits from others than the publisher of what was received waits still
  kept-others : Keeps → (p n : ℕ) (s' : State T U) → Receive environment s q s' (Got_sample p n) → (i : ℕ) → i ≢ p
      → waiting_from s' i q ≡ waiting_from s i q
  kept-others keeps p n s' h i away =
      by_option (waiting_from s' i q ≡ waiting_from s i q) h.1 _ _ h.3
      (λ _ k.
      by_option (waiting_from s' i q ≡ waiting_from s i q) ((h.0).subscribers q) _ _ k (λ _ v. absurd v) (λ z _ k.
      ap (λ (t : State T U). waiting_from t i q) k.3
      ∙ same_from h.0 (with_mailbox h.0 p q k.1) i q refl
      (ap (λ (row : ℕ → Mailbox). (row q).waiting)
      (put_at-other (h.0).mailboxes p (put_at ((h.0).mailboxes p) q k.1) i (ne_eqb i p away)))
      ∙ (keeps h.0 h.1 h.2).from i q))
      (λ e _ k. let clash : Got_sample p n ≡ Receive_error _ = k.1 in absurd cc)

  -- exactly one fewer waits where one was received
  kept-one-fewer : Keeps → IsWellFormed s → (p n : ℕ) (s' : State T U) (y : MachineSubscriber)
      → s.subscribers q ≡ Some y → y.is_open ≡ true → Receive environment s q s' (Got_sample p n)
      → suc (waiting_for s' q) ≡ waiting_for s q
  kept-one-fewer keeps w p n s' y here is_open h =
      let there = ((update_subscriber_stays environment s q h.0 h.1 h.2).remain).subscribers q y here is_open in
      by_option (suc (waiting_for s' q) ≡ waiting_for s q) h.1 _ _ h.3
      (λ _ k.
      by_option (suc (waiting_for s' q) ≡ waiting_for s q) ((h.0).subscribers q) _ _ k (λ _ v. absurd v) (λ z at k.
      let open_now : z.is_open ≡ true =
      ap (λ (v : MachineSubscriber). v.is_open) (same_Some z there.0 (sym at ∙ there.1)) ∙ there.2 in
      take_waits h.0 q z s' p n (update_subscriber_keeps environment s q h.0 h.1 w h.2) at open_now k
      ∙ same-for h.0 (keeps h.0 h.1 h.2)))
      (λ e _ k. let clash : Got_sample p n ≡ Receive_error _ = k.1 in absurd cc)

module _ {T U F G : Type 0} (old new : Kept T U F G) (m m' : Messages T U) (s s' : State T U) (shown : Shows old m s)
    (shown' : Shows new m' s') (environment : Environment) (subscriber : Subscriber)
    (all : KeepsAll old subscriber) where
  keeps : Keeps environment s subscriber.id
  keeps = keeps-by environment s subscriber.id shown.well_formed
      (⊎_elim (λ is. inl (up-to-date-in old m s shown subscriber is))
      (λ has. inr (room-in old m s shown subscriber 0 has)) all)

  pub nothing-waited : Receive environment s subscriber.id s' No_sample → waiting old subscriber ≡ 0
  nothing-waited h = waiting-is old m s shown subscriber ∙ kept-none environment s subscriber.id keeps s' h

  pub one-fewer-waits : IsLiveSubscriber old subscriber → (p n : ℕ)
      → Receive environment s subscriber.id s' (Got_sample p n) → suc (waiting new subscriber) ≡ waiting old subscriber
  one-fewer-waits live p n h =
      let has = live-open old new m m' s s' shown shown' subscriber live.there in
      ap suc (waiting-is new m' s' shown' subscriber)
      ∙ kept-one-fewer environment s subscriber.id keeps shown.well_formed p n s' has.0 has.1 has.2 h
      ∙ sym (waiting-is old m s shown subscriber)

  pub others-wait-still : ((n : ℕ) (entry : Entry T U) → m n ≡ Some entry → m' n ≡ Some entry) → (p n : ℕ)
      → Receive environment s subscriber.id s' (Got_sample p n)
      → (other : ℕ) → other ≢ p → payloads_from new other subscriber ≡ payloads_from old other subscriber
  others-wait-still sent p n h other away = payloads-stay-from old new m m' s s' shown shown' sent other subscriber
      (kept-others environment s subscriber.id keeps p n s' h other away)

  -- a receive that gives nothing loses nothing
  pub nothing-moves : ((n : ℕ) (entry : Entry T U) → m n ≡ Some entry → m' n ≡ Some entry)
      → (result : Result (Option Sample) ReceiveError)
      → Receive environment s subscriber.id s' (received_result result) → OnNoSample result (WaitingStays old new)
  nothing-moves sent (Ok None) h =
      payloads-stay old new m m' s s' shown shown' sent (kept-all environment s subscriber.id keeps s' h)
  nothing-moves sent (Ok (Some it)) h = tt
  nothing-moves sent (Err e) h =
      payloads-stay old new m m' s s' shown shown' sent (kept-failed environment s subscriber.id keeps s' e h)

  -- a question loses nothing
  pub question-waits : ((n : ℕ) (entry : Entry T U) → m n ≡ Some entry → m' n ≡ Some entry)
      → (failure : Option ConnectionFailure) → UpdateSubscriber environment s subscriber.id s' failure
      → WaitingStays old new
  question-waits sent failure h = payloads-stay old new m m' s s' shown shown' sent (keeps s' failure h)

-- a send leaves what waits from others than its publisher
pub others-send : {T U F G : Type 0} (old new : Kept T U F G) (m : Messages T U) (s : State T U) → Shows old m s
    → (environment : Environment) (n : ℕ) (l : Loan T U) (p : ℕ)
    (result : Result SendOutcome SendError) (s' : State T U) → Shows new (messages_after_send m n l result) s'
    → Sends environment s n l result s' → m n ≡ None → l.publisher ≡ p → OthersSend p old new
others-send old new m s shown environment n l p result s' shown' h unsent its = λ other away.
    fun_ext (λ subscriber. payloads-stay-from old new m (messages_after_send m n l result) s s' shown shown'
    (sent-before-stays m n l result unsent) other subscriber
    (send-others environment s n l s' (result_of_send result) h other subscriber.id (λ same. away (same ∙ its))))
