-- What a send that fails leaves for a subscriber with which its publisher is connected: a handler that failed it let it
-- go on to all others, and any other error came before the message was sent.
use Rattle.std.proofs.Common.{◌≡◌, ℕ, ◌⊎◌, inl, inr, ⊎_elim, Bool, true, false, cond, List, sym, ap, subst, ◌∙◌, Option}
use Rattle.std.proofs.Common.{None, Some, Result, Ok, Err}
use Rattle.std.specs.Prelude.{◌≢◌, IfErr}
use Rattle.std.proofs.lemmas.Option.{same_Some}
use Rattle.std.specs.declared.time.Duration.{Duration}
use Rattle.iox2_machine.specs.machine.Delivery.{DeliveryEnd, Complete, Suspended, no_time}
use Rattle.iox2_machine.specs.machine.Loans.{entry_of}
use Rattle.iox2_machine.specs.machine.Mailbox.{Mailbox}
use Rattle.iox2_machine.specs.machine.PublisherUpdate.{UpdatePublisher}
use Rattle.iox2_machine.specs.machine.Records.{Environment, Loan, Publisher, Subscriber}
use Rattle.iox2_machine.specs.machine.Sends.{ConcludeSend, DeliverAndConclude, Publish, Send, Blocked_send}
use Rattle.iox2_machine.specs.machine.Sends.{Delivered_to, Send_error, published, with_mailboxes}
use Rattle.iox2_machine.specs.machine.State.{State, Messages, is_blocked}
use Rattle.iox2_machine.specs.machine.WellFormed.{LeadsTo, IsWellFormed}
use Rattle.iox2_machine.specs.declared.errors.ConnectionFailure.{ConnectionFailure}
use Rattle.iox2_machine.specs.declared.errors.SendError.{SendError}
use Rattle.iox2_machine.specs.declared.errors.SendError.TheVariants.{ConnectionBrokenSinceSenderNoLongerExists}
use Rattle.iox2_machine.specs.declared.errors.SendError.TheVariants.{ConnectionError, UnableToDeliver}
use Rattle.iox2_laws.specs.Sendings.{sending}
use Rattle.iox2_laws.proofs.Cases.{by_option, by_bool}
use Rattle.iox2_laws.proofs.PlaceLemmas.{IsOnce-occupants, contains-occupants}
use Rattle.iox2_laws.proofs.PublisherUpdates.{update_publisher_keeps}
use Rattle.iox2_laws.proofs.Puts.{put_at-same}
use Rattle.iox2_laws.proofs.UpToDate.{update_publisher_subscribers}
use Rattle.iox2_domain.specs.Kept.{Kept, state_of}
use Rattle.iox2_domain.specs.Shows.{Shows}
use Rattle.iox2_pubsub.specs.ConnectedPorts.{Connects}
use Rattle.iox2_pubsub.specs.Live.{HasItsBuffer, IsConnected, IsServed, WaitingStays}
use Rattle.iox2_pubsub.specs.SendCalls.{AfterError, Sends, messages_after_send}
use Rattle.iox2_pubsub.specs.Slices.{HasValues}
use Rattle.iox2_pubsub.specs.declared.send_outcome.SendOutcome.{SendOutcome}
use Rattle.iox2_pubsub.specs.declared.subscriber.Subscriber.{Subscriber as Handle}
use Rattle.iox2_pubsub.proofs.ConnectedCounts.{send-touches}
use Rattle.iox2_pubsub.proofs.ConnectedSends.{update-publisher-connected}
use Rattle.iox2_pubsub.proofs.ConnectionsShown.{loan-values}
use Rattle.iox2_pubsub.proofs.CopiesServe.{served-since}
use Rattle.iox2_pubsub.proofs.PendingDeliveries.{Comes, goes-on-comes, served_box}
use Rattle.iox2_pubsub.proofs.PendingShown.{as-before, box-served}
use Rattle.iox2_pubsub.proofs.PendingSteps.{takes-buffer}
use Rattle.iox2_pubsub.proofs.SendsServe.{send-connections}
use Rattle.iox2_pubsub.proofs.SentMessages.{sent-before-stays}
use Rattle.iox2_pubsub.proofs.UpToDateShown.{connected-in}

-- a delivery that has ended fails so
failed-end : {T U : Type 0} (s : State T U) (p n : ℕ) (how : DeliveryEnd) (s' : State T U) (error : SendError)
    → ConcludeSend s p n how s' (Send_error error) → error ≡ UnableToDeliver
failed-end s p n (Complete count failed) s' error h = by failed h.1 where
  by : (b : Bool) → Send_error error ≡ cond b (Send_error UnableToDeliver) (Delivered_to count)
      → error ≡ UnableToDeliver
  by true is = cc
  by false is = let clash : Send_error error ≡ Delivered_to count = is in absurd cc
failed-end s p n (Suspended b) s' error h = let clash : Send_error error ≡ Blocked_send = h.1 in absurd cc

module _ {T U : Type 0} (environment : Environment) where
  pub failed-delivery : (s : State T U) (p n retries : ℕ) (elapsed : Duration) (place : ℕ) (ends : List (Option ℕ))
      (count : ℕ) (failed : Bool) (s' : State T U) (error : SendError)
      → DeliverAndConclude environment s p (sending n 0 retries place ends count failed) elapsed s' (Send_error error)
      → error ≡ UnableToDeliver
  failed-delivery s p n retries elapsed place ends count failed s' error h =
      by_option (error ≡ UnableToDeliver) (s.publishers p) _ _ h (λ _ v. absurd v)
      (λ z _ k. failed-end (with_mailboxes s p k.1) p n k.0 s' error k.3)

  -- The receiver q was served, though the send failed; or nothing moved there.
  abbrev Fails : (s s' : State T U) (p n q buffer : ℕ) → SendError → Type 0
  Fails s s' p n q buffer error =
      ((error ≡ UnableToDeliver)
      × (s'.mailboxes p q ≡ served_box (s.config).enable_safe_overflow buffer n (s.mailboxes p q)))
      ⊎ ((error ≢ UnableToDeliver) × (s'.mailboxes p q ≡ s.mailboxes p q))

  publish-fails : (s : State T U) (w : IsWellFormed s) (p q : ℕ) (c : Connects s p q) (n : ℕ) (s' : State T U)
      (error : SendError) → Publish environment s p n s' (Send_error error)
      → Fails s s' p n q (c.subscriber).buffer error
  publish-fails s w p q c n s' error h =
      by_option (Fails s s' p n q (c.subscriber).buffer error) (s.publishers p) _ _ h (λ _ v. absurd v) (λ x present k.
      let same : c.publisher ≡ x = same_Some c.publisher x (sym c.stands ∙ present) in
      let comes : Comes (published s p n) s' p n q (c.subscriber).buffer (Send_error error) =
      goes-on-comes environment (published s p n) p n 0 no_time 0 x.ends 0 false s' (Send_error error) k q
      (c.subscriber).buffer (takes-buffer environment s w p q c)
      (contains-occupants x.ends q (subst (λ (z : Publisher). LeadsTo z.ends q) same c.sends))
      (IsOnce-occupants x.ends (w.publishers p x present).ends_apart) in
      ⊎_elim
      (λ ended. inl (failed-delivery (published s p n) p n 0 no_time 0 x.ends 0 false s' error k, ended.1))
      (λ waits. let clash : Send_error error ≡ Blocked_send = waits.0 in absurd cc)
      comes)

  send-fails : (s : State T U) (n : ℕ) (l : Loan T U) (s' : State T U) (w : IsWellFormed s)
      → is_blocked s l.publisher ≡ false → (q : ℕ) (c : Connects s l.publisher q) (error : SendError)
      → Send environment s n l s' (Send_error error) → Fails s s' l.publisher n q (c.subscriber).buffer error
  send-fails s n l s' w free q c error h =
      by_option (Fails s s' l.publisher n q (c.subscriber).buffer error) (s.publishers l.publisher) _ _ h
      (λ _ k. inr (broken k.1, ap (λ (t : State T U). t.mailboxes l.publisher q) k.0))
      (λ x _ k. by_option (Fails s s' l.publisher n q (c.subscriber).buffer error) k.1 _ _ k.3
      (λ _ j. after k.0 k.1 k.2 j)
      (λ e _ j. inr (
        unconnected e j.1,
        ap (λ (t : State T U). t.mailboxes l.publisher q) j.0
            ∙ (update-publisher-connected environment s w l.publisher q c l.publisher k.0 k.1 k.2).1,
      )))
    where
      broken : Send_error error ≡ Send_error ConnectionBrokenSinceSenderNoLongerExists → error ≢ UnableToDeliver
      broken is = λ no. let clash : ConnectionBrokenSinceSenderNoLongerExists ≡ UnableToDeliver = cc in absurd cc

      unconnected : (e : ConnectionFailure) → Send_error error ≡ Send_error (ConnectionError e)
          → error ≢ UnableToDeliver
      unconnected e is = λ no. let clash : ConnectionError e ≡ UnableToDeliver = cc in absurd cc

      overflow : (mid : State T U) (failure : Option ConnectionFailure)
          → UpdatePublisher environment s l.publisher mid failure
          → (mid.config).enable_safe_overflow ≡ (s.config).enable_safe_overflow
      overflow mid failure updates =
          by_option ((mid.config).enable_safe_overflow ≡ (s.config).enable_safe_overflow)
          (s.publishers l.publisher) _ _ updates (λ _ v. absurd v) (λ x _ k.
          by_bool ((mid.config).enable_safe_overflow ≡ (s.config).enable_safe_overflow) x.is_due _ _ k
          (λ _ j. ap (λ (t : State T U). (t.config).enable_safe_overflow) j.2)
          (λ _ j. ap (λ (t : State T U). (t.config).enable_safe_overflow) j.0))

      after : (mid : State T U) (failure : Option ConnectionFailure)
          → UpdatePublisher environment s l.publisher mid failure
          → Publish environment mid l.publisher n s' (Send_error error)
          → Fails s s' l.publisher n q (c.subscriber).buffer error
      after mid failure updates publishes =
          let kept = update-publisher-connected environment s w l.publisher q c l.publisher mid failure updates in
          let v : IsWellFormed mid = update_publisher_keeps environment s l.publisher mid failure w free updates in
          let there : mid.subscribers q ≡ Some c.subscriber =
          ap (λ (f : ℕ → Option Subscriber). f q)
          (update_publisher_subscribers environment s l.publisher mid failure updates) ∙ c.there in
          let same : (kept.0).subscriber ≡ c.subscriber =
          same_Some (kept.0).subscriber c.subscriber (sym (kept.0).there ∙ there) in
          let box : served_box (mid.config).enable_safe_overflow ((kept.0).subscriber).buffer n
          (mid.mailboxes l.publisher q) ≡ served_box (s.config).enable_safe_overflow (c.subscriber).buffer n
          (s.mailboxes l.publisher q) =
          ap (λ (y : Subscriber). served_box (mid.config).enable_safe_overflow y.buffer n (mid.mailboxes l.publisher q))
          same
          ∙ ap (λ (b : Mailbox). served_box (mid.config).enable_safe_overflow (c.subscriber).buffer n b) kept.1
          ∙ ap (λ (b : Bool). served_box b (c.subscriber).buffer n (s.mailboxes l.publisher q))
          (overflow mid failure updates) in
          ⊎_elim (λ it. inl (it.0, it.1 ∙ box)) (λ it. inr (it.0, it.1 ∙ kept.1))
          (publish-fails mid v l.publisher q kept.0 n s' error publishes)

-- ---- for the calls

-- after an error of delivery, the message is one
pub error-messages : {T U : Type 0} (m : Messages T U) (n : ℕ) (l : Loan T U) (error : SendError)
    → error ≡ UnableToDeliver
    → messages_after_send m n l (Err error) n ≡ Some (entry_of l)
error-messages m n l error is = subst (λ (e : SendError). messages_after_send m n l (Err e) n ≡ Some (entry_of l))
    (sym is) (put_at-same m n (Some (entry_of l)))

pub sends-fail : {T U F G : Type 0} (old new : Kept T U F G) (m : Messages T U) (s : State T U)
    (environment : Environment) → Shows old m s
    → (n : ℕ) (l : Loan T U) (p : ℕ) (result : Result SendOutcome SendError) (s' : State T U)
    → Shows new (messages_after_send m n l result) s' → Sends environment s n l result s' → m n ≡ None
    → s.loans n ≡ Some l → l.publisher ≡ p → is_blocked (state_of old) p ≡ false
    → (subscriber : Handle) (values : List T) → IsConnected old p subscriber → HasValues old n values
    → IfErr result (AfterError old new p subscriber values)
sends-fail old new m s environment shown n l p (Ok outcome) s' shown' h unsent out its free subscriber values is reads =
    tt
sends-fail {T} {U} old new m s environment shown n l p
    (Err error) s' shown' h unsent out its free subscriber values is reads =
    let here : IsConnected old l.publisher subscriber = subst (λ (i : ℕ). IsConnected old i subscriber) (sym its) is in
    let open_now : is_blocked s l.publisher ≡ false =
    ap (λ (t : State T U). is_blocked t l.publisher) shown.state ∙ ap (is_blocked (state_of old)) its ∙ free in
    let c = connected-in old m s shown l.publisher subscriber here in
    let touches = send-touches environment s n l s' (Send_error error) h in
    let sent = sent-before-stays m n l (Err error) unsent in
    let fails = send-fails environment s n l s' shown.well_formed open_now subscriber.id c error h in (
      λ is_undelivered. ⊎_elim
          (λ it. subst (λ (i : ℕ). IsServed old new i subscriber values) its
          (subst (IsServed old new l.publisher subscriber) (loan-values old m s shown n l values out reads)
          (box-served old new m (messages_after_send m n l (Err error)) s s' shown shown' sent l.publisher touches n
          (entry_of l) (error-messages m n l error is_undelivered)
          (send-connections environment s n l s' (Send_error error) shown.well_formed h)
          subscriber here c it.1)))
          (λ it. absurd (it.0 is_undelivered))
          fails,
      λ other. ⊎_elim
          (λ it. absurd (other it.0))
          (λ it. as-before old new m
          (messages_after_send m n l (Err error)) s s' shown shown' sent l.publisher touches subscriber it.1)
          fails,
    )

-- what a copy's send leaves, seen from before
pub copy-fails : {T U F G : Type 0} (old mid new : Kept T U F G) (waits : WaitingStays old mid)
    (settings : mid.config ≡ old.config) → ((it : Handle) → HasItsBuffer old it → HasItsBuffer mid it)
    → (p lender : ℕ) → lender ≡ p → (subscriber : Handle) (values : List T) (result : Result SendOutcome SendError)
    → IfErr result (AfterError mid new lender subscriber values) → IfErr result (AfterError old new p subscriber values)
copy-fails old mid new waits settings buffers p lender its subscriber values (Ok outcome) after = tt
copy-fails {T} {U} {F} {G} old mid new waits settings buffers p lender its subscriber values (Err error) after = (
  λ is. subst (λ (i : ℕ). IsServed old new i subscriber values) its
      (served-since old mid new waits settings buffers lender subscriber values (after.0 is)),
  λ other.
      let same = after.1 other in
      record {
        all = same.all ∙ ap (λ (f : Handle → List (List T)). f subscriber) waits.all;
        from = λ i. same.from i ∙ ap (λ (f : ℕ → Handle → List (List T)). f i subscriber) waits.from;
      },
)
