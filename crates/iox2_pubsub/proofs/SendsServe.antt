-- A send that was delivered reaches each subscriber with which its publisher is connected, and touches no other
-- publisher's messages.
use Rattle.std.proofs.Common.{◌≡◌, ℕ, Bool, false, cond, ◌||◌, [], ◌∷◌, ◌++◌, refl, sym, ap, subst, ◌∙◌, Option, None}
use Rattle.std.proofs.Common.{Some}
use Rattle.std.specs.Option.{option_map}
use Rattle.std.proofs.lemmas.Option.{same_Some}
use Rattle.iox2_machine.specs.machine.Channel.{Channel, is_closed}
use Rattle.iox2_machine.specs.machine.Numbers.{last_n, without}
use Rattle.iox2_machine.specs.machine.Mailbox.{Mailbox, has_room, with_appended}
use Rattle.iox2_machine.specs.machine.Records.{Publisher, Subscriber, Loan, Environment}
use Rattle.iox2_machine.specs.machine.State.{State, channel_buffer, receiving_buffer, is_blocked, publisher_changed}
use Rattle.iox2_machine.specs.machine.State.{with_loan}
use Rattle.iox2_machine.specs.machine.Delivery.{DeliveryEnd, Complete, Suspended, Deliver, no_time}
use Rattle.iox2_machine.specs.machine.PublisherUpdate.{UpdatePublisher}
use Rattle.iox2_machine.specs.machine.Sends.{SendResult, Delivered_to, Blocked_send, Send_error, Send, Publish}
use Rattle.iox2_machine.specs.machine.Sends.{ConcludeSend, published, with_mailboxes}
use Rattle.iox2_machine.specs.machine.Waiting.{waiting_from}
use Rattle.iox2_machine.specs.machine.WellFormed.{LeadsTo, IsWellFormed}
use Rattle.iox2_machine.specs.declared.errors.ConnectionFailure.{ConnectionFailure}
use Rattle.iox2_laws.proofs.Cases.{by_option, by_bool}
use Rattle.iox2_laws.proofs.PlaceLemmas.{contains-occupants, IsOnce-occupants}
use Rattle.iox2_laws.proofs.PublisherUpdates.{update_publisher_keeps}
use Rattle.iox2_laws.proofs.Puts.{put_at-same, at_each}
use Rattle.iox2_laws.proofs.UpToDate.{update_publisher_subscribers}
use Rattle.iox2_laws.proofs.WaitingCounts.{by_record}
use Rattle.iox2_pubsub.specs.ConnectedPorts.{Connects}
use Rattle.iox2_pubsub.proofs.ConnectedSends.{opened-buffer, is-open, deliver-serves, update-publisher-connected}

module _ {T U : Type 0} where
  -- ---- what a send leaves of publishers

  -- Each publisher that is there stays, with the same ends.
  abbrev pub EndsStay : (s s' : State T U) → Type 0
  EndsStay s s' = (p : ℕ) (x : Publisher) → s.publishers p ≡ Some x
      → (x' : Publisher) × (s'.publishers p ≡ Some x') × (x'.ends ≡ x.ends)

  pub ends-themselves : (s s' : State T U) → s'.publishers ≡ s.publishers → EndsStay s s'
  ends-themselves s s' same p x at = (x, ap (λ (f : ℕ → Option Publisher). f p) same ∙ at, refl)

  pub ends-trans : (s t u : State T U) → EndsStay s t → EndsStay t u → EndsStay s u
  ends-trans s t u a b p x at = let v = a p x at in let w = b p v.0 v.1 in (w.0, w.1, w.2 ∙ v.2)

  pub changed-ends : (s : State T U) (i : ℕ) (change : Publisher → Publisher)
      → ((x : Publisher) → (change x).ends ≡ x.ends) → EndsStay s (publisher_changed s i change)
  changed-ends s i change keeps p x at =
      at_each s.publishers i (option_map change (s.publishers i))
      (λ k v. s.publishers k ≡ Some x → (x' : Publisher) × (v ≡ Some x') × (x'.ends ≡ x.ends)) p
      (λ here old. (change x, ap (option_map change) old, keeps x)) (λ apart old. (x, old, refl)) at

  -- connections stay where publishers keep their ends, and subscribers and channels are the same
  pub same-connections : (s s' : State T U) → EndsStay s s' → s'.subscribers ≡ s.subscribers → s'.channels ≡ s.channels
      → (p q : ℕ) → Connects s p q → Connects s' p q
  same-connections s s' ends same channels p q c =
      let there = ends p c.publisher c.stands in
      record {
        publisher = there.0;
        stands = there.1;
        sends = subst (λ es. LeadsTo es q) (sym there.2) c.sends;
        subscriber = c.subscriber;
        there = ap (λ (f : ℕ → Option Subscriber). f q) same ∙ c.there;
        receives = c.receives;
        takes = ap (λ (f : ℕ → ℕ → ℕ → Channel). is_closed (f p q 0)) channels ∙ c.takes;
      }

  pub concluded-ends : (s : State T U) (p n : ℕ) (boxes : ℕ → Mailbox) (how : DeliveryEnd) (s' : State T U)
      (result : SendResult)
      → ConcludeSend (with_mailboxes s p boxes) p n how s' result → EndsStay s s'
  concluded-ends s p n boxes (Complete count has_failed) s' result h =
      subst (EndsStay s) (sym h.0)
      (changed-ends s p (λ x. record x { loans = without n x.loans; blocked = None }) (λ x. refl))
  concluded-ends s p n boxes (Suspended b) s' result h =
      subst (EndsStay s) (sym h.0) (changed-ends s p (λ x. record x { blocked = Some b }) (λ x. refl))

  -- no message changes a channel
  pub concluded-channels : (s : State T U) (p n : ℕ) (boxes : ℕ → Mailbox) (how : DeliveryEnd) (s' : State T U)
      (result : SendResult)
      → ConcludeSend (with_mailboxes s p boxes) p n how s' result → s'.channels ≡ s.channels
  concluded-channels s p n boxes (Complete count has_failed) s' result h = ap (λ (t : State T U). t.channels) h.0
  concluded-channels s p n boxes (Suspended b) s' result h = ap (λ (t : State T U). t.channels) h.0

  pub published-ends : (s : State T U) (p n : ℕ) → EndsStay s (published s p n)
  published-ends s p n = changed-ends (with_loan s n None) p
      (λ x. record x { history = last_n (s.config).history_size (x.history ++ n ∷ []) }) (λ x. refl)

  -- ---- a send

  -- what waits from a connected publisher is all that lies there
  pub connected-waits : (s : State T U) (p q : ℕ) → Connects s p q → waiting_from s p q ≡ (s.mailboxes p q).waiting
  connected-waits s p q c =
      by_record s p q (Some c.subscriber) c.there ∙ ap (λ (b : Bool). cond b (s.mailboxes p q).waiting []) c.receives

  module _ (environment : Environment) (s : State T U) (w : IsWellFormed s) (p q : ℕ) (c : Connects s p q) where
    -- The mailbox with q, once the message n was put there or went past.
    abbrev pub after : (n : ℕ) → Mailbox
    after n = cond (has_room 0 (c.subscriber).buffer (s.mailboxes p q) || (s.config).enable_safe_overflow)
        (with_appended 0 (c.subscriber).buffer n (s.mailboxes p q)) (s.mailboxes p q)

    pub publish-serves : (n count : ℕ) (s' : State T U) → Publish environment s p n s' (Delivered_to count)
        → s'.mailboxes p q ≡ after n
    publish-serves n count s' h =
        by_option (s'.mailboxes p q ≡ after n) (s.publishers p) _ _ h (λ _ v. absurd v) (λ x present h.
        by_option (s'.mailboxes p q ≡ after n) ((published s p n).publishers p) _ _ h (λ _ v. absurd v)
        (λ z _ h. concluded x present z h.0 h.1 h.2 h.3))
      where
        concluded : (x : Publisher) → s.publishers p ≡ Some x
            → (z : Publisher) (how : DeliveryEnd) (boxes : ℕ → Mailbox)
            → Deliver environment s.config p z.backpressure_strategy z.backpressure_handler
            (channel_buffer s p 0) n 0 0 no_time 0 x.ends 0 false (s.mailboxes p) how boxes
            → ConcludeSend (with_mailboxes (published s p n) p boxes) p n how s' (Delivered_to count)
            → s'.mailboxes p q ≡ after n
        concluded x present z (Complete all some_failed) boxes delivers h =
            let same : c.publisher ≡ x = same_Some c.publisher x (sym c.stands ∙ present) in
            ap (λ (t : State T U). t.mailboxes p q) h.0
            ∙ ap (λ (row : ℕ → Mailbox). row q) (put_at-same s.mailboxes p boxes)
            ∙ deliver-serves environment s.config p z.backpressure_strategy z.backpressure_handler
            (channel_buffer s p 0) n q 0 no_time 0 x.ends 0 false (s.mailboxes p) all some_failed boxes
            (c.subscriber).buffer
            (ap (λ (b : Bool). cond b None (receiving_buffer s q)) c.takes
            ∙ opened-buffer s q c.subscriber c.there (is-open environment s w p q c))
            (contains-occupants x.ends q (subst (λ (z : Publisher). LeadsTo z.ends q) same c.sends))
            (IsOnce-occupants x.ends ((w.publishers p x present).ends_apart)) delivers
        concluded x present z (Suspended b) boxes delivers h = let clash : Delivered_to count ≡ Blocked_send = h.1 in
            absurd cc

  -- the record that is connected is the one that is there
  pub send-serves : (environment : Environment) (s : State T U) (n : ℕ) (l : Loan T U) (s' : State T U) (count : ℕ)
      → (w : IsWellFormed s) → is_blocked s l.publisher ≡ false
      → (q : ℕ) (c : Connects s l.publisher q) → Send environment s n l s' (Delivered_to count)
      → s'.mailboxes l.publisher q ≡ after environment s w l.publisher q c n
  send-serves environment s n l s' count w free q c h =
      by_option (s'.mailboxes l.publisher q ≡ after environment s w l.publisher q c n) (s.publishers l.publisher) _ _ h
      (λ _ k. let clash : Delivered_to count ≡ Send_error _ = k.1 in absurd cc)
      (λ x _ k. by_option (s'.mailboxes l.publisher q ≡ after environment s w l.publisher q c n) k.1 _ _ k.3
      (λ _ j. served-then k.0 k.1 k.2 j)
      (λ e _ j. let clash : Delivered_to count ≡ Send_error _ = j.1 in absurd cc))
    where
      settings : (mid : State T U) (failure : Option ConnectionFailure)
          → UpdatePublisher environment s l.publisher mid failure
          → (mid.config).enable_safe_overflow ≡ (s.config).enable_safe_overflow
      settings mid failure updates =
          by_option ((mid.config).enable_safe_overflow ≡ (s.config).enable_safe_overflow)
          (s.publishers l.publisher) _ _ updates (λ _ v. absurd v) (λ x _ k.
          by_bool ((mid.config).enable_safe_overflow ≡ (s.config).enable_safe_overflow) x.is_due _ _ k
          (λ _ j. ap (λ (t : State T U). (t.config).enable_safe_overflow) j.2)
          (λ _ j. ap (λ (t : State T U). (t.config).enable_safe_overflow) j.0))

      served-then : (mid : State T U) (failure : Option ConnectionFailure)
          → UpdatePublisher environment s l.publisher mid failure
          → Publish environment mid l.publisher n s' (Delivered_to count)
          → s'.mailboxes l.publisher q ≡ after environment s w l.publisher q c n
      served-then mid failure updates publishes =
          let kept = update-publisher-connected environment s w l.publisher q c l.publisher mid failure updates in
          let v : IsWellFormed mid = update_publisher_keeps environment s l.publisher mid failure w free updates in
          let there : mid.subscribers q ≡ Some c.subscriber =
          ap (λ (f : ℕ → Option Subscriber). f q)
          (update_publisher_subscribers environment s l.publisher mid failure updates) ∙ c.there in
          let same : (kept.0).subscriber ≡ c.subscriber =
          same_Some (kept.0).subscriber c.subscriber (sym (kept.0).there ∙ there) in
          publish-serves environment mid v l.publisher q kept.0 n count s' publishes
          ∙ ap (λ (y : Subscriber).
          cond (has_room 0 y.buffer (mid.mailboxes l.publisher q) || (mid.config).enable_safe_overflow)
          (with_appended 0 y.buffer n (mid.mailboxes l.publisher q)) (mid.mailboxes l.publisher q)) same
          ∙ ap (λ (box : Mailbox). cond (has_room 0 (c.subscriber).buffer box || (mid.config).enable_safe_overflow)
          (with_appended 0 (c.subscriber).buffer n box) box) kept.1
          ∙ ap (λ (b : Bool). cond (has_room 0 (c.subscriber).buffer (s.mailboxes l.publisher q) || b)
          (with_appended 0 (c.subscriber).buffer n (s.mailboxes l.publisher q)) (s.mailboxes l.publisher q))
          (settings mid failure updates)

  -- connections stay through a send
  pub send-connections : (environment : Environment) (s : State T U) (n : ℕ) (l : Loan T U) (s' : State T U)
      (result : SendResult) → IsWellFormed s
      → Send environment s n l s' result → (p q : ℕ) → Connects s p q → Connects s' p q
  send-connections environment s n l s' result w h p q c =
      by_option (Connects s' p q) (s.publishers l.publisher) _ _ h
      (λ _ k. subst (λ (t : State T U). Connects t p q) (sym k.0)
      (same-connections s (with_loan s n None) (ends-themselves s (with_loan s n None) refl) refl refl p q c))
      (λ x _ k.
      let mid : Connects k.0 p q = (update-publisher-connected environment s w p q c l.publisher k.0 k.1 k.2).0 in
      by_option (Connects s' p q) k.1 _ _ k.3
      (λ _ j. by_option (Connects s' p q) ((k.0).publishers l.publisher) _ _ j (λ _ v. absurd v) (λ y _ j.
      by_option (Connects s' p q) ((published k.0 l.publisher n).publishers l.publisher) _ _ j (λ _ v. absurd v)
      (λ z _ j.
      same-connections k.0 s'
      (ends-trans k.0 (published k.0 l.publisher n) s' (published-ends k.0 l.publisher n)
      (concluded-ends (published k.0 l.publisher n) l.publisher n j.1 j.0 s' result j.3))
      (concluded-subscribers k.0 j.1 j.0 j.3)
      (concluded-channels (published k.0 l.publisher n) l.publisher n j.1 j.0 s' result j.3) p q mid)))
      (λ e _ j. subst (λ (t : State T U). Connects t p q) (sym j.0)
      (same-connections k.0 _ (changed-ends (with_loan k.0 n None) l.publisher
      (λ x. record x { loans = without n x.loans }) (λ x. refl)) refl refl p q mid)))
    where
      concluded-subscribers : (t : State T U) (boxes : ℕ → Mailbox) (how : DeliveryEnd)
          → ConcludeSend (with_mailboxes (published t l.publisher n) l.publisher boxes) l.publisher n how s' result
          → s'.subscribers ≡ t.subscribers
      concluded-subscribers t boxes (Complete count has_failed) k = ap (λ (u : State T U). u.subscribers) k.0
      concluded-subscribers t boxes (Suspended b) k = ap (λ (u : State T U). u.subscribers) k.0
