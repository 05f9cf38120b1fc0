-- Where no handler fails a send, none has failed a send that is blocked, however it goes on.
use Rattle.std.proofs.Common.{◌≡◌, ◌⊎◌, inl, inr, ℕ, ◌<◌, ◌+◌, ◌||◌, Bool, true, false, List, cond, [], ◌∷◌, drop, refl}
use Rattle.std.proofs.Common.{sym, ap, ◌∙◌, Option, None, Some}
use Rattle.std.proofs.lemmas.Option.{same_Some}
use Rattle.std.specs.Option.{option_map}
use Rattle.std.specs.declared.time.Duration.{Duration}
use Rattle.iox2_machine.specs.machine.Mailbox.{Mailbox, has_room}
use Rattle.iox2_machine.specs.machine.Numbers.{without}
use Rattle.iox2_machine.specs.machine.Records.{BlockedSend, Environment, Handler, Loan, Publisher}
use Rattle.iox2_machine.specs.machine.State.{State, channel_buffer}
use Rattle.iox2_machine.specs.machine.Delivery.{Deliver, DeliveryEnd, Complete, Suspended, PutResult, Put, PutAtEnd}
use Rattle.iox2_machine.specs.machine.Delivery.{accepted_count, is_blocking, is_failed, no_time}
use Rattle.iox2_machine.specs.machine.Sends.{Send, Retry, GiveUp, SendResult, Delivered_to, Blocked_send, Send_error}
use Rattle.iox2_machine.specs.machine.Sends.{ConcludeSend, DeliverAndConclude, more_retries, with_mailboxes, published}
use Rattle.iox2_machine.specs.declared.backpressure.BackpressureAction.{BackpressureAction}
use Rattle.iox2_machine.specs.declared.backpressure.BackpressureStrategy.{BackpressureStrategy}
use Rattle.iox2_machine.specs.declared.errors.SendError.TheVariants.{ConnectionBrokenSinceSenderNoLongerExists}
use Rattle.iox2_machine.specs.declared.errors.SendError.TheVariants.{ConnectionError, UnableToDeliver}
use Rattle.iox2_machine.specs.declared.service_config.ServiceConfig.{ServiceConfig}
use Rattle.iox2_laws.specs.Sendings.{sending}
use Rattle.iox2_laws.proofs.Cases.{by_option, by_bool}
use Rattle.iox2_laws.proofs.PortsStay.{update_publisher_stays}
use Rattle.iox2_laws.proofs.Puts.{put_at-same}
use Rattle.iox2_laws.proofs.Waits.{waits_trans, update_publisher_waits, published_waits}
use Rattle.iox2_domain.specs.Handlers.{may_fail}
use Rattle.iox2_pubsub.proofs.OverflowSends.{end-passes}
use Rattle.iox2_steps.proofs.sends.DeliverySteps.{decides-passes}

-- Whether a delivery has failed when it ends or waits.
abbrev FailedAt : DeliveryEnd → Bool
FailedAt (Complete took failed) = failed
FailedAt (Suspended b) = b.has_failed

module _ (e : Environment) (c : ServiceConfig) (p : ℕ) (strategy : BackpressureStrategy)
    (handler : Option (Handler BackpressureAction)) (buffers : ℕ → Option ℕ) (n channel : ℕ)
    (mild : (c.enable_safe_overflow ≡ true) ⊎ (may_fail handler ≡ false)) where
  put-unfailed : may_fail handler ≡ false
      → (q retries : ℕ) (elapsed : Duration) (buffer : Option ℕ) (box : Mailbox) (result : PutResult) (box' : Mailbox)
      → Put e c p strategy handler buffers n channel q retries elapsed buffer box result box' → is_failed result ≡ false
  put-unfailed none q retries elapsed None box result box' h = ap is_failed h.0
  put-unfailed none q retries elapsed (Some buffer) box result box' h =
      by_bool (is_failed result ≡ false) (has_room channel buffer box || c.enable_safe_overflow) _ _ h
      (λ _ k. ap is_failed k.0) (λ _ k. decides-passes e p strategy handler none _ result k.0)

  delivery-unfailed : (retries : ℕ) (elapsed : Duration) (place : ℕ) (ends : List (Option ℕ)) (count : ℕ)
      (has_failed : Bool) (boxes : ℕ → Mailbox) (how : DeliveryEnd) (boxes' : ℕ → Mailbox)
      → has_failed ≡ false → Deliver e c p strategy handler buffers n channel retries elapsed place ends count
      has_failed boxes how boxes' → FailedAt how ≡ false
  delivery-unfailed retries elapsed place [] count has_failed boxes how boxes' none h = ap FailedAt h.0 ∙ none
  delivery-unfailed retries elapsed place (end ∷ rest) count has_failed boxes how boxes' none h =
      by_bool (FailedAt how ≡ false) (is_blocking h.0) _ _ h.3
      (λ _ k. ap FailedAt k.0 ∙ none)
      (λ _ k. delivery-unfailed 0 no_time (place + 1) rest (count + accepted_count h.0)
      (has_failed || is_failed h.0) h.1 how boxes'
      (neither has_failed (is_failed h.0) none (unfailed end h.2)) k)
    where
      unfailed : (at : Option ℕ) → PutAtEnd e c p strategy handler buffers n channel retries elapsed at boxes h.0 h.1
          → is_failed h.0 ≡ false
      unfailed None put = ap is_failed put.0
      unfailed (Some q) put = elim mild [
        | inl over ↦
            (end-passes e c p strategy handler buffers n channel over retries elapsed (Some q) boxes h.0 h.1 put).1
        | inr passes ↦ put-unfailed passes q retries elapsed (buffers q) (boxes q) h.0 put.0 put.1
      ]

      neither : (a b : Bool) → a ≡ false → b ≡ false → (a || b) ≡ false
      neither true b ea eb = absurd cc
      neither false b ea eb = eb

module _ {T U : Type 0} where
  -- The service overflows, or the publisher's handler fails no send.
  abbrev pub IsMild : State T U → (p : ℕ) → Type 0
  IsMild s p = ((s.config).enable_safe_overflow ≡ true)
      ⊎ ((x : Publisher) → s.publishers p ≡ Some x → may_fail x.backpressure_handler ≡ false)

  -- No handler has failed the publisher's blocked send.
  abbrev pub HasNotFailed : State T U → (p : ℕ) → Type 0
  HasNotFailed s p =
      (x : Publisher) (b : BlockedSend) → s.publishers p ≡ Some x → x.blocked ≡ Some b → b.has_failed ≡ false

  -- After a step with this result no handler has failed the send.
  abbrev pub IsUnfailed : State T U → (p : ℕ) → SendResult → Type 0
  IsUnfailed s p result = HasNotFailed s p × (result ≡ Send_error UnableToDeliver → ⊥)

  concluded-unfailed : (s : State T U) (p n : ℕ) (x : Publisher) → s.publishers p ≡ Some x
      → (how : DeliveryEnd) (s' : State T U) (result : SendResult) → FailedAt how ≡ false
      → ConcludeSend s p n how s' result → IsUnfailed s' p result
  concluded-unfailed s p n x here (Complete count failed) s' result none h =
      let ended : Publisher → Publisher = λ (v : Publisher). record v { loans = without n v.loans; blocked = None } in
      let stands : s'.publishers p ≡ Some (ended x) =
      ap (λ (t : State T U). t.publishers p) h.0 ∙ put_at-same s.publishers p (option_map ended (s.publishers p))
      ∙ ap (option_map ended) here in
      let done : result ≡ Delivered_to count =
      h.1 ∙ ap (λ (b : Bool). cond b (Send_error UnableToDeliver) (Delivered_to count)) none in (
        λ x' b at waits. absurd (let no : None ≡ Some b = ap (λ (v : Publisher). v.blocked)
            (same_Some _ _ (sym stands ∙ at)) ∙ waits in cc),
        λ failed. absurd (let clash : Delivered_to count ≡ Send_error UnableToDeliver = sym done ∙ failed in cc),
      )
  concluded-unfailed s p n x here (Suspended w) s' result none h =
      let stands : s'.publishers p ≡ Some (record x { blocked = Some w }) =
      ap (λ (t : State T U). t.publishers p) h.0
      ∙ put_at-same s.publishers p (option_map (λ (v : Publisher). record v { blocked = Some w }) (s.publishers p))
      ∙ ap (option_map (λ (v : Publisher). record v { blocked = Some w })) here in (
        λ x' b at waits.
            let both : Some w ≡ Some b = ap (λ (v : Publisher). v.blocked) (same_Some _ _ (sym stands ∙ at)) ∙ waits in
            ap (λ (v : BlockedSend). v.has_failed) (sym (same_Some w b both)) ∙ none,
        λ failed. absurd (let clash : Blocked_send ≡ Send_error UnableToDeliver = sym h.1 ∙ failed in cc),
      )

  pub delivered-unfailed : (environment : Environment) (s : State T U) (p n channel retries : ℕ) (elapsed : Duration)
      (place : ℕ) (ends : List (Option ℕ)) (count : ℕ) (has_failed : Bool) (s' : State T U) (result : SendResult)
      → IsMild s p → has_failed ≡ false → DeliverAndConclude environment s p
      (sending n channel retries place ends count has_failed) elapsed s' result → IsUnfailed s' p result
  delivered-unfailed environment s p n channel retries elapsed place ends count has_failed s' result mild none h =
      by_option (IsUnfailed s' p result) (s.publishers p) _ _ h (λ _ v. absurd v) (λ x present h.
      concluded-unfailed (with_mailboxes s p h.1) p n x present h.0 s' result
      (delivery-unfailed environment s.config p x.backpressure_strategy x.backpressure_handler
      (channel_buffer s p channel) n channel (elim mild [ inl over ↦ inl over | inr each ↦ inr (each x present) ])
      retries elapsed place ends count has_failed (s.mailboxes p) h.0 h.1 none h.2)
      h.3)

  pub retry-unfailed : (environment : Environment) (s : State T U) (p : ℕ) (b : BlockedSend) (elapsed : Duration)
      (s' : State T U) (result : SendResult)
      → IsMild s p → b.has_failed ≡ false → Retry environment s p b elapsed s' result → IsUnfailed s' p result
  retry-unfailed environment s p b elapsed s' result mild none h =
      delivered-unfailed environment s p b.message b.channel
      (more_retries b.retries) elapsed b.place b.ends b.count b.has_failed s' result mild none h

  pub give-up-unfailed : (environment : Environment) (s : State T U) (p : ℕ) (b : BlockedSend) (s' : State T U)
      (result : SendResult)
      → IsMild s p → b.has_failed ≡ false → GiveUp environment s p b s' result → IsUnfailed s' p result
  give-up-unfailed environment s p b s' result mild none h =
      delivered-unfailed environment s p b.message b.channel 0 no_time (b.place + 1)
      (drop 1 b.ends) b.count b.has_failed s' result mild none h

  -- a send that is blocked
  pub blocked-unfailed : (environment : Environment) (s : State T U) (n : ℕ) (l : Loan T U) (s' : State T U)
      → l.publisher < s.next_port → IsMild s l.publisher
      → Send environment s n l s' Blocked_send → HasNotFailed s' l.publisher
  blocked-unfailed environment s n l s' low mild h =
      by_option (HasNotFailed s' l.publisher) (s.publishers l.publisher) _ _ h
      (λ _ k. absurd (let no : Blocked_send ≡ Send_error ConnectionBrokenSinceSenderNoLongerExists = k.1 in cc))
      (λ x _ k.
      let still : ((k.0).config).enable_safe_overflow ≡ (s.config).enable_safe_overflow =
      ap (λ (c : ServiceConfig). c.enable_safe_overflow)
      ((update_publisher_stays environment s l.publisher k.0 k.1 k.2).remain.config) in
      by_option (HasNotFailed s' l.publisher) k.1 _ _ k.3
      (λ _ j. by_option (HasNotFailed s' l.publisher) ((k.0).publishers l.publisher) _ _ j (λ _ v. absurd v) (λ x1 _ i.
      let mid : State T U = published k.0 l.publisher n in
      let was = (waits_trans (λ _. ⊥) s k.0 mid (update_publisher_waits (λ _. ⊥) environment s l.publisher k.0 k.1 k.2)
      (published_waits (λ _. ⊥) k.0 l.publisher n)).publishers l.publisher in
      (delivered-unfailed environment mid l.publisher n 0 0 no_time 0 x1.ends 0 false s' Blocked_send
      (elim mild [
        | inl over ↦ inl (still ∙ over)
        | inr each ↦ inr
            (λ x2 at. let before = was x2 low at in ap may_fail before.2.handler ∙ each before.0 before.1)
      ]) refl i).0))
      (λ e _ j. absurd (let no : Blocked_send ≡ Send_error (ConnectionError e) = j.1 in cc)))
