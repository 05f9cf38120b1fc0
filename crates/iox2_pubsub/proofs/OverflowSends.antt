-- With safe overflow each open receiver takes a message, so that no send waits, and no handler is asked.
use Rattle.std.proofs.Common.{◌≡◌, ℕ, ◌+◌, ◌||◌, Bool, true, false, List, [], ◌∷◌, refl, sym, ap, subst, ◌∙◌, Option}
use Rattle.std.proofs.Common.{None, Some}
use Rattle.std.specs.declared.time.Duration.{Duration}
use Rattle.iox2_machine.specs.machine.Mailbox.{Mailbox, has_room}
use Rattle.iox2_machine.specs.machine.Records.{Environment, Handler, Loan}
use Rattle.iox2_machine.specs.machine.State.{State, channel_buffer}
use Rattle.iox2_machine.specs.machine.Delivery.{Deliver, DeliveryEnd, Complete, PutResult, Put, PutAtEnd}
use Rattle.iox2_machine.specs.machine.Delivery.{accepted_count, is_blocking, is_failed, no_time}
use Rattle.iox2_machine.specs.machine.Sends.{Send, SendResult, Delivered_to, Blocked_send, Send_error, ConcludeSend}
use Rattle.iox2_machine.specs.machine.Sends.{with_mailboxes, published}
use Rattle.iox2_machine.specs.declared.backpressure.BackpressureAction.{BackpressureAction}
use Rattle.iox2_machine.specs.declared.backpressure.BackpressureStrategy.{BackpressureStrategy}
use Rattle.iox2_machine.specs.declared.errors.SendError.TheVariants.{ConnectionBrokenSinceSenderNoLongerExists}
use Rattle.iox2_machine.specs.declared.errors.SendError.TheVariants.{ConnectionError, UnableToDeliver}
use Rattle.iox2_machine.specs.declared.service_config.ServiceConfig.{ServiceConfig}
use Rattle.iox2_laws.proofs.Cases.{by_option, by_bool}
use Rattle.iox2_laws.proofs.PortsStay.{update_publisher_stays}

-- The message went past no receiver that could have failed or blocked its send.
abbrev HasPassed : PutResult → Type 0
HasPassed result = (is_blocking result ≡ false) × (is_failed result ≡ false)

module _ (environment : Environment) (c : ServiceConfig) (p : ℕ) (strategy : BackpressureStrategy)
    (handler : Option (Handler BackpressureAction)) (buffers : ℕ → Option ℕ) (n channel : ℕ)
    (over : c.enable_safe_overflow ≡ true) where
  put-passes : (q retries : ℕ) (elapsed : Duration) (buffer : Option ℕ) (box : Mailbox) (result : PutResult)
      (box' : Mailbox)
      → Put environment c p strategy handler buffers n channel q retries elapsed buffer box result box'
      → HasPassed result
  put-passes q retries elapsed None box result box' h = (ap is_blocking h.0, ap is_failed h.0)
  put-passes q retries elapsed (Some buffer) box result box' h =
      by_bool (HasPassed result) (has_room channel buffer box || c.enable_safe_overflow) _ _ h
      (λ _ k. (ap is_blocking k.0, ap is_failed k.0))
      (λ full _. absurd (let no : true ≡ false = sym (any (has_room channel buffer box))
      ∙ ap (λ b. has_room channel buffer box || b) (sym over) ∙ full in cc))
    where
      any : (b : Bool) → (b || true) ≡ true
      any true = refl
      any false = refl

  pub end-passes : (retries : ℕ) (elapsed : Duration) (end : Option ℕ) (boxes : ℕ → Mailbox) (result : PutResult)
      (boxes' : ℕ → Mailbox)
      → PutAtEnd environment c p strategy handler buffers n channel retries elapsed end boxes result boxes'
      → HasPassed result
  end-passes retries elapsed None boxes result boxes' h = (ap is_blocking h.0, ap is_failed h.0)
  end-passes retries elapsed (Some q) boxes result boxes' h =
      put-passes q retries elapsed (buffers q) (boxes q) result h.0 h.1

  -- a delivery that had not failed reaches all receivers, and fails at none
  pub delivery-ends : (retries : ℕ) (elapsed : Duration) (place : ℕ) (ends : List (Option ℕ)) (count : ℕ)
      (has_failed : Bool) (boxes : ℕ → Mailbox) (how : DeliveryEnd) (boxes' : ℕ → Mailbox)
      → has_failed ≡ false → Deliver environment c p strategy handler buffers n channel retries elapsed place ends count
      has_failed boxes how boxes' → (took : ℕ) × (how ≡ Complete took false)
  delivery-ends retries elapsed place [] count has_failed boxes how boxes' so_far h =
      (count, h.0 ∙ ap (Complete count) so_far)
  delivery-ends retries elapsed place (end ∷ rest) count has_failed boxes how boxes' so_far h =
      let passed = end-passes retries elapsed end boxes h.0 h.1 h.2 in
      by_bool ((took : ℕ) × (how ≡ Complete took false)) (is_blocking h.0) _ _ h.3
      (λ blocks _. absurd (let no : true ≡ false = sym blocks ∙ passed.0 in cc))
      (λ _ k. delivery-ends 0 no_time (place + 1) rest (count + accepted_count h.0)
      (has_failed || is_failed h.0) h.1 how boxes' (neither has_failed (is_failed h.0) so_far passed.1) k)
    where
      neither : (a b : Bool) → a ≡ false → b ≡ false → (a || b) ≡ false
      neither true b e e' = absurd cc
      neither false b e e' = e'

-- Neither did the send wait, nor did a handler fail it.
abbrev pub IsUnhindered : SendResult → Type 0
IsUnhindered result = (result ≡ Blocked_send → ⊥) × (result ≡ Send_error UnableToDeliver → ⊥)

module _ {T U : Type 0} (environment : Environment) where
  pub concludes-unhindered : (s : State T U) (p n : ℕ) (how : DeliveryEnd) (s' : State T U) (result : SendResult)
      → (took : ℕ) → how ≡ Complete took false → ConcludeSend s p n how s' result → IsUnhindered result
  concludes-unhindered s p n how s' result took is h =
      let done : result ≡ Delivered_to took = (subst (λ (d : DeliveryEnd). ConcludeSend s p n d s' result) is h).1 in (
        λ no. absurd (let clash : Delivered_to took ≡ Blocked_send = sym done ∙ no in cc),
        λ no. absurd (let clash : Delivered_to took ≡ Send_error UnableToDeliver = sym done ∙ no in cc),
      )

  pub overflowing-send : (s : State T U) (n : ℕ) (l : Loan T U) (s' : State T U) (result : SendResult)
      → (s.config).enable_safe_overflow ≡ true → Send environment s n l s' result → IsUnhindered result
  overflowing-send s n l s' result over h =
      by_option (IsUnhindered result) (s.publishers l.publisher) _ _ h
      (λ _ k. (
        λ no. absurd
            (let clash : Send_error ConnectionBrokenSinceSenderNoLongerExists ≡ Blocked_send = sym k.1 ∙ no in cc),
        λ no. absurd (let clash : Send_error ConnectionBrokenSinceSenderNoLongerExists
            ≡ Send_error UnableToDeliver = sym k.1 ∙ no in cc),
      ))
      (λ x _ k.
      let still : ((k.0).config).enable_safe_overflow ≡ true =
      ap (λ (c : ServiceConfig). c.enable_safe_overflow)
      ((update_publisher_stays environment s l.publisher k.0 k.1 k.2).remain.config) ∙ over in
      by_option (IsUnhindered result) k.1 _ _ k.3
      (λ _ j. by_option (IsUnhindered result) ((k.0).publishers l.publisher) _ _ j (λ _ v. absurd v) (λ x1 _ i.
      by_option (IsUnhindered result) ((published k.0 l.publisher n).publishers l.publisher) _ _ i (λ _ v. absurd v)
      (λ x2 _ d.
      let mid : State T U = published k.0 l.publisher n in
      let ended = delivery-ends environment mid.config l.publisher x2.backpressure_strategy x2.backpressure_handler
      (channel_buffer mid l.publisher 0) n 0 still 0 no_time 0 x1.ends 0 false
      (mid.mailboxes l.publisher) d.0 d.1 refl d.2 in
      concludes-unhindered (with_mailboxes mid l.publisher d.1) l.publisher n d.0 s' result ended.0 ended.1 d.3)))
      (λ e _ j. (
        λ no. absurd (let clash : Send_error (ConnectionError e) ≡ Blocked_send = sym j.1 ∙ no in cc),
        λ no. absurd (let clash : Send_error (ConnectionError e) ≡ Send_error UnableToDeliver = sym j.1 ∙ no in cc),
      )))
