-- A publisher that waits for no full receiver, by its strategy or its handler, has no send that is blocked.
use Rattle.std.proofs.Common.{◌≡◌, ℕ, ◌+◌, ◌||◌, Bool, true, false, List, [], ◌∷◌, sym, ap, ◌∙◌, Option, None, Some}
use Rattle.std.specs.declared.time.Duration.{Duration}
use Rattle.iox2_machine.specs.machine.Mailbox.{Mailbox, has_room}
use Rattle.iox2_machine.specs.machine.Records.{BlockedSend, Environment, Handler, Fixed, Custom}
use Rattle.iox2_machine.specs.machine.Delivery.{Deliver, DeliveryEnd, Complete, Suspended, Decides, PutResult, Put}
use Rattle.iox2_machine.specs.machine.Delivery.{PutAtEnd, accepted_count, is_blocking, is_failed, no_time}
use Rattle.iox2_machine.specs.declared.backpressure.BackpressureAction.{BackpressureAction}
use Rattle.iox2_machine.specs.declared.backpressure.BackpressureInfo.{BackpressureInfo}
use Rattle.iox2_machine.specs.declared.backpressure.BackpressureStrategy.{BackpressureStrategy}
use Rattle.iox2_machine.specs.declared.service_config.ServiceConfig.{ServiceConfig}
use Rattle.iox2_laws.proofs.Cases.{by_bool}
use Rattle.iox2_pubsub.specs.Handlers.{may_wait}

-- it is decided that the send goes on
decides-past : (environment : Environment) (p : ℕ) (strategy : BackpressureStrategy)
    (handler : Option (Handler BackpressureAction)) → may_wait strategy handler ≡ false
    → (info : BackpressureInfo) (result : PutResult) → Decides environment p handler strategy info result
    → is_blocking result ≡ false
decides-past environment p strategy None past info result d = ap is_blocking d ∙ past
decides-past environment p strategy (Some (Fixed action)) past info result d = ap is_blocking d ∙ past
decides-past environment p strategy (Some Custom) past info result d = absurd (let no : true ≡ false = past in cc)

module _ (environment : Environment) (c : ServiceConfig) (p : ℕ) (strategy : BackpressureStrategy)
    (handler : Option (Handler BackpressureAction)) (buffers : ℕ → Option ℕ) (n channel : ℕ)
    (past : may_wait strategy handler ≡ false) where
  end-past : (retries : ℕ) (elapsed : Duration) (end : Option ℕ) (boxes : ℕ → Mailbox) (result : PutResult)
      (boxes' : ℕ → Mailbox)
      → PutAtEnd environment c p strategy handler buffers n channel retries elapsed end boxes result boxes'
      → is_blocking result ≡ false
  end-past retries elapsed None boxes result boxes' h = ap is_blocking h.0
  end-past retries elapsed (Some q) boxes result boxes' h = put (buffers q) (boxes q) h.0 h.1 where
    put : (buffer : Option ℕ) (box box' : Mailbox)
        → Put environment c p strategy handler buffers n channel q retries elapsed buffer box result box'
        → is_blocking result ≡ false
    put None box box' k = ap is_blocking k.0
    put (Some buffer) box box' k =
        by_bool (is_blocking result ≡ false) (has_room channel buffer box || c.enable_safe_overflow) _ _ k
        (λ _ took. ap is_blocking took.0)
        (λ _ full. decides-past environment p strategy handler past _ result full.0)

  -- a delivery reaches all receivers
  pub never-suspended : (retries : ℕ) (elapsed : Duration) (place : ℕ) (ends : List (Option ℕ)) (count : ℕ)
      (has_failed : Bool) (boxes : ℕ → Mailbox) (how : DeliveryEnd) (boxes' : ℕ → Mailbox)
      → Deliver environment c p strategy handler buffers n channel retries elapsed place ends count has_failed boxes how
      boxes' → (b : BlockedSend) → how ≡ Suspended b → ⊥
  never-suspended retries elapsed place [] count has_failed boxes how boxes' h b is =
      let no : Complete count has_failed ≡ Suspended b = sym h.0 ∙ is in absurd cc
  never-suspended retries elapsed place (end ∷ rest) count has_failed boxes how boxes' h b is =
      by_bool ⊥ (is_blocking h.0) _ _ h.3
      (λ blocks _. absurd (let no : true ≡ false = sym blocks ∙ end-past retries elapsed end boxes h.0 h.1 h.2 in cc))
      (λ _ k. never-suspended 0 no_time (place + 1) rest (count + accepted_count h.0)
      (has_failed || is_failed h.0) h.1 how boxes' k b is)
