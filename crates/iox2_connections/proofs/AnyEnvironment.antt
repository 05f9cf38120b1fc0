-- A delivery in one environment is one in another in which the publisher's box may answer as much.
use Rattle.std.proofs.Common.{ℕ, ◌+◌, ◌||◌, Bool, true, false, List, [], ◌∷◌, Option, None, Some}
use Rattle.std.specs.Bool.{MatchBool}
use Rattle.std.specs.declared.time.Duration.{Duration}
use Rattle.iox2_machine.specs.machine.Mailbox.{Mailbox, has_room}
use Rattle.iox2_machine.specs.machine.Records.{Handler, Fixed, Custom, Environment}
use Rattle.iox2_machine.specs.machine.Delivery.{PutResult, DeliveryEnd, is_blocking, is_failed, accepted_count, no_time}
use Rattle.iox2_machine.specs.machine.Delivery.{Decides, Put, PutAtEnd, Deliver}
use Rattle.iox2_machine.specs.declared.service_config.ServiceConfig.{ServiceConfig}
use Rattle.iox2_machine.specs.declared.backpressure.BackpressureAction.{BackpressureAction}
use Rattle.iox2_machine.specs.declared.backpressure.BackpressureInfo.{BackpressureInfo}
use Rattle.iox2_machine.specs.declared.backpressure.BackpressureStrategy.{BackpressureStrategy}

-- Where a handler is a box, it may answer in the one environment as in the other.
abbrev pub AllowsAsMuch : Environment → Environment → (p : ℕ) → Option (Handler BackpressureAction) → Type 0
AllowsAsMuch e e' p None = Unit {0}
AllowsAsMuch e e' p (Some (Fixed action)) = Unit {0}
AllowsAsMuch e e' p (Some Custom) = (info : BackpressureInfo) (action : BackpressureAction)
    → e.backpressure_answers p info action → e'.backpressure_answers p info action

module _ (e e' : Environment) (c : ServiceConfig) (p : ℕ) (strategy : BackpressureStrategy)
    (handler : Option (Handler BackpressureAction)) (buffers : ℕ → Option ℕ) (n channel : ℕ)
    (allows : AllowsAsMuch e e' p handler) where
  decides-any : (h : Option (Handler BackpressureAction)) → AllowsAsMuch e e' p h
      → (info : BackpressureInfo) (result : PutResult) → Decides e p h strategy info result
      → Decides e' p h strategy info result
  decides-any None a info result d = d
  decides-any (Some (Fixed action)) a info result d = d
  decides-any (Some Custom) a info result d = (d.0, a info d.0 d.1, d.2)

  either : (A B C : Type 0) (b : Bool) → (B → C) → MatchBool b A B → MatchBool b A C
  either A B C true g h = h
  either A B C false g h = g h

  put-any : (q retries : ℕ) (elapsed : Duration) (buffer : Option ℕ) (box : Mailbox) (result : PutResult)
      (box' : Mailbox)
      → Put e c p strategy handler buffers n channel q retries elapsed buffer box result box'
      → Put e' c p strategy handler buffers n channel q retries elapsed buffer box result box'
  put-any q retries elapsed None box result box' h = h
  put-any q retries elapsed (Some buffer) box result box' h =
      either _ _ _ (has_room channel buffer box || c.enable_safe_overflow)
      (λ d. (decides-any handler allows _ result d.0, d.1)) h

  put_at_end-any : (retries : ℕ) (elapsed : Duration) (end : Option ℕ) (boxes : ℕ → Mailbox) (result : PutResult)
      (boxes' : ℕ → Mailbox)
      → PutAtEnd e c p strategy handler buffers n channel retries elapsed end boxes result boxes'
      → PutAtEnd e' c p strategy handler buffers n channel retries elapsed end boxes result boxes'
  put_at_end-any retries elapsed None boxes result boxes' h = h
  put_at_end-any retries elapsed (Some q) boxes result boxes' h =
      (h.0, put-any q retries elapsed (buffers q) (boxes q) result h.0 h.1, h.2)

  -- what is delivered where a box may answer so is delivered where it may answer as much
  pub Deliver-any : (retries : ℕ) (elapsed : Duration) (place : ℕ) (ends : List (Option ℕ)) (count : ℕ)
      (has_failed : Bool) (boxes : ℕ → Mailbox) (how : DeliveryEnd) (boxes' : ℕ → Mailbox)
      → Deliver e c p strategy handler buffers n channel retries elapsed place ends count has_failed boxes how boxes'
      → Deliver e' c p strategy handler buffers n channel retries elapsed place ends count has_failed boxes how boxes'
  Deliver-any retries elapsed place [] count has_failed boxes how boxes' h = h
  Deliver-any retries elapsed place (end ∷ rest) count has_failed boxes how boxes' h = (
    h.0,
    h.1,
    put_at_end-any retries elapsed end boxes h.0 h.1 h.2,
    by _ _ _ (is_blocking h.0) h.3 (λ g. Deliver-any 0 no_time (place + 1) rest (count + accepted_count h.0)
        (has_failed || is_failed h.0) h.1 how boxes' g),
  )
    where
      by : (P Q R : Type 0) (b : Bool) → MatchBool b P Q → (Q → R) → MatchBool b P R
      by P Q R true g later = g
      by P Q R false g later = later g
