-- A delivery stops at a receiver that is full, and at no other.
use Rattle.std.proofs.Common.{◌≡◌, ℕ, ◌+◌, ◌||◌, Bool, true, false, List, [], ◌∷◌, refl, sym, ap, subst, ◌∙◌, Option}
use Rattle.std.proofs.Common.{None, Some}
use Rattle.std.specs.Option.{option_map}
use Rattle.std.specs.declared.time.Duration.{Duration}
use Rattle.std.proofs.lemmas.Bool.{true≢false, ne_eqb, or_parts}
use Rattle.std.proofs.lemmas.Option.{same_Some}
use Rattle.iox2_machine.specs.machine.Delivery.{Deliver, DeliveryEnd, Complete, Suspended, PutResult, Put}
use Rattle.iox2_machine.specs.machine.Delivery.{accepted_count, is_blocking, is_failed, no_time}
use Rattle.iox2_machine.specs.machine.Mailbox.{Mailbox, has_room}
use Rattle.iox2_machine.specs.machine.Numbers.{contains, IsOnce}
use Rattle.iox2_machine.specs.machine.Places.{occupant, occupants}
use Rattle.iox2_machine.specs.machine.PublisherUpdate.{UpdatePublisher}
use Rattle.iox2_machine.specs.machine.Records.{BlockedSend, Environment, Handler, Loan, Publisher, Subscriber}
use Rattle.iox2_machine.specs.machine.Sends.{ConcludeSend, DeliverAndConclude, Publish, Send, Blocked_send, Send_error}
use Rattle.iox2_machine.specs.machine.Sends.{published, with_mailboxes}
use Rattle.iox2_machine.specs.machine.State.{State, channel_buffer, is_blocked}
use Rattle.iox2_machine.specs.machine.WellFormed.{IsWellFormed}
use Rattle.iox2_machine.specs.declared.backpressure.BackpressureAction.{BackpressureAction}
use Rattle.iox2_machine.specs.declared.backpressure.BackpressureStrategy.{BackpressureStrategy}
use Rattle.iox2_machine.specs.declared.errors.ConnectionFailure.{ConnectionFailure}
use Rattle.iox2_machine.specs.declared.errors.SendError.TheVariants.{UnableToDeliver}
use Rattle.iox2_machine.specs.declared.service_config.ServiceConfig.{ServiceConfig}
use Rattle.iox2_laws.specs.Sendings.{sending}
use Rattle.iox2_laws.proofs.Cases.{by_option, by_bool}
use Rattle.iox2_laws.proofs.NumberLemmas.{contains_first, contains_later}
use Rattle.iox2_laws.proofs.PlaceLemmas.{IsOnce-occupants, contains-occupants}
use Rattle.iox2_laws.proofs.PublisherUpdates.{update_publisher_keeps}
use Rattle.iox2_laws.proofs.Puts.{put_at-same, put_at-other}
use Rattle.iox2_laws.proofs.UpToDate.{update_publisher_subscribers}
use Rattle.iox2_pubsub.specs.ConnectedPorts.{Connects}
use Rattle.iox2_pubsub.specs.PendingSends.{GoesTo}
use Rattle.iox2_pubsub.proofs.ConnectedSends.{update-publisher-connected}
use Rattle.iox2_pubsub.proofs.PendingDeliveries.{never-blocked, stops-within}
use Rattle.iox2_pubsub.proofs.PendingSteps.{takes-buffer}

-- The receiver takes messages and is full, in a service that doesn't overflow.
pub record IsFullAt (overflow : Bool) (buffer : Option ℕ) (box : Mailbox) : Type 0 where
  pub size : ℕ
  pub opened : buffer ≡ Some size
  pub full : has_room 0 size box ≡ false
  pub no_overflow : overflow ≡ false

-- The delivery stops at this one of the ends.
pub record StopsAmong (overflow : Bool) (buffers : ℕ → Option ℕ) (boxes : ℕ → Mailbox) (ends : List (Option ℕ))
    (b : BlockedSend) : Type 0 where
  pub receiver : ℕ
  pub among : contains (occupants ends) receiver ≡ true
  pub first : occupant b.ends 0 ≡ Some receiver
  pub full : IsFullAt overflow (buffers receiver) (boxes receiver)

module _ (environment : Environment) (c : ServiceConfig) (p : ℕ) (strategy : BackpressureStrategy)
    (handler : Option (Handler BackpressureAction)) (buffers : ℕ → Option ℕ) (n : ℕ) where
  put-full : (q retries : ℕ) (elapsed : Duration) (buffer : Option ℕ) (box : Mailbox) (result : PutResult)
      (box' : Mailbox)
      → Put environment c p strategy handler buffers n 0 q retries elapsed buffer box result box'
      → is_blocking result ≡ true → IsFullAt c.enable_safe_overflow buffer box
  put-full q retries elapsed None box result box' h blocks = absurd (true≢false (sym blocks ∙ ap is_blocking h.0))
  put-full q retries elapsed (Some buffer) box result box' h blocks =
      by_bool (IsFullAt c.enable_safe_overflow (Some buffer) box)
      (has_room 0 buffer box || c.enable_safe_overflow) _ _ h
      (λ _ k. absurd (true≢false (sym blocks ∙ ap is_blocking k.0)))
      (λ none _.
      let both = or_parts (has_room 0 buffer box) c.enable_safe_overflow none in
      record { size = buffer; opened = refl; full = both.0; no_overflow = both.1 })

  deliver-stops : (retries : ℕ) (elapsed : Duration) (place : ℕ) (ends : List (Option ℕ)) (count : ℕ)
      (has_failed : Bool) (boxes : ℕ → Mailbox) (b : BlockedSend) (boxes' : ℕ → Mailbox) → IsOnce (occupants ends)
      → Deliver environment c p strategy handler buffers n 0 retries elapsed place ends count has_failed boxes
      (Suspended b) boxes' → StopsAmong c.enable_safe_overflow buffers boxes ends b
  deliver-stops retries elapsed place [] count has_failed boxes b boxes' once h =
      absurd (let no : Suspended b ≡ Complete count has_failed = h.0 in cc)
  deliver-stops retries elapsed place (None ∷ rest) count has_failed boxes b boxes' once h =
      by_bool (StopsAmong c.enable_safe_overflow buffers boxes (None ∷ rest) b) (is_blocking h.0) _ _ h.3
      (λ blocks _. absurd (true≢false (sym blocks ∙ ap is_blocking (h.2).0)))
      (λ _ k.
      let later = deliver-stops 0 no_time (place + 1) rest (count + accepted_count h.0)
      (has_failed || is_failed h.0) h.1 b boxes' once k in
      record {
        receiver = later.receiver;
        among = later.among;
        first = later.first;
        full = subst (λ (f : ℕ → Mailbox). IsFullAt c.enable_safe_overflow (buffers later.receiver) (f later.receiver))
            (h.2).1 later.full;
      })
  deliver-stops retries elapsed place (Some r ∷ rest) count has_failed boxes b boxes' once h =
      by_bool (StopsAmong c.enable_safe_overflow buffers boxes (Some r ∷ rest) b) (is_blocking h.0) _ _ h.3
      (λ blocks k.
      let stop : BlockedSend = record {
        message = n;
        channel = 0;
        place = place;
        ends = Some r ∷ rest;
        retries = retries;
        count = count;
        has_failed = has_failed;
      } in
      let same : Suspended b ≡ Suspended stop = k.0 in
      let is : b ≡ stop = cc in
      record {
        receiver = r;
        among = contains_first r (occupants rest);
        first = ap (λ (v : BlockedSend). occupant v.ends 0) is;
        full = put-full r retries elapsed (buffers r) (boxes r) h.0 (h.2).0 (h.2).1 blocks;
      })
      (λ _ k.
      let later = deliver-stops 0 no_time (place + 1) rest (count + accepted_count h.0)
      (has_failed || is_failed h.0) h.1 b boxes' once.1 k in
      let apart : (later.receiver ≡ r → ⊥) =
      λ same. true≢false (sym later.among ∙ ap (contains (occupants rest)) same ∙ once.0) in
      let box : h.1 later.receiver ≡ boxes later.receiver = ap (λ (f : ℕ → Mailbox). f later.receiver) (h.2).2
      ∙ put_at-other boxes r (h.2).0 later.receiver (ne_eqb later.receiver r apart) in
      record {
        receiver = later.receiver;
        among = contains_later r later.receiver (occupants rest) later.among;
        first = later.first;
        full = subst (IsFullAt c.enable_safe_overflow (buffers later.receiver)) box later.full;
      })

-- The send of p that is blocked waits for this receiver, one of these ends, which is full.
pub record Stops {T U : Type 0} (s s' : State T U) (p n : ℕ) (ends : List (Option ℕ)) : Type 0 where
  pub receiver : ℕ
  pub among : contains (occupants ends) receiver ≡ true
  pub goes : GoesTo s' p n receiver
  pub first : occupant (goes.blocked).ends 0 ≡ Some receiver
  pub full : IsFullAt (s.config).enable_safe_overflow (channel_buffer s p 0 receiver) (s.mailboxes p receiver)

-- And if the publisher was connected with it, it was full before.
pub record StopsFull {T U : Type 0} (s s' : State T U) (p n : ℕ) : Type 0 where
  pub receiver : ℕ
  pub goes : GoesTo s' p n receiver
  pub first : occupant (goes.blocked).ends 0 ≡ Some receiver
  pub full : (c : Connects s p receiver)
      → IsFullAt (s.config).enable_safe_overflow (Some (c.subscriber).buffer) (s.mailboxes p receiver)

module _ {T U : Type 0} (environment : Environment) where
  pub goes-on-stops : (s : State T U) (p n retries : ℕ) (elapsed : Duration) (place : ℕ) (ends : List (Option ℕ))
      (count : ℕ) (has_failed : Bool) (s' : State T U) → IsOnce (occupants ends)
      → DeliverAndConclude environment s p (sending n 0 retries place ends count has_failed) elapsed s' Blocked_send
      → Stops s s' p n ends
  goes-on-stops s p n retries elapsed place ends count has_failed s' once h =
      by_option (Stops s s' p n ends) (s.publishers p) _ _ h (λ _ v. absurd v)
      (λ z here k. stopped z here k.0 k.1 k.2 k.3) where
        stopped : (z : Publisher) → s.publishers p ≡ Some z → (how : DeliveryEnd) (boxes : ℕ → Mailbox)
            → Deliver environment s.config p z.backpressure_strategy z.backpressure_handler
            (channel_buffer s p 0) n 0 retries elapsed place ends count has_failed (s.mailboxes p) how boxes
            → ConcludeSend (with_mailboxes s p boxes) p n how s' Blocked_send → Stops s s' p n ends
        stopped z here (Complete all failed) boxes delivers k = absurd (never-blocked failed UnableToDeliver all k.1)
        stopped z here (Suspended b) boxes delivers k =
            let at =
            deliver-stops environment s.config p z.backpressure_strategy z.backpressure_handler
            (channel_buffer s p 0) n retries elapsed place ends count has_failed
            (s.mailboxes p) b boxes once delivers in
            let stops = stops-within environment s.config p z.backpressure_strategy z.backpressure_handler
            (channel_buffer s p 0) n retries elapsed place ends count has_failed (s.mailboxes p) b boxes delivers in
            let stands : s'.publishers p ≡ Some (record z { blocked = Some b }) =
            ap (λ (t : State T U). t.publishers p) k.0 ∙ put_at-same s.publishers p
            (option_map (λ (x : Publisher). record x { blocked = Some b }) (s.publishers p))
            ∙ ap (option_map (λ (x : Publisher). record x { blocked = Some b })) here in
            record {
              receiver = at.receiver;
              among = at.among;
              goes = record {
                publisher = record z { blocked = Some b };
                blocked = b;
                stands = stands;
                waits = refl;
                message = stops.message;
                channel = stops.channel;
                some = stops.some;
                ahead = contains-occupants b.ends at.receiver (0, at.first);
              };
              first = at.first;
              full = at.full;
            }

  -- who is connected has its buffer
  pub full-connected : (s : State T U) (w : IsWellFormed s) (s' : State T U) (p n : ℕ) (ends : List (Option ℕ))
      → Stops s s' p n ends → StopsFull s s' p n
  full-connected s w s' p n ends stops = record {
    receiver = stops.receiver;
    goes = stops.goes;
    first = stops.first;
    full = λ c. subst (λ (o : Option ℕ). IsFullAt (s.config).enable_safe_overflow o (s.mailboxes p stops.receiver))
        (takes-buffer environment s w p stops.receiver c) stops.full;
  }

  publish-stops : (s : State T U) (w : IsWellFormed s) (p n : ℕ) (s' : State T U)
      → Publish environment s p n s' Blocked_send → StopsFull s s' p n
  publish-stops s w p n s' h =
      by_option (StopsFull s s' p n) (s.publishers p) _ _ h (λ _ v. absurd v) (λ x present k.
      let stops = goes-on-stops (published s p n) p n 0 no_time 0 x.ends 0 false s'
      (IsOnce-occupants x.ends (w.publishers p x present).ends_apart) k in
      record {
        receiver = stops.receiver;
        goes = stops.goes;
        first = stops.first;
        full = λ c. subst (λ (o : Option ℕ). IsFullAt (s.config).enable_safe_overflow o (s.mailboxes p stops.receiver))
            (takes-buffer environment s w p stops.receiver c) stops.full;
      })

  pub send-stops : (s : State T U) (n : ℕ) (l : Loan T U) (s' : State T U) (w : IsWellFormed s)
      → is_blocked s l.publisher ≡ false → Send environment s n l s' Blocked_send → StopsFull s s' l.publisher n
  send-stops s n l s' w free h =
      by_option (StopsFull s s' l.publisher n) (s.publishers l.publisher) _ _ h
      (λ _ k. let clash : Blocked_send ≡ Send_error _ = k.1 in absurd cc)
      (λ x _ k. by_option (StopsFull s s' l.publisher n) k.1 _ _ k.3
      (λ _ j. after k.0 k.1 k.2 j)
      (λ e _ j. let clash : Blocked_send ≡ Send_error _ = j.1 in absurd cc))
    where
      overflow : (mid : State T U) (failure : Option ConnectionFailure)
          → UpdatePublisher environment s l.publisher mid failure
          → (mid.config).enable_safe_overflow ≡ (s.config).enable_safe_overflow
      overflow mid failure updates =
          by_option ((mid.config).enable_safe_overflow ≡ (s.config).enable_safe_overflow)
          (s.publishers l.publisher) _ _ updates (λ _ v. absurd v) (λ x _ k.
          by_bool ((mid.config).enable_safe_overflow ≡ (s.config).enable_safe_overflow) x.is_due _ _ k
          (λ _ j. ap (λ (t : State T U). (t.config).enable_safe_overflow) j.2)
          (λ _ j. ap (λ (t : State T U). (t.config).enable_safe_overflow) j.0))

      after : (mid : State T U) (failure : Option ConnectionFailure)
          → UpdatePublisher environment s l.publisher mid failure
          → Publish environment mid l.publisher n s' Blocked_send → StopsFull s s' l.publisher n
      after mid failure updates publishes =
          let v : IsWellFormed mid = update_publisher_keeps environment s l.publisher mid failure w free updates in
          let stops = publish-stops mid v l.publisher n s' publishes in
          record {
            receiver = stops.receiver;
            goes = stops.goes;
            first = stops.first;
            full = λ c.
                let kept = update-publisher-connected environment s w l.publisher stops.receiver c l.publisher mid
                failure updates in
                let there : mid.subscribers stops.receiver ≡ Some c.subscriber =
                ap (λ (f : ℕ → Option Subscriber). f stops.receiver)
                (update_publisher_subscribers environment s l.publisher mid failure updates) ∙ c.there in
                let same : (kept.0).subscriber ≡ c.subscriber =
                same_Some (kept.0).subscriber c.subscriber (sym (kept.0).there ∙ there) in
                let full = stops.full kept.0 in
                record {
                  size = full.size;
                  opened = ap (λ (y : Subscriber). Some y.buffer) (sym same) ∙ full.opened;
                  full = ap (λ (box : Mailbox). has_room 0 full.size box) (sym kept.1) ∙ full.full;
                  no_overflow = sym (overflow mid failure updates) ∙ full.no_overflow;
                };
          }
