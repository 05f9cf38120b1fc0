-- What a delivery does at one receiver, where it ends and where it waits: it serves a receiver that it comes past, and
-- leaves those that it has before it as they were.
use Rattle.std.proofs.Common.{◌≡◌, ℕ, ◌+◌, ◌<◌, ◌⊎◌, inl, inr, ⊎_elim, Bool, true, false, cond, ◌||◌, List, [], ◌∷◌}
use Rattle.std.proofs.Common.{length, refl, sym, ap, subst, ◌∙◌, arith, Option, None, Some}
use Rattle.std.specs.Option.{option_map}
use Rattle.std.specs.declared.time.Duration.{Duration}
use Rattle.std.proofs.lemmas.Bool.{true≢false, cases_eq, ne_eqb}
use Rattle.iox2_machine.specs.machine.Delivery.{Deliver, DeliveryEnd, Complete, Suspended, PutResult, Put}
use Rattle.iox2_machine.specs.machine.Delivery.{accepted_count, is_blocking, is_failed, no_time}
use Rattle.iox2_machine.specs.machine.Mailbox.{Mailbox, has_room, with_appended}
use Rattle.iox2_machine.specs.machine.Numbers.{contains, put_at, IsOnce}
use Rattle.iox2_machine.specs.machine.Places.{occupants}
use Rattle.iox2_machine.specs.machine.Records.{BlockedSend, Environment, Handler, Publisher}
use Rattle.iox2_machine.specs.machine.Sends.{ConcludeSend, DeliverAndConclude, SendResult, Blocked_send, Delivered_to}
use Rattle.iox2_machine.specs.machine.Sends.{Send_error, with_mailboxes}
use Rattle.iox2_machine.specs.machine.State.{State, channel_buffer}
use Rattle.iox2_machine.specs.declared.backpressure.BackpressureAction.{BackpressureAction}
use Rattle.iox2_machine.specs.declared.backpressure.BackpressureStrategy.{BackpressureStrategy}
use Rattle.iox2_machine.specs.declared.errors.SendError.{SendError}
use Rattle.iox2_machine.specs.declared.errors.SendError.TheVariants.{UnableToDeliver}
use Rattle.iox2_machine.specs.declared.service_config.ServiceConfig.{ServiceConfig}
use Rattle.iox2_laws.specs.Sendings.{sending}
use Rattle.iox2_laws.proofs.Cases.{by_option, by_bool}
use Rattle.iox2_laws.proofs.NumberLemmas.{contains_in_cons, contains_later}
use Rattle.iox2_laws.proofs.Puts.{put_at-same, put_at-other}
use Rattle.iox2_pubsub.specs.PendingSends.{GoesTo, PassesBy}
use Rattle.iox2_pubsub.proofs.ConnectedSends.{deliver-misses, deliver-serves, put-serves}

-- The mailbox, once the message n was put there, or went past since it was full.
abbrev pub served_box : (overflow : Bool) (buffer n : ℕ) → Mailbox → Mailbox
served_box overflow buffer n box = cond (has_room 0 buffer box || overflow) (with_appended 0 buffer n box) box

-- The ends that remain are some of those that a delivery of the message n began with.
pub record StopsWithin (n : ℕ) (ends : List (Option ℕ)) (b : BlockedSend) : Type 0 where
  pub message : b.message ≡ n
  pub channel : b.channel ≡ 0
  pub some : 0 < length b.ends
  pub among : (q : ℕ) → contains (occupants b.ends) q ≡ true → contains (occupants ends) q ≡ true

-- The receiver q was served and is behind, or nothing moved there and it is before the send.
abbrev pub Splits : (overflow : Bool) (buffer n q : ℕ) → BlockedSend → (before after : Mailbox) → Type 0
Splits overflow buffer n q b before after =
    ((after ≡ served_box overflow buffer n before) × (contains (occupants b.ends) q ≡ false))
    ⊎ ((after ≡ before) × (contains (occupants b.ends) q ≡ true))

behind : (end : Option ℕ) (rest : List (Option ℕ)) (q : ℕ) → contains (occupants rest) q ≡ true
    → contains (occupants (end ∷ rest)) q ≡ true
behind None rest q at = at
behind (Some r) rest q at = contains_later r q (occupants rest) at

not-true : (b : Bool) → (b ≡ true → ⊥) → b ≡ false
not-true true never = absurd (never refl)
not-true false never = refl

-- where none of the ends led to it, none that remains does
pub still-past : (n : ℕ) (ends : List (Option ℕ)) (b : BlockedSend) → StopsWithin n ends b → (q : ℕ)
    → contains (occupants ends) q ≡ false → contains (occupants b.ends) q ≡ false
still-past n ends b stops q none =
    not-true (contains (occupants b.ends) q) (λ at. true≢false (sym (stops.among q at) ∙ none))

module _ (environment : Environment) (c : ServiceConfig) (p : ℕ) (strategy : BackpressureStrategy)
    (handler : Option (Handler BackpressureAction)) (buffers : ℕ → Option ℕ) (n : ℕ) where
  pub stops-within : (retries : ℕ) (elapsed : Duration) (place : ℕ) (ends : List (Option ℕ)) (count : ℕ)
      (has_failed : Bool) (boxes : ℕ → Mailbox) (b : BlockedSend) (boxes' : ℕ → Mailbox)
      → Deliver environment c p strategy handler buffers n 0 retries elapsed place ends count has_failed boxes
      (Suspended b) boxes' → StopsWithin n ends b
  stops-within retries elapsed place [] count has_failed boxes b boxes' h =
      absurd (let no : Suspended b ≡ Complete count has_failed = h.0 in cc)
  stops-within retries elapsed place (end ∷ rest) count has_failed boxes b boxes' h =
      by_bool (StopsWithin n (end ∷ rest) b) (is_blocking h.0) _ _ h.3
      (λ _ k.
      let stop : BlockedSend = record {
        message = n;
        channel = 0;
        place = place;
        ends = end ∷ rest;
        retries = retries;
        count = count;
        has_failed = has_failed;
      } in
      let same : Suspended b ≡ Suspended stop = k.0 in
      let is : b ≡ stop = cc in
      record {
        message = ap (λ (v : BlockedSend). v.message) is;
        channel = ap (λ (v : BlockedSend). v.channel) is;
        some = let long : length b.ends ≡ length (end ∷ rest) = ap (λ (v : BlockedSend). length v.ends) is in
            omega (arith, long);
        among = λ q at. ap (λ (v : BlockedSend). contains (occupants v.ends) q) (sym is) ∙ at;
      })
      (λ _ k.
      let later = stops-within 0 no_time (place + 1) rest (count + accepted_count h.0)
      (has_failed || is_failed h.0) h.1 b boxes' k in
      record {
        message = later.message;
        channel = later.channel;
        some = later.some;
        among = λ q at. behind end rest q (later.among q at);
      })

  module _ (q buffer : ℕ) (opened : buffers q ≡ Some buffer) where
    -- a receiver that blocks keeps its mailbox
    blocks-same : (retries : ℕ) (elapsed : Duration) (o : Option ℕ) (box : Mailbox) (result : PutResult)
        (box' : Mailbox)
        → Put environment c p strategy handler buffers n 0 q retries elapsed o box result box'
        → is_blocking result ≡ true → box' ≡ box
    blocks-same retries elapsed None box result box' h blocks = h.1
    blocks-same retries elapsed (Some room) box result box' h blocks =
        by_bool (box' ≡ box) (has_room 0 room box || c.enable_safe_overflow) _ _ h
        (λ _ k. absurd (true≢false (sym blocks ∙ ap is_blocking k.0)))
        (λ _ k. k.1)

    -- a delivery that waits
    pub deliver-splits : (retries : ℕ) (elapsed : Duration) (place : ℕ) (ends : List (Option ℕ)) (count : ℕ)
        (has_failed : Bool) (boxes : ℕ → Mailbox) (b : BlockedSend) (boxes' : ℕ → Mailbox)
        → contains (occupants ends) q ≡ true → IsOnce (occupants ends)
        → Deliver environment c p strategy handler buffers n 0 retries elapsed place ends count has_failed boxes
        (Suspended b) boxes' → Splits c.enable_safe_overflow buffer n q b (boxes q) (boxes' q)
    deliver-splits retries elapsed place [] count has_failed boxes b boxes' at once h = absurd (true≢false (sym at))
    deliver-splits retries elapsed place (None ∷ rest) count has_failed boxes b boxes' at once h =
        by_bool (Splits c.enable_safe_overflow buffer n q b (boxes q) (boxes' q)) (is_blocking h.0) _ _ h.3
        (λ blocks _. absurd (true≢false (sym blocks ∙ ap is_blocking (h.2).0)))
        (λ _ k. subst (λ (f : ℕ → Mailbox). Splits c.enable_safe_overflow buffer n q b (f q) (boxes' q)) (h.2).1
        (deliver-splits 0 no_time (place + 1) rest (count + accepted_count h.0)
        (has_failed || is_failed h.0) h.1 b boxes' at once k))
    deliver-splits retries elapsed place (Some r ∷ rest) count has_failed boxes b boxes' at once h =
        by_bool (Splits c.enable_safe_overflow buffer n q b (boxes q) (boxes' q)) (is_blocking h.0) _ _ h.3
        (λ blocks k. stopped blocks k.0 k.1) (λ _ k. elim (cases_eq r q) [
          | inl here ↦ inl (
            deliver-misses environment c p strategy handler buffers n q 0 no_time (place + 1) rest
                (count + accepted_count h.0) (has_failed || is_failed h.0) h.1 (Suspended b) boxes' (gone here) k
                ∙ row here ∙ put-serves environment c p strategy handler buffers n q retries elapsed buffer
                (boxes q) h.0 (h.2).0
                (subst (λ (o : Option ℕ). Put environment c p strategy handler buffers n 0 q retries elapsed o
                (boxes q) h.0 (h.2).0) opened (put here)),
            still-past n rest b (stops-within 0 no_time (place + 1) rest (count + accepted_count h.0)
                (has_failed || is_failed h.0) h.1 b boxes' k) q (gone here),
          )
          | inr away ↦ subst (λ (box : Mailbox). Splits c.enable_safe_overflow buffer n q b box (boxes' q)) (other away)
              (deliver-splits 0 no_time (place + 1) rest (count + accepted_count h.0)
              (has_failed || is_failed h.0) h.1 b boxes'
              (⊎_elim (λ same. absurd (away same)) (λ later. later) (contains_in_cons r q (occupants rest) at)) once.1
              k)
        ])
      where
        gone : r ≡ q → contains (occupants rest) q ≡ false
        gone here = subst (λ (i : ℕ). contains (occupants rest) i ≡ false) here once.0

        put : r ≡ q
            → Put environment c p strategy handler buffers n 0 q retries elapsed (buffers q) (boxes q) h.0 (h.2).0
        put here = subst (λ (i : ℕ). Put environment c p strategy handler buffers n 0 i retries elapsed (buffers i)
            (boxes i) h.0 (h.2).0) here ((h.2).1)

        row : r ≡ q → h.1 q ≡ (h.2).0
        row here = ap (λ (f : ℕ → Mailbox). f q) ((h.2).2 ∙ ap (λ (i : ℕ). put_at boxes i (h.2).0) here)
            ∙ put_at-same boxes q (h.2).0

        other : (r ≡ q → ⊥) → h.1 q ≡ boxes q
        other away = ap (λ (f : ℕ → Mailbox). f q) (h.2).2
            ∙ put_at-other boxes r (h.2).0 q (ne_eqb q r (λ same. away (sym same)))

        stopped : is_blocking h.0 ≡ true → Suspended b ≡ Suspended
            (record {
              message = n;
              channel = 0;
              place = place;
              ends = Some r ∷ rest;
              retries = retries;
              count = count;
              has_failed = has_failed;
            })
            → boxes' ≡ h.1 → Splits c.enable_safe_overflow buffer n q b (boxes q) (boxes' q)
        stopped blocks stop same =
            let is : b ≡ record {
              message = n;
              channel = 0;
              place = place;
              ends = Some r ∷ rest;
              retries = retries;
              count = count;
              has_failed = has_failed;
            } = cc in
            inr (
              ap (λ (f : ℕ → Mailbox). f q) same ∙ elim (cases_eq r q) [
                | inl here ↦ row here ∙ blocks-same retries elapsed (buffers q) (boxes q) h.0 (h.2).0 (put here) blocks
                | inr away ↦ other away
              ],
              ap (λ (v : BlockedSend). contains (occupants v.ends) q) is ∙ at,
            )

-- ---- where the send ends, or is blocked

pub never-blocked : (failed : Bool) (e : SendError) (count : ℕ)
    → Blocked_send ≡ cond failed (Send_error e) (Delivered_to count) → ⊥
never-blocked true e count h = let clash : Blocked_send ≡ Send_error e = h in cc
never-blocked false e count h = let clash : Blocked_send ≡ Delivered_to count = h in cc

module _ {T U : Type 0} where
  -- The receiver q was served with the message n of p, and is behind; or nothing moved there, and it is before the
  -- send.
  abbrev pub IsSplit : (s s' : State T U) (p n q buffer : ℕ) → Type 0
  IsSplit s s' p n q buffer =
      ((s'.mailboxes p q ≡ served_box (s.config).enable_safe_overflow buffer n (s.mailboxes p q)) × PassesBy s' p n q)
      ⊎ ((s'.mailboxes p q ≡ s.mailboxes p q) × GoesTo s' p n q)

  -- Where the send has ended, the receiver q was served.
  abbrev pub Comes : (s s' : State T U) (p n q buffer : ℕ) → SendResult → Type 0
  Comes s s' p n q buffer result =
      ((result ≡ Blocked_send → ⊥)
      × (s'.mailboxes p q ≡ served_box (s.config).enable_safe_overflow buffer n (s.mailboxes p q)))
      ⊎ ((result ≡ Blocked_send) × IsSplit s s' p n q buffer)

  -- Nothing moved at the receiver q, which is behind.
  abbrev pub Leaves : (s s' : State T U) (p n q : ℕ) → SendResult → Type 0
  Leaves s s' p n q result = (s'.mailboxes p q ≡ s.mailboxes p q) × (result ≡ Blocked_send → PassesBy s' p n q)

  module _ (environment : Environment) (s : State T U) (p n retries : ℕ) (elapsed : Duration) (place : ℕ)
      (ends : List (Option ℕ)) (count : ℕ) (has_failed : Bool) (s' : State T U) (result : SendResult)
      (h : DeliverAndConclude environment s p (sending n 0 retries place ends count has_failed) elapsed s' result)
      (q : ℕ) where
    abbrev Delivers : Publisher → DeliveryEnd → (ℕ → Mailbox) → Type 0
    Delivers z how boxes = Deliver environment s.config p z.backpressure_strategy z.backpressure_handler
        (channel_buffer s p 0) n 0 retries elapsed place ends count has_failed (s.mailboxes p) how boxes

    row : (boxes : ℕ → Mailbox) (t : State T U) → t.mailboxes ≡ (with_mailboxes s p boxes).mailboxes
        → t.mailboxes p q ≡ boxes q
    row boxes t same =
        ap (λ (f : ℕ → ℕ → Mailbox). f p q) same ∙ ap (λ (f : ℕ → Mailbox). f q) (put_at-same s.mailboxes p boxes)

    stands-blocked : (z : Publisher) → s.publishers p ≡ Some z → (boxes : ℕ → Mailbox) (b : BlockedSend)
        → ConcludeSend (with_mailboxes s p boxes) p n (Suspended b) s' result
        → s'.publishers p ≡ Some (record z { blocked = Some b })
    stands-blocked z at boxes b k =
        ap (λ (t : State T U). t.publishers p) k.0 ∙ put_at-same s.publishers p
        (option_map (λ (x : Publisher). record x { blocked = Some b }) (s.publishers p))
        ∙ ap (option_map (λ (x : Publisher). record x { blocked = Some b })) at

    pub goes-on-comes : (buffer : ℕ) → channel_buffer s p 0 q ≡ Some buffer → contains (occupants ends) q ≡ true
        → IsOnce (occupants ends) → Comes s s' p n q buffer result
    goes-on-comes buffer opened at once = by_option (Comes s s' p n q buffer result) (s.publishers p) _ _ h
        (λ _ v. absurd v) (λ z here k. came z here k.0 k.1 k.2 k.3) where
          came : (z : Publisher) → s.publishers p ≡ Some z → (how : DeliveryEnd) (boxes : ℕ → Mailbox)
              → Delivers z how boxes → ConcludeSend (with_mailboxes s p boxes) p n how s' result
              → Comes s s' p n q buffer result
          came z here (Complete all failed) boxes delivers k = inl (
            λ is. never-blocked failed UnableToDeliver all (sym is ∙ k.1),
            row boxes s' (ap (λ (t : State T U). t.mailboxes) k.0)
                ∙ deliver-serves environment s.config p z.backpressure_strategy z.backpressure_handler
                (channel_buffer s p 0) n q retries elapsed place ends count has_failed
                (s.mailboxes p) all failed boxes buffer
                opened at once delivers,
          )
          came z here (Suspended b) boxes delivers k =
              let stops = stops-within environment s.config p z.backpressure_strategy z.backpressure_handler
              (channel_buffer s p 0) n retries elapsed place ends count has_failed (s.mailboxes p) b boxes delivers in
              let same : s'.mailboxes p q ≡ boxes q = row boxes s' (ap (λ (t : State T U). t.mailboxes) k.0) in
              let stands = stands-blocked z here boxes b k in
              inr (
                k.1,
                ⊎_elim
                    (λ it. inl (
                      same ∙ it.0,
                      record {
                        publisher = record z { blocked = Some b };
                        blocked = b;
                        stands = stands;
                        waits = refl;
                        message = stops.message;
                        channel = stops.channel;
                        some = stops.some;
                        past = it.1;
                      },
                    ))
                    (λ it. inr (
                      same ∙ it.0,
                      record {
                        publisher = record z { blocked = Some b };
                        blocked = b;
                        stands = stands;
                        waits = refl;
                        message = stops.message;
                        channel = stops.channel;
                        some = stops.some;
                        ahead = it.1;
                      },
                    ))
                    (deliver-splits environment s.config p z.backpressure_strategy z.backpressure_handler
                    (channel_buffer s p 0) n q buffer opened retries elapsed place ends count has_failed
                    (s.mailboxes p) b boxes at once
                    delivers),
              )

    pub goes-on-leaves : contains (occupants ends) q ≡ false → Leaves s s' p n q result
    goes-on-leaves none = by_option (Leaves s s' p n q result) (s.publishers p) _ _ h (λ _ v. absurd v)
        (λ z here k. left z here k.0 k.1 k.2 k.3) where
          missed : (z : Publisher) (how : DeliveryEnd) (boxes : ℕ → Mailbox) → Delivers z how boxes
              → boxes q ≡ s.mailboxes p q
          missed z how boxes delivers =
              deliver-misses environment s.config p z.backpressure_strategy z.backpressure_handler
              (channel_buffer s p 0) n q retries elapsed place ends count has_failed
              (s.mailboxes p) how boxes none delivers

          left : (z : Publisher) → s.publishers p ≡ Some z → (how : DeliveryEnd) (boxes : ℕ → Mailbox)
              → Delivers z how boxes → ConcludeSend (with_mailboxes s p boxes) p n how s' result
              → Leaves s s' p n q result
          left z here (Complete all failed) boxes delivers k = (
            row boxes s' (ap (λ (t : State T U). t.mailboxes) k.0) ∙ missed z (Complete all failed) boxes delivers,
            λ is. absurd (never-blocked failed UnableToDeliver all (sym is ∙ k.1)),
          )
          left z here (Suspended b) boxes delivers k =
              let stops = stops-within environment s.config p z.backpressure_strategy z.backpressure_handler
              (channel_buffer s p 0) n retries elapsed place ends count has_failed (s.mailboxes p) b boxes delivers in (
                row boxes s' (ap (λ (t : State T U). t.mailboxes) k.0) ∙ missed z (Suspended b) boxes delivers,
                λ _. record {
                  publisher = record z { blocked = Some b };
                  blocked = b;
                  stands = stands-blocked z here boxes b k;
                  waits = refl;
                  message = stops.message;
                  channel = stops.channel;
                  some = stops.some;
                  past = still-past n ends b stops q none;
                },
              )
