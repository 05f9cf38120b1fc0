-- A publisher that has its connection with a subscriber keeps it through its update, and each of its sends reaches the
-- subscriber.
use Rattle.std.proofs.Common.{◌≡◌, ℕ, ◌+◌, ◌<◌, length, Bool, true, false, cond, ◌||◌, List, [], ◌∷◌, refl, sym, ap}
use Rattle.std.proofs.Common.{subst, ◌∙◌, eqb, Option, None, Some, inl, inr, ⊎_elim}
use Rattle.std.specs.Prelude.{◌≢◌}
use Rattle.std.specs.Option.{option_map, option_and_then}
use Rattle.std.specs.declared.time.Duration.{Duration}
use Rattle.std.proofs.lemmas.Bool.{true≢false, ne_eqb, eq-eqb, cases_eq, and_parts, or_parts}
use Rattle.std.proofs.lemmas.Option.{none-some, same_Some}
use Rattle.iox2_machine.specs.machine.Numbers.{put_at, contains, IsOnce, last_n}
use Rattle.iox2_machine.specs.machine.Places.{occupant, occupants, set_place, is_port}
use Rattle.iox2_machine.specs.machine.Mailbox.{Mailbox, has_room, with_appended, waiting_dropped, with_waiting}
use Rattle.iox2_machine.specs.machine.Records.{Publisher, Subscriber, Handler, Environment}
use Rattle.iox2_machine.specs.machine.State.{State, receiving_buffer, has_receiver_end}
use Rattle.iox2_machine.specs.machine.Connections.{ForEachPlace}
use Rattle.iox2_machine.specs.machine.Delivery.{PutResult, DeliveryEnd, Complete, Suspended, Put, Deliver, is_blocking}
use Rattle.iox2_machine.specs.machine.Delivery.{is_failed, accepted_count, no_time}
use Rattle.iox2_machine.specs.machine.PublisherUpdate.{SenderSide, SenderAction, Keep_end, Drop_waiting, Disconnect}
use Rattle.iox2_machine.specs.machine.PublisherUpdate.{Connect, sender_action, dropped, disconnected, connected}
use Rattle.iox2_machine.specs.machine.PublisherUpdate.{Performs, UpdateSenderPlace, history_for, sender_side}
use Rattle.iox2_machine.specs.machine.PublisherUpdate.{with_sender_side, UpdatePublisher}
use Rattle.iox2_machine.specs.machine.WellFormed.{IsWellFormed, subscriber_place}
use Rattle.iox2_machine.specs.declared.backpressure.BackpressureStrategy.{BackpressureStrategy}
use Rattle.iox2_machine.specs.declared.backpressure.BackpressureAction.{BackpressureAction}
use Rattle.iox2_machine.specs.declared.degradation.DegradationAction.{DegradationAction}
use Rattle.iox2_machine.specs.declared.service_config.ServiceConfig.{ServiceConfig}
use Rattle.iox2_machine.specs.declared.errors.ConnectionFailure.{ConnectionFailure}
use Rattle.iox2_laws.proofs.Cases.{by_option, by_bool}
use Rattle.iox2_laws.proofs.NumberLemmas.{contains_in_cons}
use Rattle.iox2_laws.proofs.PlaceLemmas.{occupant-set_place, found_set}
use Rattle.iox2_laws.proofs.Puts.{put_at-same, put_at-other}
use Rattle.iox2_laws.proofs.Walks.{for_each_place_keeps}
use Rattle.iox2_pubsub.specs.ConnectedPorts.{Connects}
use Rattle.iox2_pubsub.proofs.OpenChannels.{sender-reset-connects, still-connects}

-- ---- a publisher's update

-- an action that leaves the end to q, and its mailbox
module _ (q : ℕ) where
  abbrev Spares : SenderAction → Type 0
  Spares Keep_end = Unit {0}
  Spares (Drop_waiting i) = i ≢ q
  Spares Disconnect = Unit {0}
  Spares (Connect i buffer) = i ≢ q

  action-spares : (buffers : ℕ → Option ℕ) (at end : Option ℕ) → (at ≡ Some q → ⊥)
      → Spares (sender_action buffers at end)
  action-spares buffers None end away = tt
  action-spares buffers (Some i) end away = by (buffers i) (is_port end i) where
    by : (o : Option ℕ) (b : Bool) → Spares
        (elim o [ None ↦ cond b (Drop_waiting i) Disconnect | Some buffer ↦ cond b Keep_end (Connect i buffer) ])
    by None true = λ same. away (ap (λ j. Some j) same)
    by None false = tt
    by (Some buffer) true = tt
    by (Some buffer) false = λ same. away (ap (λ j. Some j) same)

-- the action at the place of an opened subscriber to which the end leads
keeps-end : (buffers : ℕ → Option ℕ) (q buffer : ℕ) → buffers q ≡ Some buffer
    → sender_action buffers (Some q) (Some q) ≡ Keep_end
keeps-end buffers q buffer opened = by (buffers q) (eqb q q) opened (eq-eqb q q refl) where
  by : (o : Option ℕ) (b : Bool) → o ≡ Some buffer → b ≡ true
      → elim o [ None ↦ cond b (Drop_waiting q) Disconnect | Some room ↦ cond b Keep_end (Connect q room) ] ≡ Keep_end
  by None b e f = absurd (none-some buffer e)
  by (Some room) true e f = refl
  by (Some room) false e f = absurd (true≢false (sym f))

module _ (q place : ℕ) (box : Mailbox) where
  -- The end to q stands at the place and nowhere else, and its mailbox is that.
  record LeadsThere (side : SenderSide) : Type 0 where
    at : occupant side.ends place ≡ Some q
    same : side.mailboxes q ≡ box
    alone : (i : ℕ) → occupant side.ends i ≡ Some q → i ≡ place

  other-place : (i : ℕ) (x : Option ℕ) (side : SenderSide) → i ≢ place → LeadsThere side
      → occupant (set_place side.ends i x) place ≡ Some q
  other-place i x side away there = occupant-set_place side.ends i x place
      ∙ ap (λ b. cond b x (occupant side.ends place)) (ne_eqb place i (λ same. away (sym same))) ∙ there.at

  there-dropped : (k : ℕ) (side : SenderSide) → k ≢ q → LeadsThere side → LeadsThere (dropped side k)
  there-dropped k side away there = record {
    at = there.at;
    same = put_at-other side.mailboxes k (waiting_dropped (side.mailboxes k)) q (ne_eqb q k (λ same. away (sym same)))
        ∙ there.same;
    alone = there.alone;
  }

  there-disconnected : (i : ℕ) (end : Option ℕ) (side : SenderSide) → i ≢ place → (end ≡ Some q → ⊥) → LeadsThere side
      → LeadsThere (disconnected side i end)
  there-disconnected i None side away other there = there
  there-disconnected i (Some k) side away other there = record {
    at = other-place i None side away there;
    same = put_at-other side.mailboxes k (waiting_dropped (side.mailboxes k)) q
        (ne_eqb q k (λ same. other (ap (λ j. Some j) (sym same)))) ∙ there.same;
    alone = λ j e.
        ⊎_elim (λ gone. absurd (none-some q gone.1)) (λ old. there.alone j old.1) (found_set side.ends i None j q e);
  }

  there-connected : (history : List ℕ) (i k buffer : ℕ) (side : SenderSide) → i ≢ place → k ≢ q → LeadsThere side
      → LeadsThere (connected history side i k buffer)
  there-connected history i k buffer side away other there = record {
    at = other-place i (Some k) side away there;
    same = put_at-other side.mailboxes k (with_waiting (last_n buffer history) (side.mailboxes k)) q
        (ne_eqb q k (λ same. other (sym same))) ∙ there.same;
    alone = λ j e. ⊎_elim (λ new. absurd (other (same_Some k q new.1))) (λ old. there.alone j old.1)
        (found_set side.ends i (Some k) j q e);
  }

  module _ (environment : Environment) (service_id p : ℕ) (handler : Handler DegradationAction) (histories : ℕ → List ℕ)
      (buffers : ℕ → Option ℕ) (has_end : ℕ → Bool) where
    performed : (action : SenderAction) → Spares q action
        → (i : ℕ) (side side' : SenderSide) (failure : Option ConnectionFailure) → i ≢ place → LeadsThere side
        → Performs environment service_id p handler histories buffers has_end action i side side' failure
        → LeadsThere side'
    performed Keep_end spares i side side' failure away there h = subst LeadsThere (sym h.0) there
    performed (Drop_waiting k) spares i side side' failure away there h =
        subst LeadsThere (sym h.0) (there-dropped k side spares there)
    performed Disconnect spares i side side' failure away there h =
        subst LeadsThere (sym h.0)
        (there-disconnected i (occupant side.ends i) side away (λ e. away (there.alone i e)) there)
    performed (Connect k buffer) spares i side side' failure away there h =
        let free : LeadsThere (disconnected side i (occupant side.ends i)) =
        there-disconnected i (occupant side.ends i) side away (λ e. away (there.alone i e)) there in
        ⊎_elim
        (λ made. subst LeadsThere (sym made.0)
        (there-connected (histories k) i k buffer (disconnected side i (occupant side.ends i)) away spares free))
        (λ refused. subst LeadsThere (sym refused.3) (record { at = free.at; same = free.same; alone = free.alone }))
        h

    walked : (places : List (Option ℕ)) (buffer : ℕ) → buffers q ≡ Some buffer → occupant places place ≡ Some q
        → ((i : ℕ) → occupant places i ≡ Some q → i ≡ place)
        → (side side' : SenderSide) (failure : Option ConnectionFailure) → LeadsThere side
        → ForEachPlace (UpdateSenderPlace environment service_id p handler histories buffers has_end) 0 places side
        side' failure → LeadsThere side'
    walked places buffer opened stands alone side side' failure =
        for_each_place_keeps (UpdateSenderPlace environment service_id p handler histories buffers has_end) LeadsThere
        places step side side' failure
      where
        step : (i : ℕ) (a b : SenderSide) (failure : Option ConnectionFailure) → i < length places → LeadsThere a
            → UpdateSenderPlace environment service_id p handler histories buffers has_end i
            (occupant places i) a b failure → LeadsThere b
        step i a b failure low there h = elim (cases_eq i place) [
          | inl here ↦
              let action : sender_action buffers (occupant places i) (occupant a.ends i) ≡ Keep_end =
              ap (λ j. sender_action buffers (occupant places j) (occupant a.ends j)) here
              ∙ ap (λ o. sender_action buffers o (occupant a.ends place)) stands
              ∙ ap (sender_action buffers (Some q)) there.at ∙ keeps-end buffers q buffer opened in
              let kept : (b ≡ a) × (failure ≡ None) =
              subst (λ (act : SenderAction).
              Performs environment service_id p handler histories buffers has_end act i a b failure) action h in
              subst LeadsThere (sym kept.0) there
          | inr away ↦ performed (sender_action buffers (occupant places i) (occupant a.ends i))
              (action-spares q buffers (occupant places i) (occupant a.ends i) (λ e. away (alone i e))) i a b failure
              away there h
        ]

module _ {T U : Type 0} where
  -- an open subscriber has its buffer
  pub opened-buffer : (s : State T U) (q : ℕ) (y : Subscriber) → s.subscribers q ≡ Some y → y.is_open ≡ true
      → receiving_buffer s q ≡ Some y.buffer
  opened-buffer s q y here is = ap (option_and_then (λ (z : Subscriber). cond z.is_open (Some z.buffer) None)) here
      ∙ ap (λ (b : Bool). cond b (Some y.buffer) None) is

  -- what one connection is, and what lies in it
  abbrev pub KeepsBox : (s s' : State T U) (p q : ℕ) → Type 0
  KeepsBox s s' p q = Connects s' p q × (s'.mailboxes p q ≡ s.mailboxes p q)

  module _ (environment : Environment) (s : State T U) (w : IsWellFormed s) (p q : ℕ) (c : Connects s p q) where
    pub is-open : (c.subscriber).is_open ≡ true
    is-open = (and_parts (c.subscriber).is_open _ c.receives).0

    -- a publisher updates its own
    own-updated : (x : Publisher) → s.publishers p ≡ Some x → (side : SenderSide) (failure : Option ConnectionFailure)
        → ForEachPlace (UpdateSenderPlace environment (s.config).service_id p x.degradation_handler (history_for s p x)
        (receiving_buffer s) (has_receiver_end s p)) 0 s.subscriber_places (sender_side s p x) side failure
        → KeepsBox s (with_sender_side s p x side) p q
    own-updated x present side failure walk = (
      record {
        publisher = record x { ends = side.ends; is_due = false };
        stands = put_at-same s.publishers p _;
        sends = (place, there.at);
        subscriber = c.subscriber;
        there = c.there;
        receives = c.receives;
        takes = c.takes;
      },
      ap (λ (row : ℕ → Mailbox). row q) (put_at-same s.mailboxes p side.mailboxes) ∙ there.same,
    )
      where
        place : ℕ
        place = (c.subscriber).place

        same : c.publisher ≡ x
        same = same_Some c.publisher x (sym c.stands ∙ present)

        stands : (i : ℕ) → occupant x.ends i ≡ Some q → place ≡ i
        stands i e = (w.publishers p x present).ends_stand i q c.subscriber e c.there

        before : LeadsThere q place (s.mailboxes p q) (sender_side s p x)
        before = record {
          at =
              ap (occupant x.ends)
              (stands c.sends.0 (ap (λ (z : Publisher). occupant z.ends c.sends.0) (sym same) ∙ c.sends.1))
              ∙ ap (λ (z : Publisher). occupant z.ends c.sends.0) (sym same) ∙ c.sends.1;
          same = refl;
          alone = λ i e. sym (stands i e);
        }

        placed : subscriber_place s q ≡ Some place
        placed = ap (option_map {T = Subscriber} {U = ℕ} (λ y. y.place)) c.there

        there : LeadsThere q place (s.mailboxes p q) side
        there = walked q place (s.mailboxes p q) environment (s.config).service_id p x.degradation_handler
            (history_for s p x) (receiving_buffer s) (has_receiver_end s p) s.subscriber_places (c.subscriber).buffer
            (opened-buffer s q c.subscriber c.there is-open) ((w.subscriber_places).stands q place placed)
            (λ i e. same_Some i place (sym ((w.subscriber_places).known q i e) ∙ placed))
            (sender_side s p x) side failure before walk

    -- another publisher updates its own
    other-updated : (i : ℕ) (x : Publisher) (side : SenderSide) → eqb p i ≡ false
        → KeepsBox s (with_sender_side s i x side) p q
    other-updated i x side apart = (
      still-connects s (with_sender_side s i x side) p q c (put_at-other s.publishers i _ p apart) refl c.takes,
      ap (λ (row : ℕ → Mailbox). row q) (put_at-other s.mailboxes i side.mailboxes p apart),
    )

    pub update-publisher-connected : (i : ℕ) (s' : State T U) (failure : Option ConnectionFailure)
        → UpdatePublisher environment s i s' failure → KeepsBox s s' p q
    update-publisher-connected i s' failure h =
        by_option (KeepsBox s s' p q) (s.publishers i) _ _ h (λ _ v. absurd v) (λ x present h.
        by_bool (KeepsBox s s' p q) x.is_due _ _ h
        (λ _ h.
        let kept = at x present h.0 h.1 in
        subst (λ (t : State T U). KeepsBox s t p q) (sym h.2)
        (sender-reset-connects (with_sender_side s i x h.0) i p q kept.0, kept.1))
        (λ _ h. subst (λ (t : State T U). KeepsBox s t p q) (sym h.0) (c, refl)))
      where
        at : (x : Publisher) → s.publishers i ≡ Some x → (side : SenderSide)
            → ForEachPlace (UpdateSenderPlace environment (s.config).service_id i x.degradation_handler
            (history_for s i x) (receiving_buffer s) (has_receiver_end s i)) 0 s.subscriber_places
            (sender_side s i x) side failure
            → KeepsBox s (with_sender_side s i x side) p q
        at x present side walk = elim (cases_eq p i) [
          | inl here ↦
              subst (λ k. (x : Publisher) → s.publishers k ≡ Some x → (side : SenderSide)
              → ForEachPlace (UpdateSenderPlace environment (s.config).service_id k x.degradation_handler
              (history_for s k x) (receiving_buffer s) (has_receiver_end s k)) 0 s.subscriber_places
              (sender_side s k x) side failure
              → KeepsBox s (with_sender_side s k x side) p q) here
              (λ x present side walk. own-updated x present side failure walk) x present side walk
          | inr away ↦ other-updated i x side (ne_eqb p i away)
        ]

-- ---- a delivery

module _ (environment : Environment) (c : ServiceConfig) (p : ℕ) (strategy : BackpressureStrategy)
    (handler : Option (Handler BackpressureAction)) (buffers : ℕ → Option ℕ) (n q : ℕ) where
  -- a subscriber to which none of the ends leads keeps its mailbox
  pub deliver-misses : (retries : ℕ) (elapsed : Duration) (place : ℕ) (ends : List (Option ℕ)) (count : ℕ)
      (has_failed : Bool) (boxes : ℕ → Mailbox) (how : DeliveryEnd) (boxes' : ℕ → Mailbox)
      → contains (occupants ends) q ≡ false → Deliver environment c p strategy handler buffers n 0 retries elapsed place
      ends count has_failed boxes how boxes' → boxes' q ≡ boxes q
  deliver-misses retries elapsed place [] count has_failed boxes how boxes' absent h = ap (λ (f : ℕ → Mailbox). f q) h.1
  deliver-misses retries elapsed place (None ∷ rest) count has_failed boxes how boxes' absent h =
      by_bool (boxes' q ≡ boxes q) (is_blocking h.0) _ _ h.3
      (λ _ k. ap (λ (f : ℕ → Mailbox). f q) (k.1 ∙ (h.2).1))
      (λ _ k. deliver-misses 0 no_time (place + 1) rest (count + accepted_count h.0)
      (has_failed || is_failed h.0) h.1 how boxes' absent k ∙ ap (λ (f : ℕ → Mailbox). f q) (h.2).1)
  deliver-misses retries elapsed place (Some r ∷ rest) count has_failed boxes how boxes' absent h =
      let parts = or_parts (eqb r q) (contains (occupants rest) q) absent in
      let first : h.1 q ≡ boxes q =
      ap (λ (f : ℕ → Mailbox). f q) (h.2).2
      ∙ put_at-other boxes r (h.2).0 q (ne_eqb q r (λ same. true≢false (sym (eq-eqb r q (sym same)) ∙ parts.0))) in
      by_bool (boxes' q ≡ boxes q) (is_blocking h.0) _ _ h.3
      (λ _ k. ap (λ (f : ℕ → Mailbox). f q) k.1 ∙ first)
      (λ _ k. deliver-misses 0 no_time (place + 1) rest (count + accepted_count h.0)
      (has_failed || is_failed h.0) h.1 how boxes' parts.1 k ∙ first)

  -- The mailbox of an open subscriber with that buffer, once the message was put there or went past.
  abbrev pub served : (buffer : ℕ) → Mailbox → Mailbox
  served buffer box = cond (has_room 0 buffer box || c.enable_safe_overflow) (with_appended 0 buffer n box) box

  pub put-serves : (retries : ℕ) (elapsed : Duration) (buffer : ℕ) (box : Mailbox) (result : PutResult) (box' : Mailbox)
      → Put environment c p strategy handler buffers n 0 q retries elapsed (Some buffer) box result box'
      → box' ≡ served buffer box
  put-serves retries elapsed buffer box result box' h =
      by_bool (box' ≡ served buffer box) (has_room 0 buffer box || c.enable_safe_overflow) _ _ h
      (λ yes k. k.1 ∙ sym (ap (λ (b : Bool). cond b (with_appended 0 buffer n box) box) yes))
      (λ no k. k.1 ∙ sym (ap (λ (b : Bool). cond b (with_appended 0 buffer n box) box) no))

  -- one to which an end leads is served by a delivery that reached all
  pub deliver-serves : (retries : ℕ) (elapsed : Duration) (place : ℕ) (ends : List (Option ℕ)) (count : ℕ)
      (has_failed : Bool) (boxes : ℕ → Mailbox) (all : ℕ) (some_failed : Bool) (boxes' : ℕ → Mailbox) (buffer : ℕ)
      → buffers q ≡ Some buffer → contains (occupants ends) q ≡ true → IsOnce (occupants ends)
      → Deliver environment c p strategy handler buffers n 0 retries elapsed place ends count has_failed boxes
      (Complete all some_failed) boxes' → boxes' q ≡ served buffer (boxes q)
  deliver-serves retries elapsed place [] count has_failed boxes all some_failed boxes' buffer opened at once h =
      absurd (true≢false (sym at))
  deliver-serves retries elapsed place
      (None ∷ rest) count has_failed boxes all some_failed boxes' buffer opened at once h =
      by_bool (boxes' q ≡ served buffer (boxes q)) (is_blocking h.0) _ _ h.3
      (λ _ k. let clash : Complete all some_failed ≡ Suspended _ = k.0 in absurd cc)
      (λ _ k. deliver-serves 0 no_time (place + 1) rest (count + accepted_count h.0)
      (has_failed || is_failed h.0) h.1 all some_failed boxes' buffer opened at once k
      ∙ ap (λ (f : ℕ → Mailbox). served buffer (f q)) (h.2).1)
  deliver-serves retries elapsed place
      (Some r ∷ rest) count has_failed boxes all some_failed boxes' buffer opened at once h =
      by_bool (boxes' q ≡ served buffer (boxes q)) (is_blocking h.0) _ _ h.3
      (λ _ k. let clash : Complete all some_failed ≡ Suspended _ = k.0 in absurd cc)
      (λ _ k. elim (cases_eq r q) [
        | inl here ↦
            let put : Put environment c p strategy handler buffers n 0 q retries elapsed (buffers q) (boxes q) h.0
            (h.2).0 =
            subst (λ i. Put environment c p strategy handler buffers n 0 i retries elapsed (buffers i) (boxes i) h.0
            (h.2).0) here ((h.2).1) in
            deliver-misses 0 no_time (place + 1) rest (count + accepted_count h.0) (has_failed || is_failed h.0) h.1
            (Complete all some_failed) boxes'
            (subst (λ i. contains (occupants rest) i ≡ false) here once.0) k
            ∙ ap (λ (f : ℕ → Mailbox). f q) ((h.2).2 ∙ ap (λ i. put_at boxes i (h.2).0) here)
            ∙ put_at-same boxes q (h.2).0
            ∙ put-serves retries elapsed buffer (boxes q) h.0 (h.2).0
            (subst (λ (o : Option ℕ).
            Put environment c p strategy handler buffers n 0 q retries elapsed o (boxes q) h.0 (h.2).0) opened put)
        | inr away ↦
            deliver-serves 0 no_time (place + 1) rest (count + accepted_count h.0)
            (has_failed || is_failed h.0) h.1 all some_failed boxes' buffer opened
            (⊎_elim (λ same. absurd (away same)) (λ later. later) (contains_in_cons r q (occupants rest) at)) once.1 k
            ∙ ap (served buffer) (ap (λ (f : ℕ → Mailbox). f q) (h.2).2
            ∙ put_at-other boxes r (h.2).0 q (ne_eqb q r (λ same. away (sym same))))
      ])
