-- A subscriber that is made awaits each publisher that is there, where no connection was refused memory meanwhile, and
-- the publisher's next update connects the two.
use Rattle.std.proofs.Common.{◌≡◌, ℕ, ◌≤◌, ◌<◌, Bool, true, false, cond, List, ◌++◌, ◌+◌, min, length, refl, sym, ap}
use Rattle.std.proofs.Common.{subst, ◌∙◌, arith, eqb, Option, None, Some, inl, inr, ⊎_elim}
use Rattle.std.specs.Prelude.{◌≢◌, nat_lt}
use Rattle.std.specs.Option.{option_map}
use Rattle.std.proofs.lemmas.Bool.{true≢false, ne_eqb, eqb-true, eq-eqb}
use Rattle.std.proofs.lemmas.Option.{none-some, same_Some}
use Rattle.iox2_machine.specs.machine.Channel.{Channel, is_closed}
use Rattle.iox2_machine.specs.machine.Limits.{refusal_limit, expired_limit}
use Rattle.iox2_machine.specs.machine.Numbers.{contains}
use Rattle.iox2_machine.specs.machine.Places.{occupant, occupants}
use Rattle.iox2_machine.specs.machine.Records.{Publisher, Subscriber, Handler, Environment, SubscriberSettings}
use Rattle.iox2_machine.specs.machine.State.{State, Warnings, has_sender_end, with_warning, receiver_channels_reset}
use Rattle.iox2_machine.specs.machine.Ports.{FirstSubscriberUpdate, CreateSubscriber, with_new_subscriber}
use Rattle.iox2_machine.specs.machine.Ports.{with_buffer_warning, new_subscriber, with_failure_warning}
use Rattle.iox2_machine.specs.machine.PublisherUpdate.{UpdatePublisher, with_sender_side}
use Rattle.iox2_machine.specs.machine.SubscriberUpdate.{ReceiverSide, Retirement, Keep_expired, Evict, Discard_data}
use Rattle.iox2_machine.specs.machine.SubscriberUpdate.{Refuse, retirement_of, is_refused, after_retirement, with_end}
use Rattle.iox2_machine.specs.machine.SubscriberUpdate.{ConnectReceiver, Retire, ConnectAtPlace, DisconnectAtPlace}
use Rattle.iox2_machine.specs.machine.SubscriberUpdate.{UpdateReceiverSide, receiver_side, with_receiver_side}
use Rattle.iox2_machine.specs.machine.WellFormed.{IsWellFormed}
use Rattle.iox2_machine.specs.declared.degradation.DegradationAction.{DegradationAction}
use Rattle.iox2_machine.specs.declared.errors.ConnectionFailure.{ConnectionFailure}
use Rattle.iox2_machine.specs.declared.warning.Warning.TheVariants.{ExpiredBufferRaised, SubscriberPartlyConnected}
use Rattle.iox2_laws.proofs.Cases.{by_option, by_bool}
use Rattle.iox2_laws.proofs.CallCases.{subscriber_cases}
use Rattle.iox2_laws.proofs.NumberLemmas.{contains_right}
use Rattle.iox2_laws.proofs.PlaceLemmas.{occupant-set_place, occupied_within, contains-occupants}
use Rattle.iox2_laws.proofs.Puts.{put_at-same, put_at-other}
use Rattle.iox2_laws.proofs.UpToDate.{update_publisher_subscribers}
use Rattle.iox2_pubsub.specs.ConnectedPorts.{Awaits, Connects}
use Rattle.iox2_pubsub.proofs.OpenChannels.{receiver-reset-takes, sender-reset-takes}
use Rattle.iox2_pubsub.proofs.ConnectionsMade.{refusal-counts, refusal-grows, refusal-is-new, update-publisher-connects}
use Rattle.iox2_pubsub.proofs.ConnectionsStay.{Knows, connect-keeps, disconnect-keeps, refused-due, receives-by}
use Rattle.iox2_pubsub.proofs.ConnectionsStay.{walk-reaches, walk-stays}

-- how many connections were refused memory so far
abbrev refused : ReceiverSide → ℕ
refused side = (side.warnings).refused_connections

-- a retirement asks for no memory
retired-refused : (q : ℕ) (side : ReceiverSide) (old : ℕ) (how : Retirement)
    → refused (after_retirement q side old how) ≡ refused side
retired-refused q side old Keep_expired = refl
retired-refused q side old (Evict first) = refl
retired-refused q side old Discard_data = refl
retired-refused q side old Refuse = refl

module _ (environment : Environment) (service_id q : ℕ) (handler : Handler DegradationAction) (limit : ℕ)
    (has_end : ℕ → Bool) (p place first : ℕ) (low : first < refusal_limit) where
  -- No fewer were refused than at first.
  abbrev Counts : ReceiverSide → Type 0
  Counts side = (first ≤ refused side) × (refused side ≤ refusal_limit)

  -- And where none was, the end to p stands at the place, or the subscriber is due again.
  abbrev Reaches : ReceiverSide → Type 0
  Reaches side =
      Counts side × (refused side ≡ first → Knows environment service_id q handler limit has_end p place side)

  -- The end to p stands at the place, or the subscriber is due again.
  abbrev Known : ReceiverSide → Type 0
  Known side = Knows environment service_id q handler limit has_end p place side

  -- as many were refused, or more
  abbrev Grows : (side side' : ReceiverSide) → Type 0
  Grows side side' = Counts side' × (refused side ≤ refused side')

  grows-as : (side side' : ReceiverSide) → refused side' ≡ refused side → Counts side → Grows side side'
  grows-as side side' same counts =
      let more : first ≤ refused side = counts.0 in
      let most : refused side ≤ refusal_limit = counts.1 in
      ((omega (arith, more, same), omega (arith, most, same)), omega (arith, same))

  connect-counts : (side : ReceiverSide) (j r : ℕ) (side' : ReceiverSide) (failure : Option ConnectionFailure)
      → Counts side
      → ConnectReceiver environment service_id q handler limit has_end side j r side' failure → Grows side side'
  connect-counts side j r side' failure counts h =
      ⊎_elim
      (λ made. grows-as side side' (ap refused made.0) counts)
      (λ no.
      let is : refused side' ≡ min (refused side + 1) refusal_limit =
      ap refused no.3 ∙ ap (λ (ws : Warnings). ws.refused_connections) ((no.2).3)
      ∙ refusal-counts r q (no.2).0 side.warnings in
      let grows = refusal-grows (refused side) (refused side') refusal_limit is counts.1 in
      let more : refused side ≤ refused side' = grows.0 in
      let before : first ≤ refused side = counts.0 in
      ((omega (arith, more, before), grows.1), more))
      h

  connect-here : (side side' : ReceiverSide) (failure : Option ConnectionFailure) → Counts side
      → ConnectReceiver environment service_id q handler limit has_end side place p side' failure
      → refused side' ≡ first
      → Knows environment service_id q handler limit has_end p place side'
  connect-here side side' failure counts h none =
      ⊎_elim
      (λ made. subst (Knows environment service_id q handler limit has_end p place) (sym made.0)
      (inr (occupant-set_place side.ends place (Some p) place
      ∙ ap (λ b. cond b (Some p) (occupant side.ends place)) (eq-eqb place place refl))))
      (λ no.
      let is : refused side' ≡ min (refused side + 1) refusal_limit =
      ap refused no.3 ∙ ap (λ (ws : Warnings). ws.refused_connections) ((no.2).3)
      ∙ refusal-counts p q (no.2).0 side.warnings in
      absurd (refusal-is-new (refused side) (refused side') first refusal_limit is counts.0 low none))
      h

  -- a place is gone over
  step-counts : (j : ℕ) (at : Option ℕ) (side side' : ReceiverSide) (failure : Option ConnectionFailure) → Counts side
      → ConnectAtPlace environment service_id q handler limit has_end j at side side' failure → Grows side side'
  step-counts j at side side' failure counts h =
      by_option (Grows side side') at _ _ h (λ _ k. grows-as side side' (ap refused k.0) counts) (λ r _ k.
      by_option (Grows side side') (occupant side.ends j) _ _ k (λ _ m. connect-counts side j r side' failure counts m)
      (λ old _ m.
      by_bool (Grows side side') (eqb old r) _ _ m (λ _ l. grows-as side side' (ap refused l.0) counts)
      (λ _ l. retires old r l)))
    where
      retires : (old r : ℕ) → Retire environment service_id q handler limit has_end side j old side' failure
          (λ mid. ConnectReceiver environment service_id q handler limit has_end mid j r side' failure)
          → Grows side side'
      retires old r h =
          let how : Retirement = retirement_of limit side.mailboxes side.expired old in
          by_bool (Grows side side') (is_refused how) _ _ h
          (λ _ k. grows-as side side' (ap refused k.0 ∙ retired-refused q side old how) counts)
          (λ _ k.
          let mid : ReceiverSide = with_end (after_retirement q side old how) j None in
          let same : refused mid ≡ refused side = retired-refused q side old how in
          let first_step : Grows side mid = grows-as side mid same counts in
          let then : Grows mid side' = connect-counts mid j r side' failure first_step.0 k in
          let more : refused mid ≤ refused side' = then.1 in
          (then.0, omega (arith, more, same)))

  step-keeps : (j : ℕ) (at : Option ℕ) (side side' : ReceiverSide) (failure : Option ConnectionFailure) → j ≢ place
      → Reaches side
      → ConnectAtPlace environment service_id q handler limit has_end j at side side' failure → Reaches side'
  step-keeps j at side side' failure away is h =
      let grows = step-counts j at side side' failure is.0 h in (
        grows.0,
        λ none.
            let more : refused side ≤ refused side' = grows.1 in
            let least : first ≤ refused side = (is.0).0 in
            let quiet : refused side ≡ first = omega (arith, more, least, none) in
            connect-keeps environment service_id q handler limit has_end p place j at side side' failure away
            (is.1 quiet) h,
      )

  step-here : (side side' : ReceiverSide) (failure : Option ConnectionFailure) → Counts side
      → ConnectAtPlace environment service_id q handler limit has_end place (Some p) side side' failure → Reaches side'
  step-here side side' failure counts h = (
    (step-counts place (Some p) side side' failure counts h).0,
    λ none.
        by_option (Known side') (occupant side.ends place) _ _ h (λ _ m. connect-here side side' failure counts m none)
        (λ old is m.
        by_bool (Known side') (eqb old p) _ _ m
        (λ same l. subst Known (sym l.0) (inr (is ∙ ap (λ k. Some k) (eqb-true old p same))))
        (λ _ l.
        let how : Retirement = retirement_of limit side.mailboxes side.expired old in
        by_bool (Known side') (is_refused how) _ _ l
        (λ gone k. subst Known (sym k.0)
        (refused-due environment service_id q handler limit has_end p place side old how gone))
        (λ _ k.
        let mid : ReceiverSide = with_end (after_retirement q side old how) place None in
        connect-here mid side' failure (grows-as side mid (retired-refused q side old how) counts).0 k none))),
  )

  left-counts : (j : ℕ) (at : Option ℕ) (side side' : ReceiverSide) (failure : Option ConnectionFailure)
      → DisconnectAtPlace environment service_id q handler limit has_end j at side side' failure
      → refused side' ≡ refused side
  left-counts j at side side' failure h =
      by_option (refused side' ≡ refused side) at _ _ h
      (λ _ k. by_option (refused side' ≡ refused side) (occupant side.ends j) _ _ k (λ _ m. ap refused m.0) (λ old _ m.
      let how : Retirement = retirement_of limit side.mailboxes side.expired old in
      by_bool (refused side' ≡ refused side) (is_refused how) _ _ m
      (λ _ l. ap refused l.0 ∙ retired-refused q side old how)
      (λ _ l. ap refused l.0 ∙ retired-refused q side old how)))
      (λ _ _ k. ap refused k.0)

  update-reaches : (places : List (Option ℕ)) (side side' : ReceiverSide) (failure : Option ConnectionFailure)
      → place < length places → occupant places place ≡ Some p → Counts side
      → UpdateReceiverSide environment service_id q handler limit has_end places side side' failure → Reaches side'
  update-reaches places side side' failure within stands counts h =
      walk-stays (DisconnectAtPlace environment service_id q handler limit has_end) Reaches 0 places
      (λ i j e _ a b f is k.
      let same : j ≡ i = omega arith in
      let count : refused b ≡ refused a = left-counts j (occupant places i) a b f k in (
        (grows-as a b count is.0).0,
        λ none. disconnect-keeps environment service_id q handler limit has_end p place j (occupant places i) a b f
            (λ here. ap (occupant places) (sym same ∙ here) ∙ stands) (is.1 (sym count ∙ none)) k,
      ))
      h.0 side' h.2
      (walk-reaches (ConnectAtPlace environment service_id q handler limit has_end) Reaches Counts 0 places place place
      (omega arith) within
      (λ j at a b f _ is k. (step-counts j at a b f is k).0) step-keeps
      (λ a b f is k. step-here a b f is
      (subst (λ o. ConnectAtPlace environment service_id q handler limit has_end place o a b f) stands k)) side h.0 h.1
      counts h.3)
      h.4

module _ {T U : Type 0} where
  warned-refusals : (t : State T U) (q : ℕ) (failure : Option ConnectionFailure)
      → ((with_failure_warning t (SubscriberPartlyConnected q) failure).warnings).refused_connections
      ≡ (t.warnings).refused_connections
  warned-refusals t q None = refl
  warned-refusals t q (Some failure) = refl

  warned-publishers : (t : State T U) (q : ℕ) (failure : Option ConnectionFailure)
      → (with_failure_warning t (SubscriberPartlyConnected q) failure).publishers ≡ t.publishers
  warned-publishers t q None = refl
  warned-publishers t q (Some failure) = refl

  warned-subscribers : (t : State T U) (q : ℕ) (failure : Option ConnectionFailure)
      → (with_failure_warning t (SubscriberPartlyConnected q) failure).subscribers ≡ t.subscribers
  warned-subscribers t q None = refl
  warned-subscribers t q (Some failure) = refl

  warned-channels : (t : State T U) (q : ℕ) (failure : Option ConnectionFailure)
      → (with_failure_warning t (SubscriberPartlyConnected q) failure).channels ≡ t.channels
  warned-channels t q None = refl
  warned-channels t q (Some failure) = refl

  raised-refusals : (s : State T U) (q : ℕ)
      → ((with_buffer_warning s q).warnings).refused_connections ≡ (s.warnings).refused_connections
  raised-refusals s q =
      by (nat_lt (s.config).subscriber_expired_connection_buffer (s.config).subscriber_max_borrowed_samples) where
        by : (b : Bool) → (cond b ((with_warning s (ExpiredBufferRaised q)).warnings) s.warnings).refused_connections
            ≡ (s.warnings).refused_connections
        by true = refl
        by false = refl

  module _ (environment : Environment) (s : State T U) (w : IsWellFormed s) (given : SubscriberSettings) where
    pub create-subscriber-awaits : (s' : State T U) → CreateSubscriber environment s given s' None
        → (s.warnings).refused_connections < refusal_limit
        → (s'.warnings).refused_connections ≡ (s.warnings).refused_connections → (p : ℕ) (x : Publisher)
        → s.publishers p ≡ Some x → is_closed (s.channels p s.next_port 0) ≡ false → Awaits s' p s.next_port
    create-subscriber-awaits s' h low none p x present takes =
        subscriber_cases environment s given s' R None h (λ e _ some. absurd (none-some e some))
        (λ place makes. made place makes.3)
      where
        q : ℕ
        q = s.next_port

        R : Type 0
        R = Awaits s' p q

        stands : occupant s.publisher_places x.place ≡ Some p
        stands = (w.publisher_places).stands p x.place (ap (option_map {T = Publisher} {U = ℕ} (λ z. z.place)) present)

        new : (place : ℕ) → State T U
        new place = with_new_subscriber s given place

        updated : (place : ℕ) (mid : State T U) (side : ReceiverSide) (failure : Option ConnectionFailure)
            → UpdateReceiverSide environment ((new place).config).service_id q
            (new_subscriber given place).degradation_handler (expired_limit (new place).config)
            (λ i. has_sender_end (new place) i q)
            (new place).publisher_places (receiver_side (new place) q (new_subscriber given place)) side failure
            → mid ≡ receiver_channels_reset (with_receiver_side (new place) q (new_subscriber given place) side) q
            → s' ≡ with_failure_warning mid (SubscriberPartlyConnected q) failure → R
        updated place mid side failure walk is is' =
            let most : (s.warnings).refused_connections ≤ refusal_limit = omega (arith, low) in
            let same : ((new place).warnings).refused_connections ≡ (s.warnings).refused_connections =
            raised-refusals s q in
            let quiet : (side.warnings).refused_connections ≡ (s.warnings).refused_connections =
            sym (ap (λ (t : State T U). (t.warnings).refused_connections) is) ∙ sym (warned-refusals mid q failure)
            ∙ sym (ap (λ (t : State T U). (t.warnings).refused_connections) is') ∙ none in
            let reaches =
            update-reaches environment ((new place).config).service_id q
            (new_subscriber given place).degradation_handler (expired_limit (new place).config)
            (λ i. has_sender_end (new place) i q) p x.place
            (s.warnings).refused_connections low (new place).publisher_places
            (receiver_side (new place) q (new_subscriber given place)) side failure
            (occupied_within s.publisher_places x.place p stands) stands
            (omega (arith, same), omega (arith, same, most)) walk in
            record {
              publisher = record x { is_due = true };
              stands = ap (λ (t : State T U). t.publishers p) is' ∙ ap (λ (f : ℕ → Option Publisher). f p)
                  (warned-publishers mid q failure) ∙ ap (λ (t : State T U). t.publishers p) is
                  ∙ ap (option_map {T = Publisher} {U = Publisher} (λ z. record z { is_due = true })) present;
              due = refl;
              subscriber = record (new_subscriber given place)
                  { ends = side.ends; expired = side.expired; is_due = side.is_due };
              there = ap (λ (t : State T U). t.subscribers q) is' ∙ ap (λ (f : ℕ → Option Subscriber). f q)
                  (warned-subscribers mid q failure) ∙ ap (λ (t : State T U). t.subscribers q) is
                  ∙ put_at-same (new place).subscribers q _;
              receives = receives-by true side.is_due (contains (side.expired ++ occupants side.ends) p) refl
                  (⊎_elim (λ due. inl due)
                  (λ end. inr (contains_right side.expired (occupants side.ends) p
                  (contains-occupants side.ends p (x.place, end)))) (reaches.1 quiet));
              takes = ap (λ (t : State T U). is_closed (t.channels p q 0)) is'
                  ∙ ap (λ (f : ℕ → ℕ → ℕ → Channel). is_closed (f p q 0)) (warned-channels mid q failure)
                  ∙ ap (λ (t : State T U). is_closed (t.channels p q 0)) is
                  ∙ receiver-reset-takes
                  (with_receiver_side (new place) q (new_subscriber given place) side) q p q takes;
            }

        made : (place : ℕ) → FirstSubscriberUpdate environment (with_new_subscriber s given place) s.next_port s' → R
        made place h =
            by_option R ((new place).subscribers q) _ _ h.2
            (λ gone _. absurd (none-some _ (sym gone ∙ put_at-same s.subscribers q _))) (λ y at k.
            let same : new_subscriber given place ≡ y =
            same_Some (new_subscriber given place) y (sym (put_at-same s.subscribers q _) ∙ at) in
            by_bool R y.is_due _ _ k
            (λ _ m. updated place h.0 m.0 h.1
            (subst (λ (z : Subscriber). UpdateReceiverSide environment ((new place).config).service_id q
            z.degradation_handler (expired_limit (new place).config) (λ i. has_sender_end (new place) i q)
            (new place).publisher_places
            (receiver_side (new place) q z) m.0 h.1) (sym same) m.1)
            (subst (λ (z : Subscriber). h.0 ≡ receiver_channels_reset (with_receiver_side (new place) q z m.0) q)
            (sym same) m.2) h.3)
            (λ undue m. absurd (true≢false (ap (λ (z : Subscriber). z.is_due) same ∙ undue))))

  -- the publisher's update connects it with whom it awaits
  pub awaited-connects : (environment : Environment) (s : State T U) (p : ℕ) (s' : State T U)
      (failure : Option ConnectionFailure) → IsWellFormed s → UpdatePublisher environment s p s' failure
      → (s.warnings).refused_connections < refusal_limit
      → (s'.warnings).refused_connections ≡ (s.warnings).refused_connections → (q : ℕ) → Awaits s p q → Connects s' p q
  awaited-connects environment s p s' failure w h low none q a =
      update-publisher-connects environment s p s' failure w a.publisher a.stands a.due h q a.subscriber a.there
      a.receives a.takes low none

  -- and leaves what others await
  pub others-await : (environment : Environment) (s : State T U) (p : ℕ) (s' : State T U)
      (failure : Option ConnectionFailure) → UpdatePublisher environment s p s' failure
      → (i q : ℕ) → i ≢ p → Awaits s i q → Awaits s' i q
  others-await environment s p s' failure h i q away a = record {
    publisher = a.publisher;
    stands = others ∙ a.stands;
    due = a.due;
    subscriber = a.subscriber;
    there =
        ap (λ (f : ℕ → Option Subscriber). f q) (update_publisher_subscribers environment s p s' failure h) ∙ a.there;
    receives = a.receives;
    takes = takes;
  }
    where
      others : s'.publishers i ≡ s.publishers i
      others =
          by_option (s'.publishers i ≡ s.publishers i) (s.publishers p) _ _ h (λ _ v. absurd v) (λ x _ k.
          by_bool (s'.publishers i ≡ s.publishers i) x.is_due _ _ k
          (λ _ j. ap (λ (t : State T U). t.publishers i) j.2 ∙ put_at-other s.publishers p _ i (ne_eqb i p away))
          (λ _ j. ap (λ (t : State T U). t.publishers i) j.0))

      takes : is_closed (s'.channels i q 0) ≡ false
      takes =
          by_option (is_closed (s'.channels i q 0) ≡ false) (s.publishers p) _ _ h (λ _ v. absurd v) (λ x _ k.
          by_bool (is_closed (s'.channels i q 0) ≡ false) x.is_due _ _ k
          (λ _ j. ap (λ (t : State T U). is_closed (t.channels i q 0)) j.2
          ∙ sender-reset-takes (with_sender_side s p x j.0) p i q a.takes)
          (λ _ j. ap (λ (t : State T U). is_closed (t.channels i q 0)) j.0 ∙ a.takes))
