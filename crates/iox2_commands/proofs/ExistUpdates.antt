-- Updates, deliveries and takes always come to something, where memory is ample and handlers are fixed.
use Rattle.std.proofs.Common.{◌≡◌, inl, ℕ, ◌+◌, Bool, true, false, List, [], ◌∷◌, refl, sym, Option, None, Some, eqb}
use Rattle.std.specs.Prelude.{MatchOption, ◌||◌}
use Rattle.std.specs.Bool.{MatchBool}
use Rattle.std.specs.declared.time.Duration.{Duration}
use Rattle.std.proofs.lemmas.Bool.{true≢false}
use Rattle.iox2_machine.specs.machine.Limits.{expired_limit}
use Rattle.iox2_machine.specs.machine.Numbers.{put_at}
use Rattle.iox2_machine.specs.machine.Places.{occupant}
use Rattle.iox2_machine.specs.machine.Mailbox.{Mailbox, has_room, with_appended}
use Rattle.iox2_machine.specs.machine.Records.{Publisher, Subscriber, Handler, Fixed, Custom}
use Rattle.iox2_machine.specs.machine.State.{State, receiving_buffer, has_receiver_end, has_sender_end}
use Rattle.iox2_machine.specs.machine.State.{sender_channels_reset, receiver_channels_reset}
use Rattle.iox2_machine.specs.machine.Connections.{ForEachPlace, first_failure, expired_buffer_full}
use Rattle.iox2_machine.specs.machine.Delivery.{PutResult, Accepted, Skipped, Failed, Would_block, DeliveryEnd}
use Rattle.iox2_machine.specs.machine.Delivery.{Complete, by_strategy, by_action, Decides, no_time, info_of, Put}
use Rattle.iox2_machine.specs.machine.Delivery.{PutAtEnd, Deliver}
use Rattle.iox2_machine.specs.machine.PublisherUpdate.{SenderSide, SenderAction, Keep_end, Drop_waiting, Disconnect}
use Rattle.iox2_machine.specs.machine.PublisherUpdate.{Connect, sender_action, dropped, disconnected, connected}
use Rattle.iox2_machine.specs.machine.PublisherUpdate.{Performs, UpdateSenderPlace, sender_side, with_sender_side}
use Rattle.iox2_machine.specs.machine.PublisherUpdate.{history_for, UpdatePublisher}
use Rattle.iox2_machine.specs.machine.SubscriberUpdate.{ReceiverSide, retirement_of, is_refused, after_retirement}
use Rattle.iox2_machine.specs.machine.SubscriberUpdate.{with_end, ConnectReceiver, Retire, ConnectAtPlace}
use Rattle.iox2_machine.specs.machine.SubscriberUpdate.{DisconnectAtPlace, UpdateReceiverSide, receiver_side}
use Rattle.iox2_machine.specs.machine.SubscriberUpdate.{with_receiver_side, UpdateSubscriber}
use Rattle.iox2_machine.specs.declared.service_config.ServiceConfig.{ServiceConfig}
use Rattle.iox2_machine.specs.declared.backpressure.BackpressureStrategy.{BackpressureStrategy}
use Rattle.iox2_machine.specs.declared.backpressure.BackpressureAction.{BackpressureAction}
use Rattle.iox2_machine.specs.declared.backpressure.BackpressureInfo.{BackpressureInfo}
use Rattle.iox2_machine.specs.declared.errors.ConnectionFailure.{ConnectionFailure}
use Rattle.iox2_machine.specs.machine.Environments.{ample_memory}
use Rattle.iox2_laws.proofs.Cases.{match_some}

-- A result of a relation between two, of which something holds.
abbrev pub ComesWith : (S R : Type 0) → (S → R → Type 0) → (S → R → Type 0) → Type 0
ComesWith S R Rel Good = (s : S) × (r : R) × Rel s r × Good s r

-- nothing more is asked of it
abbrev pub anything : (S R : Type 0) → S → R → Type 0
anything S R s r = Unit {0}

-- by cases of an option
pub comes_option : {A : Type 0} (S R : Type 0) (G : S → R → Type 0) (o : Option A) (P : S → R → Type 0)
    (Q : A → S → R → Type 0)
    → (o ≡ None → ComesWith S R P G) → ((a : A) → o ≡ Some a → ComesWith S R (Q a) G)
    → ComesWith S R (λ s r. MatchOption o (P s r) (λ a. Q a s r)) G
comes_option S R G None P Q none some = none refl
comes_option S R G (Some a) P Q none some = some a refl

-- by cases of a test
pub comes_bool : (S R : Type 0) (G : S → R → Type 0) (b : Bool) (P Q : S → R → Type 0)
    → (b ≡ true → ComesWith S R P G) → (b ≡ false → ComesWith S R Q G)
    → ComesWith S R (λ s r. MatchBool b (P s r) (Q s r)) G
comes_bool S R G true P Q at_true at_false = at_true refl
comes_bool S R G false P Q at_true at_false = at_false refl

-- ---- fixed handlers

-- The handler isn't a box.
abbrev pub is_fixed : Option (Handler BackpressureAction) → Bool
is_fixed None = true
is_fixed (Some (Fixed action)) = true
is_fixed (Some Custom) = false

-- each publisher's handler is fixed
abbrev pub AllFixed : (ℕ → Option Publisher) → Type 0
AllFixed publishers = (p : ℕ) (x : Publisher) → publishers p ≡ Some x → is_fixed x.backpressure_handler ≡ true

-- ---- deliveries

module _ (c : ServiceConfig) (p : ℕ) (strategy : BackpressureStrategy) (handler : Option (Handler BackpressureAction))
    (fixed : is_fixed handler ≡ true) (buffers : ℕ → Option ℕ) (n : ℕ) where
  decides : (info : BackpressureInfo) → (result : PutResult) × Decides ample_memory p handler strategy info result
  decides info = at handler fixed
    where
      at : (h : Option (Handler BackpressureAction)) → is_fixed h ≡ true
          → (result : PutResult) × Decides ample_memory p h strategy info result
      at None f = (by_strategy strategy, refl)
      at (Some (Fixed action)) f = (by_action strategy action, refl)
      at (Some Custom) f = absurd (true≢false (sym f))

  put_comes : (channel q retries : ℕ) (elapsed : Duration) (buffer : Option ℕ) (box : Mailbox)
      → ComesWith PutResult Mailbox (Put ample_memory c p strategy handler buffers n channel q retries elapsed buffer
      box) (anything PutResult Mailbox)
  put_comes channel q retries elapsed None box = (Skipped, box, (refl, refl), tt)
  put_comes channel q retries elapsed (Some buffer) box =
      comes_bool PutResult Mailbox (anything PutResult Mailbox)
      (has_room channel buffer box || c.enable_safe_overflow) _ _
      (λ _. (Accepted, with_appended channel buffer n box, (refl, refl), tt))
      (λ _. let d : (result : PutResult) × Decides ample_memory p handler strategy
      (info_of ample_memory c p strategy handler buffers n q retries elapsed) result =
      decides (info_of ample_memory c p strategy handler buffers n q retries elapsed) in
      (d.0, box, (d.1, refl), tt))

  put_at_end_comes : (channel retries : ℕ) (elapsed : Duration) (end : Option ℕ) (boxes : ℕ → Mailbox)
      → ComesWith PutResult (ℕ → Mailbox)
      (PutAtEnd ample_memory c p strategy handler buffers n channel retries elapsed end boxes)
      (anything PutResult (ℕ → Mailbox))
  put_at_end_comes channel retries elapsed None boxes = (Skipped, boxes, (refl, refl), tt)
  put_at_end_comes channel retries elapsed (Some q) boxes =
      let put : ComesWith PutResult Mailbox (Put ample_memory c p strategy handler buffers n channel q retries elapsed
      (buffers q) (boxes q)) (anything PutResult Mailbox) =
      put_comes channel q retries elapsed (buffers q) (boxes q) in
      (put.0, put_at boxes q put.1, (put.1, put.2, refl), tt)

  -- A delivery comes to its end.
  pub deliver_comes : (channel retries : ℕ) (elapsed : Duration) (place : ℕ) (ends : List (Option ℕ)) (count : ℕ)
      (has_failed : Bool) (boxes : ℕ → Mailbox)
      → ComesWith DeliveryEnd (ℕ → Mailbox)
      (Deliver ample_memory c p strategy handler buffers n channel retries elapsed place ends count has_failed boxes)
      (anything DeliveryEnd (ℕ → Mailbox))
  deliver_comes channel retries elapsed place [] count has_failed boxes =
      (Complete count has_failed, boxes, (refl, refl), tt)
  deliver_comes channel retries elapsed place (end ∷ rest) count has_failed boxes =
      let put : ComesWith PutResult (ℕ → Mailbox)
      (PutAtEnd ample_memory c p strategy handler buffers n channel retries elapsed end boxes)
      (anything PutResult (ℕ → Mailbox)) =
      put_at_end_comes channel retries elapsed end boxes in
      go (λ count' has_failed' mid. deliver_comes channel 0 no_time (place + 1) rest count' has_failed' mid) put.0 put.1
      put.2
    where
      go : ((count' : ℕ) (has_failed' : Bool) (mid : ℕ → Mailbox)
          → ComesWith DeliveryEnd (ℕ → Mailbox) (Deliver ample_memory c p strategy handler buffers n channel 0 no_time
          (place + 1) rest count' has_failed' mid) (anything DeliveryEnd (ℕ → Mailbox)))
          → (result : PutResult) (mid : ℕ → Mailbox)
          → PutAtEnd ample_memory c p strategy handler buffers n channel retries elapsed end boxes result mid
          → ComesWith DeliveryEnd (ℕ → Mailbox)
          (Deliver ample_memory c p strategy handler buffers n channel retries elapsed place
          (end ∷ rest) count has_failed boxes) (anything DeliveryEnd (ℕ → Mailbox))
      go more Would_block mid h = (_, mid, (Would_block, mid, h, (refl, refl)), tt)
      go more Accepted mid h =
          let later : ComesWith DeliveryEnd (ℕ → Mailbox)
          (Deliver ample_memory c p strategy handler buffers n channel 0 no_time (place + 1) rest (count + 1)
          (has_failed || false) mid) (anything DeliveryEnd (ℕ → Mailbox)) =
          more (count + 1) (has_failed || false) mid in
          (later.0, later.1, (Accepted, mid, h, later.2), tt)
      go more Skipped mid h =
          let later : ComesWith DeliveryEnd (ℕ → Mailbox)
          (Deliver ample_memory c p strategy handler buffers n channel 0 no_time (place + 1) rest (count + 0)
          (has_failed || false) mid) (anything DeliveryEnd (ℕ → Mailbox)) =
          more (count + 0) (has_failed || false) mid in
          (later.0, later.1, (Skipped, mid, h, later.2), tt)
      go more Failed mid h =
          let later : ComesWith DeliveryEnd (ℕ → Mailbox)
          (Deliver ample_memory c p strategy handler buffers n channel 0 no_time (place + 1) rest (count + 0)
          (has_failed || true) mid) (anything DeliveryEnd (ℕ → Mailbox)) = more (count + 0) (has_failed || true) mid in
          (later.0, later.1, (Failed, mid, h, later.2), tt)

-- ---- updates

-- what comes to something at each place comes to something at all of them
for_each_comes : {Side : Type 0}
    (AtPlace : (place : ℕ) → (at : Option ℕ) → Side → Side → Option ConnectionFailure → Type 0)
    → ((place : ℕ) (at : Option ℕ) (side : Side)
    → ComesWith Side (Option ConnectionFailure) (AtPlace place at side) (anything Side (Option ConnectionFailure)))
    → (place : ℕ) (places : List (Option ℕ)) (side : Side) → ComesWith Side (Option ConnectionFailure)
    (ForEachPlace AtPlace place places side) (anything Side (Option ConnectionFailure))
for_each_comes AtPlace each place [] side = (side, None, (refl, refl), tt)
for_each_comes {Side} AtPlace each place (at ∷ rest) side =
    let first : ComesWith Side (Option ConnectionFailure) (AtPlace place at side)
    (anything Side (Option ConnectionFailure)) = each place at side in
    let later : ComesWith Side (Option ConnectionFailure) (ForEachPlace AtPlace (place + 1) rest first.0)
    (anything Side (Option ConnectionFailure)) = for_each_comes AtPlace each (place + 1) rest first.0 in
    (later.0, first_failure first.1 later.1, (first.0, first.1, later.1, first.2, later.2, refl), tt)

module _ {T U : Type 0} where
  -- A publisher that is there can be updated.
  pub update_publisher_comes : (s : State T U) (p : ℕ) (x : Publisher) → s.publishers p ≡ Some x
      → (s' : State T U) × (failure : Option ConnectionFailure) × UpdatePublisher ample_memory s p s' failure
  update_publisher_comes s p x present =
      let v : ComesWith (State T U) (Option ConnectionFailure) Updates
      (anything (State T U) (Option ConnectionFailure)) =
      comes_bool (State T U) (Option ConnectionFailure) (anything (State T U) (Option ConnectionFailure)) x.is_due
      (λ s' failure. (side : SenderSide) × Walks side failure
      × (s' ≡ sender_channels_reset (with_sender_side s p x side) p)) (λ s' failure. (s' ≡ s) × (failure ≡ None))
      (λ _.
      let each : ComesWith SenderSide (Option ConnectionFailure) Walks
      (anything SenderSide (Option ConnectionFailure)) =
      for_each_comes AtPlace at_place 0 s.subscriber_places (sender_side s p x) in
      (sender_channels_reset (with_sender_side s p x each.0) p, each.1, (each.0, each.2, refl), tt))
      (λ _. (s, None, (refl, refl), tt)) in
      (v.0, v.1, match_some (s.publishers p) x ⊥ _ present v.2)
    where
      AtPlace : (place : ℕ) → (at : Option ℕ) → SenderSide → SenderSide → Option ConnectionFailure → Type 0
      AtPlace = UpdateSenderPlace ample_memory (s.config).service_id p x.degradation_handler (history_for s p x)
          (receiving_buffer s) (has_receiver_end s p)

      Walks : SenderSide → Option ConnectionFailure → Type 0
      Walks = ForEachPlace AtPlace 0 s.subscriber_places (sender_side s p x)

      Updates : State T U → Option ConnectionFailure → Type 0
      Updates s' failure = MatchBool x.is_due ((side : SenderSide) × Walks side failure
          × (s' ≡ sender_channels_reset (with_sender_side s p x side) p)) ((s' ≡ s) × (failure ≡ None))

      performs : (action : SenderAction) (place : ℕ) (side : SenderSide)
          → ComesWith SenderSide (Option ConnectionFailure)
          (Performs ample_memory (s.config).service_id p x.degradation_handler (history_for s p x) (receiving_buffer s)
          (has_receiver_end s p) action place side) (anything SenderSide (Option ConnectionFailure))
      performs Keep_end place side = (side, None, (refl, refl), tt)
      performs (Drop_waiting q) place side = (dropped side q, None, (refl, refl), tt)
      performs Disconnect place side = (disconnected side place (occupant side.ends place), None, (refl, refl), tt)
      performs (Connect q buffer) place side = (
        connected (history_for s p x q) (disconnected side place (occupant side.ends place)) place q buffer,
        None,
        inl (refl, refl),
        tt,
      )

      at_place : (place : ℕ) (at : Option ℕ) (side : SenderSide) → ComesWith SenderSide (Option ConnectionFailure)
          (AtPlace place at side) (anything SenderSide (Option ConnectionFailure))
      at_place place at side = performs (sender_action (receiving_buffer s) at (occupant side.ends place)) place side

  -- A subscriber that is there can be updated.
  pub update_subscriber_comes : (s : State T U) (q : ℕ) (y : Subscriber) → s.subscribers q ≡ Some y
      → (s' : State T U) × (failure : Option ConnectionFailure) × UpdateSubscriber ample_memory s q s' failure
  update_subscriber_comes s q y present =
      let v : ComesWith (State T U) (Option ConnectionFailure) Updates
      (anything (State T U) (Option ConnectionFailure)) =
      comes_bool (State T U) (Option ConnectionFailure) (anything (State T U) (Option ConnectionFailure)) y.is_due _ _
      (λ _.
      let first : ComesWith ReceiverSide (Option ConnectionFailure)
      (ForEachPlace Connects 0 s.publisher_places (receiver_side s q y))
      (anything ReceiverSide (Option ConnectionFailure)) =
      for_each_comes Connects connects 0 s.publisher_places (receiver_side s q y) in
      let later : ComesWith ReceiverSide (Option ConnectionFailure)
      (ForEachPlace Disconnects 0 s.publisher_places first.0) (anything ReceiverSide (Option ConnectionFailure)) =
      for_each_comes Disconnects disconnects 0 s.publisher_places first.0 in (
        receiver_channels_reset (with_receiver_side s q y later.0) q,
        first_failure first.1 later.1,
        (later.0, (first.0, first.1, later.1, first.2, later.2, refl), refl),
        tt,
      ))
      (λ _. (s, None, (refl, refl), tt)) in
      (v.0, v.1, match_some (s.subscribers q) y _ _ present v.2)
    where
      Connects : (place : ℕ) → (at : Option ℕ) → ReceiverSide → ReceiverSide → Option ConnectionFailure → Type 0
      Connects = ConnectAtPlace ample_memory (s.config).service_id q y.degradation_handler (expired_limit s.config)
          (λ p. has_sender_end s p q)

      Disconnects : (place : ℕ) → (at : Option ℕ) → ReceiverSide → ReceiverSide → Option ConnectionFailure → Type 0
      Disconnects = DisconnectAtPlace ample_memory (s.config).service_id q y.degradation_handler
          (expired_limit s.config) (λ p. has_sender_end s p q)

      Updates : State T U → Option ConnectionFailure → Type 0
      Updates s' failure = MatchBool y.is_due
          ((side : ReceiverSide)
          × UpdateReceiverSide ample_memory (s.config).service_id q y.degradation_handler (expired_limit s.config)
          (λ p. has_sender_end s p q) s.publisher_places (receiver_side s q y) side failure
          × (s' ≡ receiver_channels_reset (with_receiver_side s q y side) q))
          ((s' ≡ s) × (failure ≡ None))

      Any : ReceiverSide → Option ConnectionFailure → Type 0
      Any = anything ReceiverSide (Option ConnectionFailure)

      connect : (side : ReceiverSide) (place p : ℕ)
          → ComesWith ReceiverSide (Option ConnectionFailure)
          (ConnectReceiver ample_memory (s.config).service_id q y.degradation_handler (expired_limit s.config)
          (λ p. has_sender_end s p q) side place p) Any
      connect side place p = (with_end side place (Some p), None, inl (refl, refl), tt)

      retire : (side : ReceiverSide) (place old : ℕ)
          (Then : ReceiverSide → ReceiverSide → Option ConnectionFailure → Type 0)
          → ((mid : ReceiverSide) → ComesWith ReceiverSide (Option ConnectionFailure) (Then mid) Any)
          → ComesWith ReceiverSide (Option ConnectionFailure) (λ side' failure.
          Retire ample_memory (s.config).service_id q y.degradation_handler (expired_limit s.config)
          (λ p. has_sender_end s p q) side place old side' failure (λ mid. Then mid side' failure)) Any
      retire side place old Then go =
          comes_bool ReceiverSide (Option ConnectionFailure) Any
          (is_refused (retirement_of (expired_limit s.config) side.mailboxes side.expired old)) _ _
          (λ _. (
            after_retirement q side old (retirement_of (expired_limit s.config) side.mailboxes side.expired old),
            Some expired_buffer_full,
            (refl, refl),
            tt,
          ))
          (λ _.
          go (with_end (after_retirement q side old
          (retirement_of (expired_limit s.config) side.mailboxes side.expired old)) place None))

      connects : (place : ℕ) (at : Option ℕ) (side : ReceiverSide)
          → ComesWith ReceiverSide (Option ConnectionFailure) (Connects place at side) Any
      connects place None side = (side, None, (refl, refl), tt)
      connects place (Some p) side =
          comes_option ReceiverSide (Option ConnectionFailure) Any (occupant side.ends place) _ _
          (λ _. connect side place p)
          (λ old _. comes_bool ReceiverSide (Option ConnectionFailure) Any (eqb old p) _ _
          (λ _. (side, None, (refl, refl), tt))
          (λ _. retire side place old (λ mid side' failure.
          ConnectReceiver ample_memory (s.config).service_id q y.degradation_handler (expired_limit s.config)
          (λ p. has_sender_end s p q) mid place p side' failure) (λ mid. connect mid place p)))

      disconnects : (place : ℕ) (at : Option ℕ) (side : ReceiverSide)
          → ComesWith ReceiverSide (Option ConnectionFailure) (Disconnects place at side) Any
      disconnects place (Some p) side = (side, None, (refl, refl), tt)
      disconnects place None side =
          comes_option ReceiverSide (Option ConnectionFailure) Any (occupant side.ends place) _ _
          (λ _. (side, None, (refl, refl), tt))
          (λ old _. retire side place old (λ mid side' failure. (side' ≡ mid) × (failure ≡ None))
          (λ mid. (mid, None, (refl, refl), tt)))
