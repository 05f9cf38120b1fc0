-- What a subscriber does in one environment it does in another in which its handler may answer as much; and so it is
-- with creations.
use Rattle.std.proofs.Common.{◌≡◌, ℕ, ◌==◌, Bool, true, false, inl, inr, refl, sym, ap, ◌∙◌}
use Rattle.std.proofs.lemmas.Option.{same_Some}
use Rattle.std.specs.Bool.{MatchBool}
use Rattle.std.specs.Prelude.{MatchOption, nat_lt}
use Rattle.std.specs.declared.option.Option.{Option}
use Rattle.std.specs.declared.option.Option.TheVariants.{None, Some}
use Rattle.iox2_machine.specs.machine.Limits.{buffer_limit, expired_limit, last_number}
use Rattle.iox2_machine.specs.machine.Places.{free_place, occupant}
use Rattle.iox2_machine.specs.machine.Ports.{CreatePublisher, CreateSubscriber, MakePublisher, MakeSubscriber}
use Rattle.iox2_machine.specs.machine.Ports.{buffer_for, first_segment_fits, new_publisher, new_subscriber}
use Rattle.iox2_machine.specs.machine.Ports.{with_new_publisher, with_new_subscriber}
use Rattle.iox2_machine.specs.machine.Receives.{HasSamples, Receive, ReceiveResult}
use Rattle.iox2_machine.specs.machine.Records.{Environment, Handler, Publisher, PublisherSettings, Subscriber}
use Rattle.iox2_machine.specs.machine.Records.{SubscriberSettings}
use Rattle.iox2_machine.specs.machine.State.{State, has_sender_end, receiver_channels_reset}
use Rattle.iox2_machine.specs.machine.SubscriberUpdate.{ReceiverSide, ConnectReceiver, ConnectAtPlace, Retire}
use Rattle.iox2_machine.specs.machine.SubscriberUpdate.{UpdateReceiverSide, UpdateSubscriber, after_retirement}
use Rattle.iox2_machine.specs.machine.SubscriberUpdate.{is_refused, receiver_side, retirement_of, with_end}
use Rattle.iox2_machine.specs.machine.SubscriberUpdate.{with_receiver_side}
use Rattle.iox2_machine.specs.declared.degradation.DegradationAction.{DegradationAction}
use Rattle.iox2_machine.specs.declared.errors.ConnectionFailure.{ConnectionFailure}
use Rattle.iox2_machine.specs.declared.errors.PublisherCreateError.{PublisherCreateError}
use Rattle.iox2_machine.specs.declared.errors.SubscriberCreateError.{SubscriberCreateError}
use Rattle.iox2_laws.proofs.Puts.{put_at-same}
use Rattle.iox2_steps.proofs.updates.AnyBoxes.{AllowsUpdates, answers-alike, each-place, update-alike}

-- what follows where there is one follows
matched : {A : Type 0} (N : Type 0) (P Q : A → Type 0) → ((x : A) → P x → Q x) → (o : Option A) → MatchOption o N P
    → MatchOption o N Q
matched N P Q so None h = h
matched N P Q so (Some x) h = so x h

-- what follows where it isn't so follows
unless : (N P Q : Type 0) → (P → Q) → (b : Bool) → MatchBool b N P → MatchBool b N Q
unless N P Q so true h = h
unless N P Q so false h = so h

-- what follows where it is so follows
where-so : (N P Q : Type 0) → (P → Q) → (b : Bool) → MatchBool b P N → MatchBool b Q N
where-so N P Q so true h = so h
where-so N P Q so false h = h

module _ (e e' : Environment) where
  module _ (service_id q : ℕ) (handler : Handler DegradationAction) (allows : AllowsUpdates e e' q handler) (limit : ℕ)
      (has_end : ℕ → Bool) where
    connects-alike : (side : ReceiverSide) (place p : ℕ) (side' : ReceiverSide) (failure : Option ConnectionFailure)
        → ConnectReceiver e service_id q handler limit has_end side place p side' failure
        → ConnectReceiver e' service_id q handler limit has_end side place p side' failure
    connects-alike side place p side' failure (inl h) = inl h
    connects-alike side place p side' failure (inr h) =
        inr (
          h.0,
          h.1,
          (h.2.0, allows.memory h.2.1, answers-alike e e' q handler allows.answers _ h.2.0 h.2.2, h.2.3, h.2.4),
          h.3,
        )

    connect-alike : (place : ℕ) (at : Option ℕ) (side side' : ReceiverSide) (failure : Option ConnectionFailure)
        → ConnectAtPlace e service_id q handler limit has_end place at side side' failure
        → ConnectAtPlace e' service_id q handler limit has_end place at side side' failure
    connect-alike place None side side' failure h = h
    connect-alike place (Some p) side side' failure h = by (occupant side.ends place) h where
      retired : (old : ℕ) → Retire e service_id q handler limit has_end side place old side' failure
          (λ mid. ConnectReceiver e service_id q handler limit has_end mid place p side' failure)
          → Retire e' service_id q handler limit has_end side place old side' failure
          (λ mid. ConnectReceiver e' service_id q handler limit has_end mid place p side' failure)
      retired old h =
          unless _ _ _
          (connects-alike (with_end (after_retirement q side old (retirement_of limit side.mailboxes side.expired old))
          place None) place p side' failure)
          (is_refused (retirement_of limit side.mailboxes side.expired old)) h

      by : (o : Option ℕ)
          → MatchOption o (ConnectReceiver e service_id q handler limit has_end side place p side' failure)
          (λ old. MatchBool (old == p) ((side' ≡ side) × (failure ≡ None))
          (Retire e service_id q handler limit has_end side place old side' failure
          (λ mid. ConnectReceiver e service_id q handler limit has_end mid place p side' failure)))
          → MatchOption o (ConnectReceiver e' service_id q handler limit has_end side place p side' failure)
          (λ old. MatchBool (old == p) ((side' ≡ side) × (failure ≡ None))
          (Retire e' service_id q handler limit has_end side place old side' failure
          (λ mid. ConnectReceiver e' service_id q handler limit has_end mid place p side' failure)))
      by None h = connects-alike side place p side' failure h
      by (Some old) h = unless _ _ _ (retired old) (old == p) h

  module _ {T U : Type 0} (s : State T U) where
    module _ (q : ℕ) (s' : State T U) (failure : Option ConnectionFailure)
        (allowed : (y : Subscriber) → s.subscribers q ≡ Some y → AllowsUpdates e e' q y.degradation_handler) where
      -- what becomes of the subscriber where it is due
      abbrev Walks : Environment → Subscriber → Type 0
      Walks environment y = (side : ReceiverSide)
          × UpdateReceiverSide environment (s.config).service_id q y.degradation_handler (expired_limit s.config)
          (λ p. has_sender_end s p q) s.publisher_places (receiver_side s q y) side failure
          × (s' ≡ receiver_channels_reset (with_receiver_side s q y side) q)

      -- a subscriber's update in one environment is one in the other
      pub update-subscriber-alike : UpdateSubscriber e s q s' failure → UpdateSubscriber e' s q s' failure
      update-subscriber-alike h = by (s.subscribers q) allowed h where
        walks : (y : Subscriber) → AllowsUpdates e e' q y.degradation_handler → Walks e y → Walks e' y
        walks y allows h = (
          h.0,
          (
            h.1.0,
            h.1.1,
            h.1.2,
            each-place _ _ (connect-alike (s.config).service_id q y.degradation_handler allows (expired_limit s.config)
                (λ p. has_sender_end s p q)) 0 s.publisher_places (receiver_side s q y) h.1.0 h.1.1 h.1.3,
            h.1.4,
            h.1.5,
          ),
          h.2,
        )

        by : (o : Option Subscriber) → ((y : Subscriber) → o ≡ Some y → AllowsUpdates e e' q y.degradation_handler)
            → MatchOption o ⊥ (λ y. MatchBool y.is_due (Walks e y) ((s' ≡ s) × (failure ≡ None)))
            → MatchOption o ⊥ (λ y. MatchBool y.is_due (Walks e' y) ((s' ≡ s) × (failure ≡ None)))
        by None allowed h = h
        by (Some y) allowed h = where-so _ _ _ (walks y (allowed y refl)) y.is_due h

    -- what it receives
    pub receive-alike : (q : ℕ) → ((y : Subscriber) → s.subscribers q ≡ Some y
        → AllowsUpdates e e' q y.degradation_handler) → (s' : State T U) (result : ReceiveResult)
        → Receive e s q s' result → Receive e' s q s' result
    receive-alike q allowed s' result h = (h.0, h.1, update-subscriber-alike q h.0 h.1 allowed h.2, h.3)

    -- and what it answers
    pub has_samples-alike : (q : ℕ)
        → ((y : Subscriber) → s.subscribers q ≡ Some y → AllowsUpdates e e' q y.degradation_handler)
        → (s' : State T U) (failure : Option ConnectionFailure) (waits : Bool) → HasSamples e s q s' failure waits
        → HasSamples e' s q s' failure waits
    has_samples-alike q allowed s' failure waits h = (update-subscriber-alike q s' failure allowed h.0, h.1)

  module _ {T U : Type 0} (s : State T U) where
    -- a publisher is made where its handler may answer as much
    pub create_publisher-alike : (given : PublisherSettings) (s' : State T U) (refusal : Option PublisherCreateError)
        → AllowsUpdates e e' s.next_port given.degradation_handler
        → CreatePublisher e s given s' refusal → CreatePublisher e' s given s' refusal
    create_publisher-alike given s' refusal allows h =
        unless _ _ _ (matched _ _ _ (λ place. where-so _ _ _ (makes place refusal) (first_segment_fits s.config given))
        (free_place (s.config).max_publishers s.publisher_places)) (s.next_port == last_number) h
      where
        makes : (place : ℕ) (refusal : Option PublisherCreateError) → MakePublisher e s given place s' refusal
            → MakePublisher e' s given place s' refusal
        makes place None h = (
          h.0,
          h.1,
          update-alike e e' (with_new_publisher s given place) s.next_port h.0 h.1 (λ x there.
              let its : Some x ≡ Some (new_publisher s given place) =
              sym there ∙ put_at-same s.publishers s.next_port (Some (new_publisher s given place)) in
              allowed-as x
              (ap (λ (z : Publisher). z.degradation_handler) (same_Some x (new_publisher s given place) its))) h.2,
          h.3,
        )
          where
            allowed-as : (x : Publisher) → x.degradation_handler ≡ given.degradation_handler
                → AllowsUpdates e e' s.next_port x.degradation_handler
            allowed-as x is = rw is allows
        makes place (Some error) h = (allows.memory h.0, h.1, h.2)

    -- and a subscriber where its may
    pub create_subscriber-alike : (given : SubscriberSettings) (s' : State T U) (refusal : Option SubscriberCreateError)
        → AllowsUpdates e e' s.next_port given.degradation_handler
        → CreateSubscriber e s given s' refusal → CreateSubscriber e' s given s' refusal
    create_subscriber-alike given s' refusal allows h =
        unless _ _ _
        (unless _ _ _ (matched _ _ _ (λ place. makes place refusal)
        (free_place (s.config).max_subscribers s.subscriber_places))
        (nat_lt (buffer_limit s.config) (buffer_for given))) (s.next_port == last_number) h
      where
        makes : (place : ℕ) (refusal : Option SubscriberCreateError) → MakeSubscriber e s given place s' refusal
            → MakeSubscriber e' s given place s' refusal
        makes place None h = (
          h.0,
          h.1,
          update-subscriber-alike (with_new_subscriber s given place) s.next_port h.0 h.1 (λ y there.
              let its : Some y ≡ Some (new_subscriber given place) =
              sym there ∙ put_at-same s.subscribers s.next_port (Some (new_subscriber given place)) in
              allowed-as y
              (ap (λ (z : Subscriber). z.degradation_handler) (same_Some y (new_subscriber given place) its))) h.2,
          h.3,
        )
          where
            allowed-as : (y : Subscriber) → y.degradation_handler ≡ given.degradation_handler
                → AllowsUpdates e e' s.next_port y.degradation_handler
            allowed-as y is = rw is allows
        makes place (Some error) h = (allows.memory h.0, h.1, h.2)
