-- Where the count of refused connections is 0, an update was refused no memory.
use Rattle.std.proofs.Common.{◌≡◌, ℕ, ◌+◌, Bool, true, false, List, [], ◌∷◌, refl, ap, subst, ◌∙◌, arith, Option, None}
use Rattle.std.proofs.Common.{Some, inl, ⊎_elim}
use Rattle.std.specs.Prelude.{MatchOption, ◌==◌, min}
use Rattle.std.specs.Bool.{MatchBool}
use Rattle.iox2_machine.specs.machine.Limits.{refusal_limit, expired_limit}
use Rattle.iox2_machine.specs.machine.Places.{occupant}
use Rattle.iox2_machine.specs.machine.Records.{Publisher, Subscriber, Handler, Environment}
use Rattle.iox2_machine.specs.machine.State.{State, Warnings, receiving_buffer, has_receiver_end, has_sender_end}
use Rattle.iox2_machine.specs.machine.State.{sender_channels_reset, receiver_channels_reset}
use Rattle.iox2_machine.specs.machine.Connections.{ForEachPlace, warnings_after}
use Rattle.iox2_machine.specs.machine.PublisherUpdate.{SenderSide, SenderAction, Keep_end, Drop_waiting, Disconnect}
use Rattle.iox2_machine.specs.machine.PublisherUpdate.{Connect, sender_action, disconnected, ConnectSender, Performs}
use Rattle.iox2_machine.specs.machine.PublisherUpdate.{UpdateSenderPlace, UpdatePublisher, sender_side}
use Rattle.iox2_machine.specs.machine.PublisherUpdate.{with_sender_side, history_for}
use Rattle.iox2_machine.specs.machine.SubscriberUpdate.{ReceiverSide, Retirement, Keep_expired, Evict, Discard_data}
use Rattle.iox2_machine.specs.machine.SubscriberUpdate.{Refuse, retirement_of, after_retirement, is_refused, with_end}
use Rattle.iox2_machine.specs.machine.SubscriberUpdate.{ConnectReceiver, Retire, ConnectAtPlace, DisconnectAtPlace}
use Rattle.iox2_machine.specs.machine.SubscriberUpdate.{UpdateReceiverSide, UpdateSubscriber, receiver_side}
use Rattle.iox2_machine.specs.machine.SubscriberUpdate.{with_receiver_side}
use Rattle.iox2_machine.specs.machine.Environments.{fixed_handlers, ample_memory}
use Rattle.iox2_machine.specs.declared.degradation.DegradationAction.{DegradationAction}
use Rattle.iox2_machine.specs.declared.degradation.DegradationAction.TheVariants.{Ignore, Warn, DegradeAndFail}
use Rattle.iox2_machine.specs.declared.errors.ConnectionFailure.{ConnectionFailure}
use Rattle.iox2_laws.proofs.Cases.{by_bool}
use Rattle.iox2_commands.specs.Refusals.{TellNoRefusal}

-- ---- facts by cases

-- each case of a fact comes to the same case of another
pub option_maps : {A : Type 0} (o : Option A) (P P' : Type 0) (Q Q' : A → Type 0) → MatchOption o P Q → (P → P')
    → ((a : A) → o ≡ Some a → Q a → Q' a) → MatchOption o P' Q'
option_maps None P P' Q Q' h none some = none h
option_maps (Some a) P P' Q Q' h none some = some a refl h

pub bool_maps : (b : Bool) (P P' Q Q' : Type 0) → MatchBool b P Q → (P → P') → (Q → Q') → MatchBool b P' Q'
bool_maps true P P' Q Q' h at_true at_false = at_true h
bool_maps false P P' Q Q' h at_true at_false = at_false h

-- ---- the count

-- a count that goes up isn't 0
counted : (n : ℕ) → min (n + 1) refusal_limit ≡ 0 → ⊥
counted n h = omega (arith, h)

-- A refused connection is counted, whatever the handler's answer.
no_refusal_told : (p q : ℕ) (action : DegradationAction) (ws : Warnings) → TellNoRefusal (warnings_after p q action ws)
    → ⊥
no_refusal_told p q Ignore ws h = counted ws.refused_connections h
no_refusal_told p q Warn ws h = counted ws.refused_connections h
no_refusal_told p q DegradeAndFail ws h = counted ws.refused_connections h

-- ---- walks

-- What goes back over each place goes back over all of them.
module _ {Side : Type 0} (At At' : (place : ℕ) → (at : Option ℕ) → Side → Side → Option ConnectionFailure → Type 0)
    (warnings : Side → Warnings)
    (back : (place : ℕ) (at : Option ℕ) (side side' : Side) (failure : Option ConnectionFailure)
    → At place at side side' failure → TellNoRefusal (warnings side')
    → At' place at side side' failure × TellNoRefusal (warnings side)) where
  walk_back : (place : ℕ) (places : List (Option ℕ)) (side side' : Side) (failure : Option ConnectionFailure)
      → ForEachPlace At place places side side' failure
      → TellNoRefusal (warnings side')
      → ForEachPlace At' place places side side' failure × TellNoRefusal (warnings side)
  walk_back place [] side side' failure h told = (h, subst (λ (z : Side). TellNoRefusal (warnings z)) h.0 told)
  walk_back place (at ∷ rest) side side' failure h told =
      let later = walk_back (place + 1) rest h.0 side' h.2 h.4 told in
      let first = back place at side h.0 h.1 h.3 later.1 in
      ((h.0, h.1, h.2, first.0, later.0, h.5), first.1)

-- An update of a port that is due or not, whose walk goes back where it is due.
module _ {T U Port Side : Type 0} (s s' : State T U) (failure : Option ConnectionFailure)
    (told : TellNoRefusal s'.warnings) (is_due : Port → Bool) (Walks Walks' : Port → Side → Type 0)
    (after : Port → Side → State T U) (back : (x : Port) (side : Side) → Walks x side → s' ≡ after x side
    → Walks' x side × TellNoRefusal s.warnings) where
  abbrev Updates : (Port → Side → Type 0) → Option Port → Type 0
  Updates Walk port = MatchOption port ⊥
      (λ x. MatchBool (is_due x) ((side : Side) × Walk x side × (s' ≡ after x side)) ((s' ≡ s) × (failure ≡ None)))

  update_back : (port : Option Port) → Updates Walks port → Updates Walks' port × TellNoRefusal s.warnings
  update_back None h = absurd h
  update_back (Some x) h = (
    bool_maps (is_due x) _ _ _ _ h (λ h. (h.0, (back x h.0 h.1 h.2).0, h.2)) (λ h. h),
    by_bool (TellNoRefusal s.warnings) (is_due x) _ _ h
        (λ _ h. (back x h.0 h.1 h.2).1)
        (λ _ h. subst TellNoRefusal (ap (λ (z : State T U). z.warnings) h.0) told),
  )

-- ---- a publisher's update

module _ (service_id p : ℕ) (handler : Handler DegradationAction) (histories : ℕ → List ℕ) (buffers : ℕ → Option ℕ)
    (has_end : ℕ → Bool) where
  disconnected_warnings : (side : SenderSide) (place : ℕ) (end : Option ℕ)
      → (disconnected side place end).warnings ≡ side.warnings
  disconnected_warnings side place None = refl
  disconnected_warnings side place (Some q) = refl

  connect_sender_back : (side : SenderSide) (place q buffer : ℕ) (side' : SenderSide)
      (failure : Option ConnectionFailure)
      → ConnectSender fixed_handlers service_id p handler histories buffers has_end side place q buffer side' failure
      → TellNoRefusal side'.warnings
      → ConnectSender ample_memory service_id p handler histories buffers has_end side place q buffer side' failure
      × TellNoRefusal side.warnings
  connect_sender_back side place q buffer side' failure h told =
      ⊎_elim
      (λ made. (inl made, subst (λ (z : SenderSide). TellNoRefusal z.warnings) made.0 told))
      (λ refused. absurd (no_refusal_told p q (refused.2).0 side.warnings
      (subst TellNoRefusal (ap (λ (z : SenderSide). z.warnings) refused.3 ∙ (refused.2).3) told)))
      h

  performs_back : (action : SenderAction) (place : ℕ) (side side' : SenderSide) (failure : Option ConnectionFailure)
      → Performs fixed_handlers service_id p handler histories buffers has_end action place side side' failure
      → TellNoRefusal side'.warnings
      → Performs ample_memory service_id p handler histories buffers has_end action place side side' failure
      × TellNoRefusal side.warnings
  performs_back Keep_end place side side' failure h told =
      (h, subst (λ (z : SenderSide). TellNoRefusal z.warnings) h.0 told)
  performs_back (Drop_waiting q) place side side' failure h told =
      (h, subst (λ (z : SenderSide). TellNoRefusal z.warnings) h.0 told)
  performs_back Disconnect place side side' failure h told = (
    h,
    subst TellNoRefusal
        (ap (λ (z : SenderSide). z.warnings) h.0 ∙ disconnected_warnings side place (occupant side.ends place)) told,
  )
  performs_back (Connect q buffer) place side side' failure h told =
      let went = connect_sender_back
      (disconnected side place (occupant side.ends place)) place q buffer side' failure h told in
      (went.0, subst TellNoRefusal (disconnected_warnings side place (occupant side.ends place)) went.1)

  sender_place_back : (place : ℕ) (at : Option ℕ) (side side' : SenderSide) (failure : Option ConnectionFailure)
      → UpdateSenderPlace fixed_handlers service_id p handler histories buffers has_end place at side side' failure
      → TellNoRefusal side'.warnings
      → UpdateSenderPlace ample_memory service_id p handler histories buffers has_end place at side side' failure
      × TellNoRefusal side.warnings
  sender_place_back place at side side' failure h told =
      performs_back (sender_action buffers at (occupant side.ends place)) place side side' failure h told

module _ {T U : Type 0} (s s' : State T U) (p : ℕ) (failure : Option ConnectionFailure)
    (told : TellNoRefusal s'.warnings) where
  -- what the walk of a publisher's update comes to
  abbrev Walked : Environment → Publisher → (side : SenderSide) → Type 0
  Walked environment x side =
      ForEachPlace (UpdateSenderPlace environment (s.config).service_id p x.degradation_handler (history_for s p x)
      (receiving_buffer s) (has_receiver_end s p)) 0 s.subscriber_places (sender_side s p x) side failure

  walked_back : (x : Publisher) (side : SenderSide) → Walked fixed_handlers x side
      → s' ≡ sender_channels_reset (with_sender_side s p x side) p
      → Walked ample_memory x side × TellNoRefusal s.warnings
  walked_back x side walk is =
      walk_back (UpdateSenderPlace fixed_handlers (s.config).service_id p x.degradation_handler (history_for s p x)
      (receiving_buffer s) (has_receiver_end s p))
      (UpdateSenderPlace ample_memory (s.config).service_id p x.degradation_handler (history_for s p x)
      (receiving_buffer s) (has_receiver_end s p)) (λ (z : SenderSide). z.warnings)
      (sender_place_back (s.config).service_id p x.degradation_handler (history_for s p x) (receiving_buffer s)
      (has_receiver_end s p)) 0 s.subscriber_places (sender_side s p x) side failure
      walk (subst TellNoRefusal (ap (λ (z : State T U). z.warnings) is) told)

  -- A publisher's update, after which the count is 0, was refused no memory, and the count was 0 before it.
  pub update_publisher_back : UpdatePublisher fixed_handlers s p s' failure
      → UpdatePublisher ample_memory s p s' failure × TellNoRefusal s.warnings
  update_publisher_back =
      update_back s s' failure told (λ x. x.is_due) (Walked fixed_handlers) (Walked ample_memory)
      (λ x side. sender_channels_reset (with_sender_side s p x side) p) walked_back (s.publishers p)

-- ---- a subscriber's update

module _ (service_id q : ℕ) (handler : Handler DegradationAction) (limit : ℕ) (has_end : ℕ → Bool) where
  retired_before : (side : ReceiverSide) (old : ℕ) (how : Retirement)
      → TellNoRefusal (after_retirement q side old how).warnings → TellNoRefusal side.warnings
  retired_before side old Keep_expired told = told
  retired_before side old (Evict first) told = told
  retired_before side old Discard_data told = told
  retired_before side old Refuse told = told

  connect_receiver_back : (side : ReceiverSide) (place p : ℕ) (side' : ReceiverSide)
      (failure : Option ConnectionFailure)
      → ConnectReceiver fixed_handlers service_id q handler limit has_end side place p side' failure
      → TellNoRefusal side'.warnings
      → ConnectReceiver ample_memory service_id q handler limit has_end side place p side' failure
      × TellNoRefusal side.warnings
  connect_receiver_back side place p side' failure h told =
      ⊎_elim
      (λ made. (inl made, subst (λ (z : ReceiverSide). TellNoRefusal z.warnings) made.0 told))
      (λ refused. absurd (no_refusal_told p q (refused.2).0 side.warnings
      (subst TellNoRefusal (ap (λ (z : ReceiverSide). z.warnings) refused.3 ∙ (refused.2).3) told)))
      h

  -- what goes back over what follows a retirement goes back over it
  retire_back : (side : ReceiverSide) (place old : ℕ) (side' : ReceiverSide) (failure : Option ConnectionFailure)
      (Then Then' : ReceiverSide → Type 0)
      → ((mid : ReceiverSide) → Then mid → Then' mid × TellNoRefusal mid.warnings)
      → Retire fixed_handlers service_id q handler limit has_end side place old side' failure Then
      → TellNoRefusal side'.warnings
      → Retire ample_memory service_id q handler limit has_end side place old side' failure Then'
      × TellNoRefusal side.warnings
  retire_back side place old side' failure Then Then' back h told =
      let how : Retirement = retirement_of limit side.mailboxes side.expired old in (
        bool_maps (is_refused how) _ _ _ _ h (λ h. h)
            (λ h. (back (with_end (after_retirement q side old how) place None) h).0),
        by_bool (TellNoRefusal side.warnings) (is_refused how) _ _ h
            (λ _ h. retired_before side old how (subst (λ (z : ReceiverSide). TellNoRefusal z.warnings) h.0 told))
            (λ _ h. retired_before side old how (back (with_end (after_retirement q side old how) place None) h).1),
      )

  connect_at_back : (place : ℕ) (at : Option ℕ) (side side' : ReceiverSide) (failure : Option ConnectionFailure)
      → ConnectAtPlace fixed_handlers service_id q handler limit has_end place at side side' failure
      → TellNoRefusal side'.warnings
      → ConnectAtPlace ample_memory service_id q handler limit has_end place at side side' failure
      × TellNoRefusal side.warnings
  connect_at_back place None side side' failure h told =
      (h, subst (λ (z : ReceiverSide). TellNoRefusal z.warnings) h.0 told)
  connect_at_back place (Some p) side side' failure h told = at (occupant side.ends place) h where
    Connects : Environment → Option ℕ → Type 0
    Connects environment end =
        MatchOption end
        (ConnectReceiver environment service_id q handler limit has_end side place p side' failure)
        (λ old. MatchBool (old == p)
        ((side' ≡ side) × (failure ≡ None))
        (Retire environment service_id q handler limit has_end side place old side' failure
        (λ mid. ConnectReceiver environment service_id q handler limit has_end mid place p side' failure)))

    at : (end : Option ℕ) → Connects fixed_handlers end → Connects ample_memory end × TellNoRefusal side.warnings
    at None h = connect_receiver_back side place p side' failure h told
    at (Some old) h = (
      bool_maps (old == p) _ _ _ _ h (λ h. h)
          (λ h. (retire_back side place old side' failure _ _
          (λ mid h. connect_receiver_back mid place p side' failure h told) h told).0),
      by_bool (TellNoRefusal side.warnings) (old == p) _ _ h
          (λ _ h. subst (λ (z : ReceiverSide). TellNoRefusal z.warnings) h.0 told)
          (λ _ h. (retire_back side place old side' failure _ _
          (λ mid h. connect_receiver_back mid place p side' failure h told) h told).1),
    )

  disconnect_at_back : (place : ℕ) (at : Option ℕ) (side side' : ReceiverSide) (failure : Option ConnectionFailure)
      → DisconnectAtPlace fixed_handlers service_id q handler limit has_end place at side side' failure
      → TellNoRefusal side'.warnings
      → DisconnectAtPlace ample_memory service_id q handler limit has_end place at side side' failure
      × TellNoRefusal side.warnings
  disconnect_at_back place (Some p) side side' failure h told =
      (h, subst (λ (z : ReceiverSide). TellNoRefusal z.warnings) h.0 told)
  disconnect_at_back place None side side' failure h told = at (occupant side.ends place) h where
    Disconnects : Environment → Option ℕ → Type 0
    Disconnects environment end =
        MatchOption end
        ((side' ≡ side) × (failure ≡ None))
        (λ old. Retire environment service_id q handler limit has_end side place old side' failure
        (λ mid. (side' ≡ mid) × (failure ≡ None)))

    at : (end : Option ℕ) → Disconnects fixed_handlers end → Disconnects ample_memory end × TellNoRefusal side.warnings
    at None h = (h, subst (λ (z : ReceiverSide). TellNoRefusal z.warnings) h.0 told)
    at (Some old) h = retire_back side place old side' failure (λ mid. (side' ≡ mid) × (failure ≡ None))
        (λ mid. (side' ≡ mid) × (failure ≡ None))
        (λ mid h. (h, subst (λ (z : ReceiverSide). TellNoRefusal z.warnings) h.0 told)) h told

  receiver_side_back : (places : List (Option ℕ)) (side side' : ReceiverSide) (failure : Option ConnectionFailure)
      → UpdateReceiverSide fixed_handlers service_id q handler limit has_end places side side' failure
      → TellNoRefusal side'.warnings
      → UpdateReceiverSide ample_memory service_id q handler limit has_end places side side' failure
      × TellNoRefusal side.warnings
  receiver_side_back places side side' failure h told =
      let later = walk_back (DisconnectAtPlace fixed_handlers service_id q handler limit has_end)
      (DisconnectAtPlace ample_memory service_id q handler limit has_end)
      (λ (z : ReceiverSide). z.warnings) disconnect_at_back 0 places h.0 side' h.2 h.4 told in
      let first = walk_back (ConnectAtPlace fixed_handlers service_id q handler limit has_end)
      (ConnectAtPlace ample_memory service_id q handler limit has_end)
      (λ (z : ReceiverSide). z.warnings) connect_at_back 0 places side h.0 h.1 h.3 later.1 in
      ((h.0, h.1, h.2, first.0, later.0, h.5), first.1)

module _ {T U : Type 0} (s s' : State T U) (q : ℕ) (failure : Option ConnectionFailure)
    (told : TellNoRefusal s'.warnings) where
  -- what the walks of a subscriber's update come to
  abbrev WalkedReceiver : Environment → Subscriber → (side : ReceiverSide) → Type 0
  WalkedReceiver environment y side =
      UpdateReceiverSide environment (s.config).service_id q y.degradation_handler (expired_limit s.config)
      (λ p. has_sender_end s p q) s.publisher_places (receiver_side s q y) side failure

  walked_receiver_back : (y : Subscriber) (side : ReceiverSide) → WalkedReceiver fixed_handlers y side
      → s' ≡ receiver_channels_reset (with_receiver_side s q y side) q
      → WalkedReceiver ample_memory y side × TellNoRefusal s.warnings
  walked_receiver_back y side walk is =
      receiver_side_back (s.config).service_id q y.degradation_handler (expired_limit s.config)
      (λ p. has_sender_end s p q) s.publisher_places (receiver_side s q y) side failure
      walk (subst TellNoRefusal (ap (λ (z : State T U). z.warnings) is) told)

  -- A subscriber's update, after which the count is 0, was refused no memory, and the count was 0 before it.
  pub update_subscriber_back : UpdateSubscriber fixed_handlers s q s' failure
      → UpdateSubscriber ample_memory s q s' failure × TellNoRefusal s.warnings
  update_subscriber_back =
      update_back s s' failure told (λ y. y.is_due) (WalkedReceiver fixed_handlers) (WalkedReceiver ample_memory)
      (λ y side. receiver_channels_reset (with_receiver_side s q y side) q) walked_receiver_back (s.subscribers q)
