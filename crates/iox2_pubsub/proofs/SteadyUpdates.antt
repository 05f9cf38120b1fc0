-- The update of a publisher whose handler lets no call fail doesn't fail.
use Rattle.std.proofs.Common.{◌≡◌, ◌∙◌, ◌+◌, ℕ, Bool, true, false, List, [], ◌∷◌, inl, inr, refl, ap, sym, subst}
use Rattle.std.specs.Prelude.{MatchOption}
use Rattle.std.specs.Bool.{MatchBool}
use Rattle.std.specs.declared.option.Option.{Option}
use Rattle.std.specs.declared.option.Option.TheVariants.{None, Some}
use Rattle.iox2_machine.specs.machine.Connections.{ForEachPlace, DegradationAnswers, failure_of, first_failure}
use Rattle.iox2_machine.specs.machine.Places.{occupant}
use Rattle.iox2_machine.specs.machine.PublisherUpdate.{SenderAction, Keep_end, Drop_waiting, Disconnect, Connect}
use Rattle.iox2_machine.specs.machine.PublisherUpdate.{SenderSide, Performs, UpdatePublisher, UpdateSenderPlace}
use Rattle.iox2_machine.specs.machine.PublisherUpdate.{history_for, sender_action, sender_side, with_sender_side}
use Rattle.iox2_machine.specs.machine.Records.{Environment, Fixed, Custom, Handler, Loan, Publisher}
use Rattle.iox2_machine.specs.machine.Delivery.{DeliveryEnd, Complete, Suspended}
use Rattle.iox2_machine.specs.machine.Sends.{ConcludeSend, Send, SendResult, Blocked_send, Delivered_to, Send_error}
use Rattle.iox2_machine.specs.machine.Sends.{published, with_mailboxes}
use Rattle.iox2_machine.specs.machine.State.{State, receiving_buffer, has_receiver_end, sender_channels_reset}
use Rattle.iox2_machine.specs.declared.degradation.DegradationAction.{DegradationAction}
use Rattle.iox2_machine.specs.declared.degradation.DegradationAction.TheVariants.{Ignore, Warn, DegradeAndFail}
use Rattle.iox2_machine.specs.declared.degradation.DegradationInfo.{DegradationInfo}
use Rattle.iox2_machine.specs.declared.errors.ConnectionFailure.{ConnectionFailure}
use Rattle.iox2_machine.specs.declared.errors.SendError.TheVariants.{ConnectionBrokenSinceSenderNoLongerExists}
use Rattle.iox2_machine.specs.declared.errors.SendError.TheVariants.{ConnectionError, UnableToDeliver}
use Rattle.iox2_laws.proofs.Cases.{by_option}
use Rattle.iox2_domain.specs.Handlers.{fails_update, may_fail_update}

-- what fails at no place fails nowhere
module _ {Side : Type 0} (AtPlace : (place : ℕ) → (at : Option ℕ) → Side → Side → Option ConnectionFailure → Type 0)
    (never : (place : ℕ) (at : Option ℕ) (side side' : Side) (failure : ConnectionFailure)
    → AtPlace place at side side' (Some failure) → ⊥) where
  walk-never : (place : ℕ) (ats : List (Option ℕ)) (side side' : Side) (failure : ConnectionFailure)
      → ForEachPlace AtPlace place ats side side' (Some failure) → ⊥
  walk-never place [] side side' failure h = let no : Some failure ≡ None = h.1 in cc
  walk-never place (at ∷ rest) side side' failure h =
      by h.0 h.1 h.2 h.3 h.4 h.5 (λ mid there. walk-never (place + 1) rest mid side' failure there) where
        by : (mid : Side) (first later : Option ConnectionFailure) → AtPlace place at side mid first
            → ForEachPlace AtPlace (place + 1) rest mid side' later
            → Some failure ≡ first_failure first later
            → ((m : Side) → ForEachPlace AtPlace (place + 1) rest m side' (Some failure) → ⊥) → ⊥
        by mid (Some f) later here there is again = never place at side mid f here
        by mid None later here there is again =
            again mid (subst (ForEachPlace AtPlace (place + 1) rest mid side') (sym is) there)

-- a handler that fails no update makes no failure
no-failure : (environment : Environment) (p : ℕ) (handler : Handler DegradationAction) → may_fail_update handler ≡ false
    → (info : DegradationInfo) (action : DegradationAction)
    → DegradationAnswers environment p handler info action → (failure : ConnectionFailure)
    → Some failure ≡ failure_of action → ⊥
no-failure environment p (Fixed answer) calm info action answers failure is =
    by answer calm (is ∙ ap failure_of answers) where
      by : (a : DegradationAction) → fails_update a ≡ false → Some failure ≡ failure_of a → ⊥
      by Ignore none made = cc
      by Warn none made = cc
      by DegradeAndFail none made = let no : true ≡ false = none in cc
no-failure environment p Custom calm info action answers failure is = let no : true ≡ false = calm in cc

module _ (environment : Environment) (service_id p : ℕ) (handler : Handler DegradationAction)
    (calm : may_fail_update handler ≡ false) (histories : ℕ → List ℕ) (buffers : ℕ → Option ℕ)
    (has_end : ℕ → Bool) where
  place-never : (place : ℕ) (at : Option ℕ) (side side' : SenderSide) (failure : ConnectionFailure)
      → UpdateSenderPlace environment service_id p handler histories buffers has_end place at side side' (Some failure)
      → ⊥
  place-never place at side side' failure = by (sender_action buffers at (occupant side.ends place)) where
    by : (a : SenderAction)
        → Performs environment service_id p handler histories buffers has_end a place side side' (Some failure) → ⊥
    by Keep_end h = let no : Some failure ≡ None = h.1 in cc
    by (Drop_waiting q) h = let no : Some failure ≡ None = h.1 in cc
    by Disconnect h = let no : Some failure ≡ None = h.1 in cc
    by (Connect q buffer) (inl made) = let no : Some failure ≡ None = made.1 in cc
    by (Connect q buffer) (inr missed) =
        no-failure environment p handler calm _ missed.2.0 missed.2.2 failure missed.2.4

pub steady-update : {T U : Type 0} (environment : Environment) (s s' : State T U) (p : ℕ) (failure : ConnectionFailure)
    → ((x : Publisher) → s.publishers p ≡ Some x → may_fail_update x.degradation_handler ≡ false)
    → UpdatePublisher environment s p s' (Some failure) → ⊥
steady-update {T} {U} environment s s' p failure steady = by (s.publishers p) refl where
  Updates : Publisher → Bool → Type 0
  Updates x b = MatchBool b
      ((side : SenderSide)
      × ForEachPlace (UpdateSenderPlace environment (s.config).service_id p x.degradation_handler (history_for s p x)
      (receiving_buffer s) (has_receiver_end s p))
      0 s.subscriber_places (sender_side s p x) side (Some failure)
      × (s' ≡ sender_channels_reset (with_sender_side s p x side) p))
      ((s' ≡ s) × (Some failure ≡ None))

  due : (x : Publisher) → s.publishers p ≡ Some x → (b : Bool) → Updates x b → ⊥
  due x is true h = walk-never (UpdateSenderPlace environment (s.config).service_id p x.degradation_handler
      (history_for s p x) (receiving_buffer s) (has_receiver_end s p))
      (place-never environment (s.config).service_id p x.degradation_handler (steady x is) (history_for s p x)
      (receiving_buffer s) (has_receiver_end s p))
      0 s.subscriber_places (sender_side s p x) h.0 failure h.1
  due x is false h = let no : Some failure ≡ None = h.1 in cc

  by : (o : Option Publisher) → s.publishers p ≡ o → MatchOption o ⊥ (λ x. Updates x x.is_due) → ⊥
  by None is h = h
  by (Some x) is h = due x is x.is_due h

-- so no send of it fails for want of a connection
pub steady-send : {T U : Type 0} (environment : Environment) (s s' : State T U) (n : ℕ) (l : Loan T U)
    (result : SendResult)
    → ((x : Publisher) → s.publishers l.publisher ≡ Some x → may_fail_update x.degradation_handler ≡ false)
    → Send environment s n l s' result
    → (failure : ConnectionFailure) → result ≡ Send_error (ConnectionError failure) → ⊥
steady-send {T} {U} environment s s' n l result steady h failure is =
    by_option ⊥ (s.publishers l.publisher) _ _ h
    (λ _ k. absurd (let no : Send_error ConnectionBrokenSinceSenderNoLongerExists ≡ Send_error
    (ConnectionError failure) = sym k.1 ∙ is in cc))
    (λ x _ k. by_option ⊥ k.1 _ _ k.3
    (λ _ j. by_option ⊥ ((k.0).publishers l.publisher) _ _ j (λ _ v. v) (λ x1 _ i.
    by_option ⊥ ((published k.0 l.publisher n).publishers l.publisher) _ _ i (λ _ v. v)
    (λ x2 _ d. concluded d.0 (with_mailboxes (published k.0 l.publisher n) l.publisher d.1) d.3)))
    (λ e made j. steady-update environment s k.0 l.publisher e steady
    (subst (UpdatePublisher environment s l.publisher k.0) made k.2)))
  where
    concluded : (how : DeliveryEnd) (mid : State T U) → ConcludeSend mid l.publisher n how s' result → ⊥
    concluded (Complete count true) mid c =
        absurd (let no : Send_error UnableToDeliver ≡ Send_error (ConnectionError failure) = sym c.1 ∙ is in cc)
    concluded (Complete count false) mid c =
        absurd (let no : Delivered_to count ≡ Send_error (ConnectionError failure) = sym c.1 ∙ is in cc)
    concluded (Suspended b) mid c =
        absurd (let no : Blocked_send ≡ Send_error (ConnectionError failure) = sym c.1 ∙ is in cc)
