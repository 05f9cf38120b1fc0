-- A publisher's update in one environment is one in another in which its handler may answer as much.
use Rattle.std.proofs.Common.{◌≡◌, ℕ, ◌+◌, Bool, true, false, List, [], ◌∷◌, inl, inr, refl}
use Rattle.std.specs.Bool.{MatchBool}
use Rattle.std.specs.Prelude.{MatchOption}
use Rattle.std.specs.declared.option.Option.{Option}
use Rattle.std.specs.declared.option.Option.TheVariants.{None, Some}
use Rattle.iox2_machine.specs.machine.Connections.{ForEachPlace, DegradationAnswers}
use Rattle.iox2_machine.specs.machine.PublisherUpdate.{SenderAction, Keep_end, Drop_waiting, Disconnect, Connect}
use Rattle.iox2_machine.specs.machine.PublisherUpdate.{SenderSide, sender_action, sender_side, with_sender_side}
use Rattle.iox2_machine.specs.machine.PublisherUpdate.{Performs, UpdateSenderPlace, UpdatePublisher, history_for}
use Rattle.iox2_machine.specs.machine.Environments.{fixed_handlers}
use Rattle.iox2_machine.specs.machine.Places.{occupant}
use Rattle.iox2_machine.specs.machine.Records.{Environment, Handler, Fixed, Custom, Publisher}
use Rattle.iox2_machine.specs.machine.State.{State, receiving_buffer, has_receiver_end, sender_channels_reset}
use Rattle.iox2_machine.specs.declared.degradation.DegradationAction.{DegradationAction}
use Rattle.iox2_machine.specs.declared.degradation.DegradationCause.TheVariants.{FailedToEstablishConnection as NotEstablished}
use Rattle.iox2_machine.specs.declared.degradation.DegradationInfo.{DegradationInfo}
use Rattle.iox2_machine.specs.declared.errors.ConnectionFailure.{ConnectionFailure}
use Rattle.iox2_domain.specs.Connects.{UpdatesKeptPublisher}
use Rattle.iox2_domain.specs.Fields.{Fields, kept_of}
use Rattle.iox2_domain.specs.Kept.{state_of}
use Rattle.iox2_domain.specs.Ports.{PublisherFields}

-- a relation that follows from another does so at each place
pub each-place : {Side : Type 0} (A B : ℕ → Option ℕ → Side → Side → Option ConnectionFailure → Type 0)
    → ((place : ℕ) (at : Option ℕ) (side side' : Side) (failure : Option ConnectionFailure)
    → A place at side side' failure → B place at side side' failure)
    → (place : ℕ) (rest : List (Option ℕ)) (side side' : Side) (failure : Option ConnectionFailure)
    → ForEachPlace A place rest side side' failure → ForEachPlace B place rest side side' failure
each-place A B so place [] side side' failure h = h
each-place A B so place (at ∷ rest) side side' failure h =
    (h.0, h.1, h.2, so place at side h.0 h.1 h.3, each-place A B so (place + 1) rest h.0 side' h.2 h.4, h.5)

-- Where a port's handler is a box, it may answer in the one environment as in the other.
abbrev pub AllowsDegradation : Environment → Environment → (port : ℕ) → Handler DegradationAction → Type 0
AllowsDegradation e e' port (Fixed answer) = Unit {0}
AllowsDegradation e e' port Custom = (info : DegradationInfo) (action : DegradationAction)
    → e.degradation_answers port NotEstablished info action → e'.degradation_answers port NotEstablished info action

-- Memory may be refused in the one environment where it may be in the other, and the port's handler may answer so.
pub record AllowsUpdates (e e' : Environment) (port : ℕ) (handler : Handler DegradationAction) : Type 0 where
  pub memory : e.may_refuse_memory → e'.may_refuse_memory
  pub answers : AllowsDegradation e e' port handler

pub answers-alike : (e e' : Environment) (port : ℕ) (h : Handler DegradationAction) → AllowsDegradation e e' port h
    → (info : DegradationInfo) (action : DegradationAction) → DegradationAnswers e port h info action
    → DegradationAnswers e' port h info action
answers-alike e e' port (Fixed answer) allows info action h = h
answers-alike e e' port Custom allows info action h = allows info action h

module _ (e e' : Environment) where
  module _ (service_id p : ℕ) (handler : Handler DegradationAction) (allows : AllowsUpdates e e' p handler)
      (histories : ℕ → List ℕ) (buffers : ℕ → Option ℕ) (has_end : ℕ → Bool) where
    performs-alike : (action : SenderAction) (place : ℕ) (side side' : SenderSide) (failure : Option ConnectionFailure)
        → Performs e service_id p handler histories buffers has_end action place side side' failure
        → Performs e' service_id p handler histories buffers has_end action place side side' failure
    performs-alike Keep_end place side side' failure h = h
    performs-alike (Drop_waiting q) place side side' failure h = h
    performs-alike Disconnect place side side' failure h = h
    performs-alike (Connect q buffer) place side side' failure (inl h) = inl h
    performs-alike (Connect q buffer) place side side' failure (inr h) =
        inr (
          h.0,
          h.1,
          (h.2.0, allows.memory h.2.1, answers-alike e e' p handler allows.answers _ h.2.0 h.2.2, h.2.3, h.2.4),
          h.3,
        )

    place-alike : (place : ℕ) (at : Option ℕ) (side side' : SenderSide) (failure : Option ConnectionFailure)
        → UpdateSenderPlace e service_id p handler histories buffers has_end place at side side' failure
        → UpdateSenderPlace e' service_id p handler histories buffers has_end place at side side' failure
    place-alike place at side side' failure h =
        performs-alike (sender_action buffers at (occupant side.ends place)) place side side' failure h

  module _ {T U : Type 0} (s : State T U) (p : ℕ) (s' : State T U) (failure : Option ConnectionFailure)
      (allowed : (x : Publisher) → s.publishers p ≡ Some x → AllowsUpdates e e' p x.degradation_handler) where
    -- what becomes of the publisher where it is due
    abbrev Walks : Environment → Publisher → Type 0
    Walks environment x = (side : SenderSide)
        × ForEachPlace (UpdateSenderPlace environment (s.config).service_id p x.degradation_handler (history_for s p x)
        (receiving_buffer s) (has_receiver_end s p))
        0 s.subscriber_places (sender_side s p x) side failure
        × (s' ≡ sender_channels_reset (with_sender_side s p x side) p)

    -- a publisher's update in one environment is one in the other
    pub update-alike : UpdatePublisher e s p s' failure → UpdatePublisher e' s p s' failure
    update-alike h = by (s.publishers p) allowed h where
      due : (x : Publisher) → AllowsUpdates e e' p x.degradation_handler → (is_due : Bool)
          → MatchBool is_due (Walks e x) ((s' ≡ s) × (failure ≡ None))
          → MatchBool is_due (Walks e' x) ((s' ≡ s) × (failure ≡ None))
      due x allows true h = (
        h.0,
        each-place _ _ (place-alike (s.config).service_id p x.degradation_handler allows (history_for s p x)
            (receiving_buffer s) (has_receiver_end s p)) 0 s.subscriber_places (sender_side s p x) h.0 failure h.1,
        h.2,
      )
      due x allows false h = h

      by : (o : Option Publisher) → ((x : Publisher) → o ≡ Some x → AllowsUpdates e e' p x.degradation_handler)
          → MatchOption o ⊥ (λ x. MatchBool x.is_due (Walks e x) ((s' ≡ s) × (failure ≡ None)))
          → MatchOption o ⊥ (λ x. MatchBool x.is_due (Walks e' x) ((s' ≡ s) × (failure ≡ None)))
      by None allowed h = h
      by (Some x) allowed h = due x (allowed x refl) x.is_due h

  -- and what it comes to for the fields is the same
  pub updates-alike : {T U : Type 0} (f : Fields T U) (i : ℕ) (x : PublisherFields) (new : Fields T U)
      (failure : Option ConnectionFailure)
      → ((z : Publisher) → (state_of (kept_of f)).publishers x.id ≡ Some z
      → AllowsUpdates e e' x.id z.degradation_handler) → UpdatesKeptPublisher e f i x new failure
      → UpdatesKeptPublisher e' f i x new failure
  updates-alike f i x new failure allowed u = record {
    after = u.after;
    updates = update-alike (state_of (kept_of f)) x.id u.after failure allowed u.updates;
    reaches = u.reaches;
    keys = u.keys;
    key_room = u.key_room;
    fields = u.fields;
    others = u.others;
  }

-- where no port has a box there is nothing to answer
pub unboxed-updates : (e : Environment) → e.may_refuse_memory → (port : ℕ) (h : Handler DegradationAction)
    → AllowsUpdates fixed_handlers e port h
unboxed-updates e may port (Fixed answer) = record { memory = λ m. may; answers = tt }
unboxed-updates e may port Custom = record { memory = λ m. may; answers = λ info action no. absurd no }
