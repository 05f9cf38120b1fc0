-- What the creation of a subscriber leaves as it was, and the subscriber that it makes.
use Rattle.std.proofs.Common.{◌≡◌, ℕ, ◌==◌, Bool, true, false, nat_lt, refl, ap, subst, ◌∙◌, MatchOption}
use Rattle.std.proofs.lemmas.Bool.{eq-eqb}
use Rattle.std.specs.Bool.{MatchBool}
use Rattle.std.specs.declared.option.Option.{Option}
use Rattle.std.specs.declared.option.Option.TheVariants.{None, Some}
use Rattle.iox2_machine.specs.machine.Limits.{buffer_limit, expired_limit, last_number}
use Rattle.iox2_machine.specs.machine.Numbers.{put_at}
use Rattle.iox2_machine.specs.machine.Places.{free_place}
use Rattle.iox2_machine.specs.machine.Ports.{buffer_for, new_subscriber, with_new_subscriber, with_failure_warning}
use Rattle.iox2_machine.specs.machine.Ports.{CreateSubscriber, MakeSubscriber, FirstSubscriberUpdate}
use Rattle.iox2_machine.specs.machine.Records.{Subscriber, SubscriberSettings, Environment}
use Rattle.iox2_machine.specs.machine.State.{State, has_sender_end, receiver_channels_reset}
use Rattle.iox2_machine.specs.machine.SubscriberUpdate.{ReceiverSide, UpdateSubscriber, UpdateReceiverSide}
use Rattle.iox2_machine.specs.machine.SubscriberUpdate.{receiver_side, with_receiver_side}
use Rattle.iox2_machine.specs.declared.errors.ConnectionFailure.{ConnectionFailure}
use Rattle.iox2_machine.specs.declared.errors.SubscriberCreateError.{SubscriberCreateError}
use Rattle.iox2_machine.specs.declared.errors.SubscriberCreateError.TheVariants.{UnableToCreatePortTag}
use Rattle.iox2_machine.specs.declared.errors.SubscriberCreateError.TheVariants.{BufferSizeExceedsMaxSupportedBufferSizeOfService}
use Rattle.iox2_machine.specs.declared.errors.SubscriberCreateError.TheVariants.{ExceedsMaxSupportedSubscribers}
use Rattle.iox2_machine.specs.declared.warning.Warning.{Warning}
use Rattle.iox2_machine.specs.declared.warning.Warning.TheVariants.{SubscriberPartlyConnected}

-- settings, numbers of messages and loans stay
pub record KeepsLoans {T U : Type 0} (s s' : State T U) : Type 0 where
  pub config : s'.config ≡ s.config
  pub next_message : s'.next_message ≡ s.next_message
  pub loans : s'.loans ≡ s.loans

-- there is an open subscriber with that id and that buffer
pub record HasOpenSubscriber {T U : Type 0} (s : State T U) (q buffer : ℕ) : Type 0 where
  pub port : Subscriber
  pub stands : s.subscribers q ≡ Some port
  pub is_open : port.is_open ≡ true
  pub has_buffer : port.buffer ≡ buffer

put-here : (all : ℕ → Option Subscriber) (q : ℕ) (y : Subscriber) → put_at all q (Some y) q ≡ Some y
put-here all q y = rw (eq-eqb q q refl) refl

module _ {T U : Type 0} where
  pub same : (s s' : State T U) → s' ≡ s → KeepsLoans s s'
  same s s' e = record {
    config = ap (λ (u : State T U). u.config) e;
    next_message = ap (λ (u : State T U). u.next_message) e;
    loans = ap (λ (u : State T U). u.loans) e;
  }

  pub joined : (s t u : State T U) → KeepsLoans s t → KeepsLoans t u → KeepsLoans s u
  joined s t u first next = record {
    config = next.config ∙ first.config;
    next_message = next.next_message ∙ first.next_message;
    loans = next.loans ∙ first.loans;
  }

  pub warned-keeps : (s : State T U) (warning : ConnectionFailure → Warning) (failure : Option ConnectionFailure)
      → KeepsLoans s (with_failure_warning s warning failure)
  warned-keeps s warning None = record { config = refl; next_message = refl; loans = refl }
  warned-keeps s warning (Some failure) = record { config = refl; next_message = refl; loans = refl }

  warned-subscribers : (s : State T U) (warning : ConnectionFailure → Warning) (failure : Option ConnectionFailure)
      → (with_failure_warning s warning failure).subscribers ≡ s.subscribers
  warned-subscribers s warning None = refl
  warned-subscribers s warning (Some failure) = refl

module _ {T U : Type 0} (environment : Environment) where
  -- the update of a subscriber that is due
  abbrev UpdateDue : State T U → (q : ℕ) → Subscriber → State T U → Option ConnectionFailure → Type 0
  UpdateDue s q y s' failure =
      (side : ReceiverSide)
      × UpdateReceiverSide environment (s.config).service_id q y.degradation_handler (expired_limit s.config)
      (λ p. has_sender_end s p q)
      s.publisher_places (receiver_side s q y) side failure
      × (s' ≡ receiver_channels_reset (with_receiver_side s q y side) q)

  -- an update keeps them
  pub update-keeps : (s s' : State T U) (q : ℕ) (failure : Option ConnectionFailure)
      → UpdateSubscriber environment s q s' failure → KeepsLoans s s'
  update-keeps s s' q failure = by (s.subscribers q) where
    at : (y : Subscriber) (b : Bool) → MatchBool b (UpdateDue s q y s' failure) ((s' ≡ s) × (failure ≡ None))
        → KeepsLoans s s'
    at y true h = joined s (receiver_channels_reset (with_receiver_side s q y h.0) q) s'
        (record { config = refl; next_message = refl; loans = refl })
        (same (receiver_channels_reset (with_receiver_side s q y h.0) q) s' h.2)
    at y false h = same s s' h.0

    by : (o : Option Subscriber) → MatchOption o ⊥
        (λ y. MatchBool y.is_due (UpdateDue s q y s' failure) ((s' ≡ s) × (failure ≡ None))) → KeepsLoans s s'
    by None h = absurd h
    by (Some y) h = at y y.is_due h

  -- an update leaves the subscriber open, with its buffer
  update-open : (s s' : State T U) (q buffer : ℕ) (failure : Option ConnectionFailure) → HasOpenSubscriber s q buffer
      → UpdateSubscriber environment s q s' failure → HasOpenSubscriber s' q buffer
  update-open s s' q buffer failure has h =
      at has.port.is_due
      (subst (λ (o : Option Subscriber). MatchOption o ⊥
      (λ y. MatchBool y.is_due (UpdateDue s q y s' failure) ((s' ≡ s) × (failure ≡ None)))) has.stands h) where
        at : (b : Bool) → MatchBool b (UpdateDue s q has.port s' failure) ((s' ≡ s) × (failure ≡ None))
            → HasOpenSubscriber s' q buffer
        at true u = record {
          port = record has.port { ends = u.0.ends; expired = u.0.expired; is_due = u.0.is_due };
          stands = ap (λ (t : State T U). t.subscribers q) u.2
              ∙ put-here s.subscribers q
              (record has.port { ends = u.0.ends; expired = u.0.expired; is_due = u.0.is_due });
          is_open = has.is_open;
          has_buffer = has.has_buffer;
        }
        at false u = record {
          port = has.port;
          stands = ap (λ (t : State T U). t.subscribers q) u.0 ∙ has.stands;
          is_open = has.is_open;
          has_buffer = has.has_buffer;
        }

  -- so does a first update
  first-keeps : (s s' : State T U) (q : ℕ) → FirstSubscriberUpdate environment s q s' → KeepsLoans s s'
  first-keeps s s' q h =
      joined s (with_failure_warning h.0 (SubscriberPartlyConnected q) h.1) s'
      (joined s h.0 (with_failure_warning h.0 (SubscriberPartlyConnected q) h.1) (update-keeps s h.0 q h.1 h.2)
      (warned-keeps h.0 (SubscriberPartlyConnected q) h.1))
      (same (with_failure_warning h.0 (SubscriberPartlyConnected q) h.1) s' h.3)

  first-open : (s s' : State T U) (q buffer : ℕ) → HasOpenSubscriber s q buffer
      → FirstSubscriberUpdate environment s q s' → HasOpenSubscriber s' q buffer
  first-open s s' q buffer has h =
      let mid = update-open s h.0 q buffer h.1 has h.2 in
      record {
        port = mid.port;
        stands = ap (λ (t : State T U). t.subscribers q) h.3
            ∙ ap (λ all. all q) (warned-subscribers h.0 (SubscriberPartlyConnected q) h.1) ∙ mid.stands;
        is_open = mid.is_open;
        has_buffer = mid.has_buffer;
      }

  module _ (s : State T U) (given : SubscriberSettings) (s' : State T U) where
    make-keeps : (place : ℕ) (refusal : Option SubscriberCreateError)
        → MakeSubscriber environment s given place s' refusal → KeepsLoans s s'
    make-keeps place None h = joined s (with_new_subscriber s given place) s'
        (record { config = refl; next_message = refl; loans = refl })
        (first-keeps (with_new_subscriber s given place) s' s.next_port h)
    make-keeps place (Some e) h = same s s' h.1

    make-open : (place : ℕ) → MakeSubscriber environment s given place s' None
        → HasOpenSubscriber s' s.next_port (buffer_for given)
    make-open place h = first-open (with_new_subscriber s given place) s' s.next_port (buffer_for given)
        (record {
          port = new_subscriber given place;
          stands = put-here s.subscribers s.next_port
              (new_subscriber given place);
          is_open = refl;
          has_buffer = refl;
        }) h

    abbrev Created : (a b : Bool) (place : Option ℕ) → Option SubscriberCreateError → Type 0
    Created a b place refusal =
        MatchBool a ((s' ≡ s) × (refusal ≡ Some UnableToCreatePortTag))
        (MatchBool b ((s' ≡ s) × (refusal ≡ Some BufferSizeExceedsMaxSupportedBufferSizeOfService))
        (MatchOption place ((s' ≡ s) × (refusal ≡ Some ExceedsMaxSupportedSubscribers))
        (λ at. MakeSubscriber environment s given at s' refusal)))

    pub create-keeps : (refusal : Option SubscriberCreateError) → CreateSubscriber environment s given s' refusal
        → KeepsLoans s s'
    create-keeps refusal = by (s.next_port == last_number) (nat_lt (buffer_limit s.config) (buffer_for given))
        (free_place (s.config).max_subscribers s.subscriber_places) where
          by : (a b : Bool) (place : Option ℕ) → Created a b place refusal → KeepsLoans s s'
          by true b place h = same s s' h.0
          by false true place h = same s s' h.0
          by false false None h = same s s' h.0
          by false false (Some place) h = make-keeps place refusal h

    pub create-open : CreateSubscriber environment s given s' None → HasOpenSubscriber s' s.next_port (buffer_for given)
    create-open = by (s.next_port == last_number) (nat_lt (buffer_limit s.config) (buffer_for given))
        (free_place (s.config).max_subscribers s.subscriber_places) where
          by : (a b : Bool) (place : Option ℕ) → Created a b place None
              → HasOpenSubscriber s' s.next_port (buffer_for given)
          by true b place h = absurd (let no = h.1 in cc)
          by false true place h = absurd (let no = h.1 in cc)
          by false false None h = absurd (let no = h.1 in cc)
          by false false (Some place) h = make-open place h
