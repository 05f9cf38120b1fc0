-- Who awaits whose update, in the words of `Live`.
use Rattle.std.proofs.Common.{◌≡◌, ℕ, ◌<◌, false, sym, ap, subst, ◌∙◌, Option, None}
use Rattle.iox2_machine.specs.machine.Channel.{is_closed}
use Rattle.iox2_machine.specs.machine.Limits.{refusal_limit}
use Rattle.iox2_machine.specs.machine.Ports.{CreateSubscriber}
use Rattle.iox2_machine.specs.machine.PublisherUpdate.{UpdatePublisher}
use Rattle.iox2_machine.specs.machine.Records.{Environment, SubscriberSettings}
use Rattle.iox2_machine.specs.machine.State.{State, Messages}
use Rattle.iox2_machine.specs.declared.errors.ConnectionFailure.{ConnectionFailure}
use Rattle.iox2_domain.specs.Kept.{Kept, state_of}
use Rattle.iox2_domain.specs.Shows.{Shows}
use Rattle.iox2_pubsub.specs.ConnectedPorts.{Awaits}
use Rattle.iox2_pubsub.specs.Live.{Connected, IsAwaited, IsPublisherKey, NoneRefused, publisher_key}
use Rattle.iox2_pubsub.specs.declared.publisher.Publisher.{Publisher}
use Rattle.iox2_pubsub.specs.declared.subscriber.Subscriber.{Subscriber}
use Rattle.iox2_pubsub.proofs.LiveParts.{publisher-parts}
use Rattle.iox2_pubsub.proofs.SubscribersMade.{awaited-connects, create-subscriber-awaits, others-await}
use Rattle.iox2_pubsub.proofs.UpToDateShown.{connected}

module _ {T U F G : Type 0} (kept : Kept T U F G) (m : Messages T U) (s : State T U) (shown : Shows kept m s) (p : ℕ)
    (subscriber : Subscriber) where
  awaited-in : IsAwaited kept p subscriber → Awaits s p subscriber.id
  unfolding IsAwaited
  awaited-in is = subst (λ (t : State T U). Awaits t p subscriber.id) (sym shown.state) is

  awaited : Awaits s p subscriber.id → IsAwaited kept p subscriber
  unfolding IsAwaited
  awaited is = subst (λ (t : State T U). Awaits t p subscriber.id) shown.state is

module _ {T U F G : Type 0} (old new : Kept T U F G) (m m' : Messages T U) (s s' : State T U) (shown : Shows old m s)
    (shown' : Shows new m' s') (environment : Environment) where
  -- the counts are those of the states
  low : NoneRefused old new → (s.warnings).refused_connections < refusal_limit
  low none = subst (λ (t : State T U). (t.warnings).refused_connections < refusal_limit) (sym shown.state) none.1

  same-refusals : NoneRefused old new → (s'.warnings).refused_connections ≡ (s.warnings).refused_connections
  same-refusals none = ap (λ (t : State T U). (t.warnings).refused_connections) shown'.state ∙ none.0
      ∙ sym (ap (λ (t : State T U). (t.warnings).refused_connections) shown.state)

  -- a subscriber that was made awaits each publisher that was there
  pub made-awaits : (given : SubscriberSettings) → CreateSubscriber environment s given s' None
      → (subscriber : Subscriber) → subscriber.id ≡ s.next_port
      → ((p : ℕ) → is_closed ((state_of old).channels p (state_of old).next_port 0) ≡ false) → NoneRefused old new
      → (publisher : Publisher) → IsPublisherKey old (publisher_key publisher) → IsAwaited new publisher.id subscriber
  made-awaits given h subscriber its takes none publisher there =
      let has = (publisher-parts old (publisher_key publisher) there).2 in
      awaited new m' s' shown' publisher.id subscriber
      (subst (Awaits s' publisher.id) (sym its)
      (create-subscriber-awaits environment s shown.well_formed given s' h (low none)
      (same-refusals none) publisher.id has.0 (ap (λ (t : State T U). t.publishers publisher.id) shown.state ∙ has.1)
      (subst (λ (t : State T U). is_closed (t.channels publisher.id t.next_port 0) ≡ false) (sym shown.state)
      (takes publisher.id))))

  -- a publisher's update connects it with whom awaits it
  pub update-connected : (p : ℕ) (failure : Option ConnectionFailure) → UpdatePublisher environment s p s' failure
      → Connected p old new
  update-connected p failure h = record {
    awaited = λ subscriber is none.
        connected new m' s' shown' p subscriber
        (awaited-connects environment s p s' failure shown.well_formed h (low none) (same-refusals none) subscriber.id
        (awaited-in old m s shown p subscriber is));
    others = λ other subscriber away is.
        awaited new m' s' shown' other subscriber
        (others-await environment s p s' failure h other subscriber.id away
        (awaited-in old m s shown other subscriber is));
  }
