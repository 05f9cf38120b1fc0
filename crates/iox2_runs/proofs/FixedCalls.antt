-- Calls on ports without boxes, where other ports may have some: they are calls where no port has one.
use Rattle.std.proofs.Common.{◌≡◌, ℕ, Bool, sym, subst, Option, None, Some, Result, Ok, Err}
use Rattle.std.specs.Prelude.{MatchResult}
use Rattle.iox2_machine.specs.machine.Environments.{fixed_handlers}
use Rattle.iox2_machine.specs.machine.Ports.{CreatePublisher, CreateSubscriber}
use Rattle.iox2_machine.specs.machine.PublisherUpdate.{UpdatePublisher}
use Rattle.iox2_machine.specs.machine.Receives.{HasSamples, Receive, ReceiveResult}
use Rattle.iox2_machine.specs.machine.Records.{Custom, Environment, PublisherSettings, Subscriber, SubscriberSettings}
use Rattle.iox2_machine.specs.machine.State.{State, Messages}
use Rattle.iox2_machine.specs.machine.SubscriberUpdate.{UpdateSubscriber}
use Rattle.iox2_machine.specs.declared.errors.ConnectionFailure.{ConnectionFailure}
use Rattle.iox2_machine.specs.declared.errors.PublisherCreateError.{PublisherCreateError}
use Rattle.iox2_machine.specs.declared.errors.SubscriberCreateError.{SubscriberCreateError}
use Rattle.iox2_domain.specs.Kept.{Kept as Domain, state_of}
use Rattle.iox2_domain.specs.Shows.{Shows}
use Rattle.iox2_steps.proofs.updates.AnyBoxes.{AllowsUpdates, update-alike}
use Rattle.iox2_steps.proofs.updates.AnySubscriberBoxes.{create_publisher-alike, create_subscriber-alike}
use Rattle.iox2_steps.proofs.updates.AnySubscriberBoxes.{has_samples-alike, receive-alike, update-subscriber-alike}
use Rattle.iox2_runs.specs.Tables.{HasNoBox, HasNoReceiverBox}
use Rattle.iox2_runs.proofs.FixedSends.{calm}

module _ {T U F G : Type 0} (environment : Environment) (old new : Domain T U F G) where
  module _ (q : ℕ) (none : HasNoReceiverBox (state_of old) q) where
    calmly : (m : Messages T U) (s : State T U) → Shows old m s → (y : Subscriber) → s.subscribers q ≡ Some y
        → AllowsUpdates environment fixed_handlers q y.degradation_handler
    calmly m s shown y there = calm environment q y.degradation_handler
        (subst (λ (t : State T U). HasNoReceiverBox t q) (sym shown.state) none y there)

    -- an update of a subscriber without a box
    pub subscriber_updated : (failure : Option ConnectionFailure)
        → ((m : Messages T U) (s : State T U) → Shows old m s
        → (s' : State T U) × Shows new m s' × UpdateSubscriber environment s q s' failure)
        → (m : Messages T U) (s : State T U) → Shows old m s
        → (s' : State T U) × Shows new m s' × UpdateSubscriber fixed_handlers s q s' failure
    subscriber_updated failure updates m s shown =
        let got = updates m s shown in (
          got.0,
          got.1,
          update-subscriber-alike environment fixed_handlers s q got.0 failure (calmly m s shown) got.2,
        )

    -- what it receives
    pub received : (result : ReceiveResult)
        → ((m : Messages T U) (s : State T U) → Shows old m s
        → (s' : State T U) × Shows new m s' × Receive environment s q s' result)
        → (m : Messages T U) (s : State T U) → Shows old m s
        → (s' : State T U) × Shows new m s' × Receive fixed_handlers s q s' result
    received result receives m s shown =
        let got = receives m s shown in
        (got.0, got.1, receive-alike environment fixed_handlers s q (calmly m s shown) got.0 result got.2)

    -- what it answers
    pub asked : (m : Messages T U) (s : State T U) → Shows old m s
        → (s' : State T U) (failure : Option ConnectionFailure) (waits : Bool)
        → HasSamples environment s q s' failure waits → HasSamples fixed_handlers s q s' failure waits
    asked m s shown s' failure waits has =
        has_samples-alike environment fixed_handlers s q (calmly m s shown) s' failure waits has

  -- an update of a publisher without a box
  pub publisher_updated : (p : ℕ) → HasNoBox (state_of old) p → (failure : Option ConnectionFailure)
      → ((m : Messages T U) (s : State T U) → Shows old m s
      → (s' : State T U) × Shows new m s' × UpdatePublisher environment s p s' failure)
      → (m : Messages T U) (s : State T U) → Shows old m s
      → (s' : State T U) × Shows new m s' × UpdatePublisher fixed_handlers s p s' failure
  publisher_updated p none failure updates m s shown =
      let got = updates m s shown in (
        got.0,
        got.1,
        update-alike environment fixed_handlers s p got.0 failure
            (λ x there. calm environment p x.degradation_handler
            (subst (λ (t : State T U). HasNoBox t p) (sym shown.state) none x there).1) got.2,
      )

module _ {T U : Type 0} (environment : Environment) (s : State T U) where
  -- a publisher without a box is made
  pub publisher_created : (given : PublisherSettings) → (given.degradation_handler ≡ Custom → ⊥)
      → (s' : State T U) (refusal : Option PublisherCreateError)
      → CreatePublisher environment s given s' refusal → CreatePublisher fixed_handlers s given s' refusal
  publisher_created given none s' refusal creates = create_publisher-alike environment fixed_handlers s given s' refusal
      (calm environment s.next_port given.degradation_handler none) creates

  -- and a subscriber
  pub subscriber_created : (given : SubscriberSettings) → (given.degradation_handler ≡ Custom → ⊥)
      → (s' : State T U) (refusal : Option SubscriberCreateError)
      → CreateSubscriber environment s given s' refusal → CreateSubscriber fixed_handlers s given s' refusal
  subscriber_created given none s' refusal creates =
      create_subscriber-alike environment fixed_handlers s given s' refusal
      (calm environment s.next_port given.degradation_handler none) creates

-- what comes of the creation of a publisher without a box
pub creation_told : {T U P : Type 0} (environment : Environment) (s : State T U) (given : PublisherSettings)
    → (given.degradation_handler ≡ Custom → ⊥)
    → (Named : P → Type 0) (s' : State T U) (result : Result P PublisherCreateError)
    → MatchResult result (λ made. Named made × CreatePublisher environment s given s' None)
    (λ e. CreatePublisher environment s given s' (Some e))
    → MatchResult result (λ made. Named made × CreatePublisher fixed_handlers s given s' None)
    (λ e. CreatePublisher fixed_handlers s given s' (Some e))
creation_told environment s given none Named s' (Ok made) told =
    (told.0, publisher_created environment s given none s' None told.1)
creation_told environment s given none Named s' (Err e) told =
    publisher_created environment s given none s' (Some e) told
