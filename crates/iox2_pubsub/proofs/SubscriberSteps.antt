-- A subscriber that is made, by its steps, where the update has to begin in a well-formed state.
use Rattle.std.proofs.Common.{◌≡◌, ◌<◌, ℕ, Option, None}
use Rattle.std.proofs.lemmas.Bool.{ltb-false}
use Rattle.iox2_machine.specs.declared.errors.ConnectionFailure.{ConnectionFailure}
use Rattle.iox2_machine.specs.declared.errors.SubscriberCreateError.{SubscriberCreateError}
use Rattle.iox2_machine.specs.declared.warning.Warning.{Warning}
use Rattle.iox2_machine.specs.declared.warning.Warning.TheVariants.{SubscriberPartlyConnected}
use Rattle.iox2_machine.specs.machine.Places.{occupant}
use Rattle.iox2_machine.specs.machine.Ports.{CreateSubscriber, with_new_subscriber}
use Rattle.iox2_machine.specs.machine.Records.{Environment, SubscriberSettings}
use Rattle.iox2_machine.specs.machine.State.{State, with_warning}
use Rattle.iox2_machine.specs.machine.SubscriberUpdate.{UpdateSubscriber}
use Rattle.iox2_machine.specs.machine.WellFormed.{IsWellFormed}
use Rattle.iox2_laws.proofs.CallCases.{subscriber_cases}
use Rattle.iox2_laws.proofs.OperationWalks.{IsPreorder, first_update_by_steps, unchanged}
use Rattle.iox2_laws.proofs.PlaceLemmas.{free_place_is}
use Rattle.iox2_laws.proofs.PortLaws.{new_subscriber_keeps}

module _ {T U : Type 0} (R : State T U → State T U → Type 0) (order : IsPreorder R) (environment : Environment)
    (s : State T U) (well : IsWellFormed s) (given : SubscriberSettings) where
  pub create-subscriber-by-steps : (s' : State T U) (refusal : Option SubscriberCreateError)
      → ((place : ℕ) → R s (with_new_subscriber s given place))
      → ((new t : State T U) (failure : Option ConnectionFailure) → IsWellFormed new
      → UpdateSubscriber environment new s.next_port t failure → R new t)
      → ((t : State T U) (w : Warning) → R t (with_warning t w)) → CreateSubscriber environment s given s' refusal
      → R s s'
  create-subscriber-by-steps s' refusal enters updates warns h =
      subscriber_cases environment s given s' (R s s') refusal h (λ e same _. unchanged R order s s' same)
      (λ place makes.
      let found : (place < (s.config).max_subscribers) × (occupant s.subscriber_places place ≡ None) =
      free_place_is (s.config).max_subscribers s.subscriber_places place makes.0 in
      let new : State T U = with_new_subscriber s given place in
      let begins : IsWellFormed new = new_subscriber_keeps s well given place (ltb-false _ _ makes.1) found.0 found.1 in
      order.trans s new s' (enters place)
      (first_update_by_steps R order new s' (UpdateSubscriber environment new s.next_port)
      (SubscriberPartlyConnected s.next_port) (λ t failure. updates new t failure begins) warns makes.3))
