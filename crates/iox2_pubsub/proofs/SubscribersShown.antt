-- The creation of a subscriber, seen from outside.
use Rattle.std.proofs.Common.{◌≡◌, ℕ, get_or, refl, ap, sym, subst, ◌∙◌}
use Rattle.std.specs.declared.option.Option.TheVariants.{None, Some}
use Rattle.std.proofs.lemmas.Option.{same_Some}
use Rattle.iox2_machine.specs.machine.Ports.{buffer_for, CreateSubscriber}
use Rattle.iox2_machine.specs.machine.Records.{SubscriberSettings, Environment, Subscriber as MachineSubscriber}
use Rattle.iox2_machine.specs.machine.State.{State, Messages}
use Rattle.iox2_machine.specs.declared.errors.SubscriberCreateError.{SubscriberCreateError}
use Rattle.iox2_domain.specs.Kept.{Kept, state_of}
use Rattle.iox2_domain.specs.Boxes.{DomainBoxes}
use Rattle.iox2_domain.specs.Fields.{Fields, kept_of, keeping}
use Rattle.iox2_pubsub.specs.Live.{HasItsBuffer, IsLiveSubscriber}
use Rattle.iox2_pubsub.specs.declared.subscriber.Subscriber.{Subscriber}
use Rattle.iox2_domain.specs.Ports.{SubscriberFields}
use Rattle.iox2_pubsub.proofs.LiveParts.{buffer-from, placed-subscriber-parts, subscriber-live}
use Rattle.iox2_pubsub.proofs.PlacedHandles.{subscriber-placed}
use Rattle.iox2_domain.specs.Reaches.{Reaches}
use Rattle.iox2_domain.specs.Shows.{Shows}
use Rattle.iox2_domain.proofs.lemmas.fields.ReachesShows.{reaches-shows-same}
use Rattle.iox2_steps.proofs.creations.SubscriberCreations.{create-keeps, create-open}

module _ {T U F G : Type 0} {boxes : DomainBoxes F G} (environment : Environment) (old new : Fields T U)
    (before : Kept T U F G) (is_before : keeping boxes old ≡ before) where
  was : (m : Messages T U) (s : State T U) → Shows before m s → Shows (kept_of old) m s
  was m s shown = subst (λ (kept : Kept T U F G). Shows kept m s) (sym is_before) shown

  module _ (asked given : SubscriberSettings) (is_given : asked ≡ given) where
    -- for every state that was shown, the one that is shown now has the subscriber
    pub made-shown : (s' : State T U) × CreateSubscriber environment (state_of (kept_of old)) asked s' None
        × Reaches old new s'
        → (id buffer : ℕ) → id ≡ old.next_port → buffer ≡ buffer_for asked → (m : Messages T U) (s : State T U)
        → Shows before m s
        → (s' : State T U) × Shows (kept_of new) m s'
        × (CreateSubscriber environment s given s' None × (id ≡ s.next_port) × (buffer ≡ buffer_for given))
    made-shown made id buffer is_id is_buffer m s shown =
        let same : s ≡ state_of (kept_of old) = (was m s shown).state in
        let keeps = create-keeps environment (state_of (kept_of old)) asked made.0 None made.1 in (
          made.0,
          reaches-shows-same old new m s made.0 (was m s shown) made.2
              (keeps.next_message ∙ ap (λ (t : State T U). t.next_message) (sym same))
              (keeps.loans ∙ ap (λ (t : State T U). t.loans) (sym same)),
          (
            subst (λ (t : State T U). CreateSubscriber environment t given made.0 None) (sym same)
                (subst (λ (settings : SubscriberSettings).
                CreateSubscriber environment (state_of (kept_of old)) settings made.0 None) is_given made.1),
            is_id ∙ ap (λ (t : State T U). t.next_port) (sym same),
            is_buffer ∙ ap buffer_for is_given,
          ),
        )

    -- a refusal leaves what was shown
    pub refused-shown : (e : SubscriberCreateError)
        → CreateSubscriber environment (state_of (kept_of old)) asked (state_of (kept_of old)) (Some e) × (new ≡ old)
        → (m : Messages T U) (s : State T U) → Shows before m s
        → (s' : State T U) × Shows (kept_of new) m s' × CreateSubscriber environment s given s' (Some e)
    refused-shown e refused m s shown =
        let same : s ≡ state_of (kept_of old) = (was m s shown).state in (
          s,
          subst (λ (f : Fields T U). Shows (kept_of f) m s) (sym refused.1) (was m s shown),
          subst (λ (t : State T U). CreateSubscriber environment t given t (Some e)) (sym same)
              (subst (λ (settings : SubscriberSettings). CreateSubscriber environment (state_of (kept_of old)) settings
              (state_of (kept_of old)) (Some e)) is_given refused.0),
        )

module _ {T U : Type 0} (environment : Environment) (old new : Fields T U) (asked : SubscriberSettings) where
  -- the domain has the new subscriber
  pub made-live : {F G : Type 0} (boxes : DomainBoxes F G)
      → (s' : State T U) × CreateSubscriber environment (state_of (kept_of old)) asked s' None × Reaches old new s'
      → (subscriber : Subscriber) → subscriber.service_id ≡ (old.config).service_id → subscriber.id ≡ old.next_port
      → (y : SubscriberFields) × (get_or new.subscribers subscriber.place None ≡ Some y) × (y.id ≡ subscriber.id)
      → IsLiveSubscriber (keeping boxes new) subscriber
  made-live boxes made subscriber is_service is_id at =
      let keeps = create-keeps environment (state_of (kept_of old)) asked made.0 None made.1 in
      let has = create-open environment (state_of (kept_of old)) asked made.0 made.1 in
      record {
        there = subscriber-live (keeping boxes new) _ (
          refl,
          is_service
              ∙ sym (ap (λ (s : State T U). (s.config).service_id) made.2.state ∙ ap (λ c. c.service_id) keeps.config),
          (
            has.port,
            ap (λ (s : State T U). s.subscribers subscriber.id) made.2.state ∙ ap made.0.subscribers is_id
                ∙ has.stands,
            has.is_open,
          ),
        );
        placed = subscriber-placed boxes new made.2.agrees subscriber at;
      }

  -- and its handle says the buffer that it has
  pub made-buffer : {F G : Type 0} (boxes : DomainBoxes F G)
      → (s' : State T U) × CreateSubscriber environment (state_of (kept_of old)) asked s' None × Reaches old new s'
      → (subscriber : Subscriber) → subscriber.id ≡ old.next_port → subscriber.buffer_size ≡ buffer_for asked
      → IsLiveSubscriber (keeping boxes new) subscriber
      → HasItsBuffer (keeping boxes new) subscriber
  made-buffer boxes made subscriber is_id is_size live =
      let has = create-open environment (state_of (kept_of old)) asked made.0 made.1 in
      let there =
      ap (λ (s : State T U). s.subscribers subscriber.id) made.2.state ∙ ap made.0.subscribers is_id ∙ has.stands in
      buffer-from (keeping boxes new) subscriber (
        (placed-subscriber-parts (keeping boxes new) subscriber live.placed).0,
        λ y at. ap (λ (z : MachineSubscriber). z.buffer) (same_Some y has.port (sym at ∙ there)) ∙ has.has_buffer
            ∙ sym is_size,
      )
