-- The creation of a publisher, seen from outside.
use Rattle.std.proofs.Common.{◌≡◌, ◌<◌, get_or, true, false, inl, inr, refl, ap, sym, subst, ◌∙◌}
use Rattle.std.proofs.lemmas.Option.{same_Some}
use Rattle.std.specs.declared.option.Option.{Option}
use Rattle.std.specs.declared.option.Option.TheVariants.{None, Some}
use Rattle.iox2_machine.specs.machine.Ports.{CreatePublisher}
use Rattle.iox2_machine.specs.machine.Records.{Environment, Publisher as Record, PublisherSettings}
use Rattle.iox2_machine.specs.machine.SingleCalls.{HoldsPublisher}
use Rattle.iox2_machine.specs.machine.State.{State, Messages}
use Rattle.iox2_machine.specs.declared.errors.PublisherCreateError.{PublisherCreateError}
use Rattle.iox2_machine.specs.declared.service_config.ServiceConfig.{ServiceConfig}
use Rattle.iox2_laws.proofs.SendsRemain.{created_as}
use Rattle.iox2_domain.specs.Handlers.{may_fail, may_fail_update}
use Rattle.iox2_domain.specs.Kept.{Kept, state_of}
use Rattle.iox2_domain.specs.Boxes.{DomainBoxes}
use Rattle.iox2_domain.specs.Fields.{Fields, kept_of, keeping}
use Rattle.iox2_pubsub.specs.Handlers.{may_wait}
use Rattle.iox2_pubsub.specs.Live.{IsReadyPublisher, NeverFails, NeverWaits, publisher_key}
use Rattle.iox2_pubsub.specs.declared.publisher.Publisher.{Publisher}
use Rattle.iox2_domain.specs.Ports.{PublisherFields}
use Rattle.iox2_pubsub.proofs.PlacedHandles.{publisher-placed}
use Rattle.iox2_pubsub.proofs.LiveParts.{publisher-live, unblocked-free, unfailed-from, passes-from}
use Rattle.iox2_pubsub.proofs.UnfailedSends.{HasNotFailed}
use Rattle.iox2_domain.specs.Reaches.{Reaches}
use Rattle.iox2_domain.specs.Shows.{Shows}
use Rattle.iox2_domain.proofs.lemmas.fields.ReachesShows.{reaches-shows-same}
use Rattle.iox2_steps.proofs.creations.PublisherCreations.{create-keeps, create-holds}

module _ {T U : Type 0} (f g : Fields T U) (given : PublisherSettings) (environment : Environment) where
  -- a domain that shows a state shows the one that a creation comes to
  pub created-shows : {F G : Type 0} {boxes : DomainBoxes F G} (kept : Kept T U F G) → keeping boxes f ≡ kept
      → (m : Messages T U) (s t : State T U) (refusal : Option PublisherCreateError) → Shows kept m s
      → CreatePublisher environment (state_of (kept_of f)) given t refusal → Reaches f g t
      → Shows (kept_of g) m t × CreatePublisher environment s given t refusal
  created-shows {F} {G} {boxes} kept view m s t refusal shows made reached =
      let shown : Shows (kept_of f) m s = subst (λ (k : Kept T U F G). Shows k m s) (sym view) shows in
      let keeps = create-keeps environment (state_of (kept_of f)) given t refusal made in (
        reaches-shows-same f g m s t shown reached
            (keeps.next_message ∙ sym (ap (λ (u : State T U). u.next_message) shown.state))
            (keeps.loans ∙ sym (ap (λ (u : State T U). u.loans) shown.state)),
        subst (λ (u : State T U). CreatePublisher environment u given t refusal) (sym shown.state) made,
      )

  -- the publisher that was made stands so
  created-stands : (t : State T U) → CreatePublisher environment (state_of (kept_of f)) given t None → Reaches f g t
      → (publisher : Publisher) → publisher.id ≡ f.next_port
      → (publisher.id < (state_of (kept_of g)).next_port)
      × ((x : Record) → (state_of (kept_of g)).publishers publisher.id ≡ Some x
      → (x.backpressure_strategy ≡ given.backpressure_strategy) × (x.backpressure_handler ≡ given.backpressure_handler)
      × (x.blocked ≡ None) × (x.degradation_handler ≡ given.degradation_handler))
  created-stands t made reached publisher id =
      let new = created_as environment (state_of (kept_of f)) given t made in
      let at : (state_of (kept_of g)).publishers publisher.id ≡ Some new.0 =
      ap (state_of (kept_of g)).publishers id ∙ ap (λ (u : State T U). u.publishers f.next_port) reached.state
      ∙ new.1 in
      let one : (x : Record) → (state_of (kept_of g)).publishers publisher.id ≡ Some x → x ≡ new.0 =
      λ x here. same_Some x new.0 (sym here ∙ at) in (
        (reached.agrees.well_formed.publishers publisher.id new.0 at).is_known,
        λ x here. (
          ap (λ (y : Record). y.backpressure_strategy) (one x here) ∙ new.2,
          ap (λ (y : Record). y.backpressure_handler) (one x here) ∙ new.3,
          ap (λ (y : Record). y.blocked) (one x here) ∙ new.4,
          ap (λ (y : Record). y.degradation_handler) (one x here) ∙ new.5,
        ),
      )

  -- it is ready
  pub created-ready : {F G : Type 0} {boxes : DomainBoxes F G} (t : State T U)
      → CreatePublisher environment (state_of (kept_of f)) given t None → Reaches f g t
      → (publisher : Publisher) → publisher.service_id ≡ (f.config).service_id → publisher.id ≡ f.next_port
      → (x : PublisherFields) × (get_or g.publishers publisher.place None ≡ Some x) × (x.id ≡ publisher.id)
      → IsReadyPublisher (keeping boxes g) publisher
  created-ready {F} {G} {boxes} t made reached publisher service id at =
      let keeps = create-keeps environment (state_of (kept_of f)) given t None made in
      let stands = created-stands t made reached publisher id in
      record {
        there = publisher-live (keeping boxes g) _ (
          refl,
          service ∙ ap (λ (c : ServiceConfig). c.service_id)
              (sym (ap (λ (u : State T U). u.config) reached.state ∙ keeps.config)),
          subst (HoldsPublisher (state_of (kept_of g))) (sym id)
              (subst (λ (u : State T U). HoldsPublisher u f.next_port) (sym reached.state)
              (create-holds environment (state_of (kept_of f)) given t made)),
        );
        placed = publisher-placed boxes g reached.agrees publisher at;
        unblocked = unblocked-free (keeping boxes g) _ (stands.0, λ x here. (stands.1 x here).2);
      }

  -- no handler has failed a send of it that is blocked, since none is
  unwaiting : (t : State T U) → CreatePublisher environment (state_of (kept_of f)) given t None → Reaches f g t
      → (publisher : Publisher) → publisher.id ≡ f.next_port → HasNotFailed (state_of (kept_of g)) publisher.id
  unwaiting t made reached publisher id = λ x b here waits.
      let stands = created-stands t made reached publisher id in
      absurd (let no : None ≡ Some b = sym ((stands.1 x here).2) ∙ waits in cc)

  -- no handler fails a send of it
  pub created-never-fails : {F G : Type 0} (boxes : DomainBoxes F G) (t : State T U)
      → CreatePublisher environment (state_of (kept_of f)) given t None → Reaches f g t
      → (publisher : Publisher) → publisher.id ≡ f.next_port → may_fail given.backpressure_handler ≡ false
      → may_fail_update given.degradation_handler ≡ false → NeverFails (keeping boxes g) publisher.id
  created-never-fails boxes t made reached publisher id none calm =
      let stands = created-stands t made reached publisher id in
      unfailed-from (keeping boxes g) _ (
        stands.0,
        inr (λ x here. ap may_fail (stands.1 x here).1 ∙ none),
        unwaiting t made reached publisher id,
        λ x here. ap may_fail_update (stands.1 x here).3 ∙ calm,
      )

  -- and it never waits where it waits for no full receiver
  pub created-never-waits : {F G : Type 0} {boxes : DomainBoxes F G} (t : State T U)
      → CreatePublisher environment (state_of (kept_of f)) given t None → Reaches f g t
      → (publisher : Publisher) → publisher.id ≡ f.next_port
      → may_wait given.backpressure_strategy given.backpressure_handler ≡ false
      → may_fail given.backpressure_handler ≡ false → may_fail_update given.degradation_handler ≡ false
      → NeverWaits (keeping boxes g) (publisher_key publisher)
  created-never-waits {F} {G} {boxes} t made reached publisher id past none calm =
      let stands = created-stands t made reached publisher id in
      record {
        passes = passes-from (keeping boxes g) _
            (stands.0, inr (λ x here. (λ i. may_wait ((stands.1 x here).0 i) ((stands.1 x here).1 i)) ∙ past));
        unblocked = unblocked-free (keeping boxes g) _ (stands.0, λ x here. (stands.1 x here).2);
        never_fails = created-never-fails boxes t made reached publisher id none calm;
      }

  -- nor where the service overflows
  pub created-overflows : {F G : Type 0} {boxes : DomainBoxes F G} (t : State T U)
      → CreatePublisher environment (state_of (kept_of f)) given t None → Reaches f g t
      → (publisher : Publisher) → publisher.id ≡ f.next_port → (f.config).enable_safe_overflow ≡ true
      → may_fail_update given.degradation_handler ≡ false → NeverWaits (keeping boxes g) (publisher_key publisher)
  created-overflows {F} {G} {boxes} t made reached publisher id over calm =
      let stands = created-stands t made reached publisher id in
      let keeps = create-keeps environment (state_of (kept_of f)) given t None made in
      let still : (g.config).enable_safe_overflow ≡ true =
      ap (λ (c : ServiceConfig). c.enable_safe_overflow) (ap (λ (u : State T U). u.config) reached.state ∙ keeps.config)
      ∙ over in
      record {
        passes = passes-from (keeping boxes g) _ (stands.0, inl still);
        unblocked = unblocked-free (keeping boxes g) _ (stands.0, λ x here. (stands.1 x here).2);
        never_fails = unfailed-from (keeping boxes g) _ (
          stands.0,
          inl still,
          unwaiting t made reached publisher id,
          λ x here. ap may_fail_update (stands.1 x here).3 ∙ calm,
        );
      }
