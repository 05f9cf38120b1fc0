-- Commands that make ports, with what a run holds.
use Rattle.std.proofs.Common.{◌≡◌, ℕ, List, [], ◌∷◌, ◌++◌, map, sym, ap, subst, ◌∙◌, Option, None, Some}
use Rattle.std.specs.Prelude.{MatchResult}
use Rattle.std.specs.declared.result.Result.{Result}
use Rattle.iox2_machine.specs.machine.Limits.{buffer_limit}
use Rattle.iox2_machine.specs.machine.Records.{PublisherSettings, SubscriberSettings, Environment}
use Rattle.iox2_machine.specs.machine.State.{State, Messages}
use Rattle.iox2_machine.specs.machine.Ports.{CreatePublisher, CreateSubscriber}
use Rattle.iox2_machine.specs.declared.degradation.DegradationAction.{DegradationAction}
use Rattle.iox2_machine.specs.declared.errors.PublisherCreateError.{PublisherCreateError}
use Rattle.iox2_machine.specs.declared.errors.SubscriberCreateError.{SubscriberCreateError}
use Rattle.iox2_machine.specs.declared.service_config.TypeVariant.{TypeVariant}
use Rattle.iox2_machine.specs.declared.service_config.TypeVariant.TheVariants.{FixedSize, Dynamic}
use Rattle.iox2_laws.proofs.PortLaws.{create_publisher_advances, create_subscriber_advances}
use Rattle.iox2_domain.specs.Kept.{Kept as Domain}
use Rattle.iox2_domain.specs.Shows.{Shows}
use Rattle.iox2_pubsub.specs.Factories.{with_slots}
use Rattle.iox2_pubsub.specs.declared.publisher.Publisher.{Publisher as PublisherHandle}
use Rattle.iox2_pubsub.specs.declared.subscriber.Subscriber.{Subscriber as SubscriberHandle}
use Rattle.iox2_commands.specs.Runs.{Defaults}
use Rattle.iox2_commands.specs.Step.{publisher_settings}
use Rattle.iox2_runs.specs.Tables.{Publisher_entry, Subscriber_entry}
use Rattle.iox2_runs.specs.RunSteps.{Comes}
use Rattle.iox2_runs.specs.Services.{given_for, told}
use Rattle.iox2_runs.specs.Carries.{entry_for, Carries}
use Rattle.iox2_commands.specs.declared.new_publisher.NewPublisher.{NewPublisher}
use Rattle.iox2_commands.specs.declared.command.Command.TheVariants.{CreatePublisher as PublisherCommand}
use Rattle.iox2_commands.specs.declared.command.Command.TheVariants.{CreateSubscriber as SubscriberCommand}
use Rattle.iox2_commands.specs.declared.reply.Reply.TheVariants.{PublisherMade, PublisherRefused, SubscriberMade}
use Rattle.iox2_commands.specs.declared.reply.Reply.TheVariants.{SubscriberRefused}
use Rattle.iox2_runs.specs.declared.runs.made.Made.{Made}
use Rattle.iox2_runs.specs.declared.runs.made.Made.TheVariants.{Nothing, Publisher as MadePublisher}
use Rattle.iox2_runs.specs.declared.runs.made.Made.TheVariants.{Subscriber as MadeSubscriber}
use Rattle.iox2_runs.proofs.TableMakes.{publisher_comes, publisher_refused_comes, subscriber_comes}
use Rattle.iox2_runs.proofs.TableMakes.{subscriber_refused_comes}

-- what the command says of a publisher
abbrev pub settings_of : {T U : Type 0} → NewPublisher → State T U → PublisherSettings
settings_of asked s = publisher_settings (s.config).variant asked

-- so many slots are asked for, by another name
pub created-with : {T U P : Type 0} (environment : Environment) (s s' : State T U) (settings : PublisherSettings)
    (id : P → ℕ) (result : Result P PublisherCreateError) (asked asked' : Option ℕ) → asked ≡ asked'
    → MatchResult result (λ made. (id made ≡ s.next_port) × CreatePublisher environment s
    (with_slots settings asked) s' None) (λ e. CreatePublisher environment s (with_slots settings asked) s' (Some e))
    → MatchResult result (λ made. (id made ≡ s.next_port) × CreatePublisher environment s
    (with_slots settings asked') s' None) (λ e. CreatePublisher environment s (with_slots settings asked') s' (Some e))
created-with environment s s' settings id result asked asked' same made =
    subst (λ (slots : Option ℕ). MatchResult result
    (λ made. (id made ≡ s.next_port) × CreatePublisher environment s (with_slots settings slots) s' None)
    (λ e. CreatePublisher environment s (with_slots settings slots) s' (Some e))) same made

module _ {T U F G : Type 0} (old : Domain T U F G) where
  -- what a factory was told is what the command asks
  pub told-settings : (asked : NewPublisher) (variant : TypeVariant) (given settings : PublisherSettings)
      → settings ≡ told given asked
      → given.initial_max_slice_len ≡ elim variant [ FixedSize ↦ 1 | Dynamic ↦ asked.initial_max_slice_len ]
      → (old.config).variant ≡ variant
      → (m : Messages T U) (s : State T U) → Shows old m s
      → with_slots settings asked.override_slots ≡ settings_of asked s
  told-settings asked variant given settings is len kind = λ m s shown.
      ap (λ (it : PublisherSettings). with_slots it asked.override_slots) is
      ∙ ap (λ (n : ℕ). record (with_slots (told given asked) asked.override_slots) { initial_max_slice_len = n }) len
      ∙ ap (λ (v : TypeVariant). publisher_settings v asked)
      (sym (ap (λ (t : State T U). (t.config).variant) shown.state ∙ kind))

module _ {T U F G : Type 0} (environment : Environment) (defaults : Defaults T U) (old new : Domain T U F G)
    (table : List Made) where
  pub publisher_carried : (asked : NewPublisher) (h : PublisherHandle) (id : ℕ)
      → ((m : Messages T U) (s : State T U) → Shows old m s → (s' : State T U) × Shows new m s'
      × ((h.id ≡ s.next_port) × CreatePublisher environment s (settings_of asked s) s' None))
      → h.service_id ≡ (new.config).service_id → id ≡ h.id
      → Carries environment defaults old new table (PublisherCommand asked) (PublisherMade id) table (MadePublisher h)
  publisher_carried asked h id creates service same =
      λ m s handles events shown w default_value default_header is_value is_header.
      let made = creates m s shown in
      let create = (made.2).1 in
      let Arrives : (a b : ℕ) → Type 0 =
      λ a b. Comes environment defaults (Shows new) m s handles events (PublisherCommand asked) (PublisherMade a)
      (map entry_for table ++ Publisher_entry h.service_id b ∷ []) in
      subst (λ (a : ℕ). Arrives a h.id) (sym (made.2).0 ∙ sym same) (subst (Arrives s.next_port) (sym (made.2).0)
      (publisher_comes environment defaults (Shows new) m s handles events
      (map entry_for table) w default_value default_header is_value is_header asked
      made.0 create (create_publisher_advances environment s (settings_of asked s) made.0 None create).next_message
      made.1 h.service_id
      (service ∙ sym (ap (λ (t : State T U). (t.config).service_id) (made.1).state))))

  pub publisher_denied : (asked : NewPublisher) (e : PublisherCreateError)
      → ((m : Messages T U) (s : State T U) → Shows old m s
      → (s' : State T U) × Shows new m s' × CreatePublisher environment s (settings_of asked s) s' (Some e))
      → Carries environment defaults old new table (PublisherCommand asked) (PublisherRefused e) table Nothing
  publisher_denied asked e refuses = λ m s handles events shown w default_value default_header is_value is_header.
      let refused = refuses m s shown in
      let create = refused.2 in
      publisher_refused_comes environment defaults (Shows new) m s handles events
      (map entry_for table) w default_value default_header is_value is_header asked
      refused.0 e create (create_publisher_advances environment s (settings_of asked s) refused.0
      (Some e) create).next_message refused.1

  pub subscriber_carried : (buffer : Option ℕ) (degradation : DegradationAction) (given : SubscriberSettings)
      → given ≡ given_for (buffer_limit old.config) buffer degradation
      → (h : SubscriberHandle) (id : ℕ)
      → ((m : Messages T U) (s : State T U) → Shows old m s
      → (s' : State T U) × Shows new m s' × (CreateSubscriber environment s given s' None × (h.id ≡ s.next_port)))
      → h.service_id ≡ (new.config).service_id → id ≡ h.id
      → Carries environment defaults old new table (SubscriberCommand buffer degradation) (SubscriberMade id) table
      (MadeSubscriber h)
  subscriber_carried buffer degradation given is h id creates service same =
      λ m s handles events shown w default_value default_header is_value is_header.
      let made = creates m s shown in
      let so : given ≡ given_for (buffer_limit s.config) buffer degradation =
      is ∙ sym (ap (λ (t : State T U). given_for (buffer_limit t.config) buffer degradation) shown.state) in
      let create =
      subst (λ (given : SubscriberSettings). CreateSubscriber environment s given made.0 None) so (made.2).0 in
      let Arrives : (a b : ℕ) → Type 0 = λ a b. Comes environment defaults (Shows new) m s handles events
      (SubscriberCommand buffer degradation) (SubscriberMade a)
      (map entry_for table ++ Subscriber_entry h.service_id b ∷ []) in
      subst (λ (a : ℕ). Arrives a h.id) (sym (made.2).1 ∙ sym same) (subst (Arrives s.next_port) (sym (made.2).1)
      (subscriber_comes environment defaults (Shows new) m s handles events
      (map entry_for table) w default_value default_header is_value is_header buffer degradation
      made.0 create (create_subscriber_advances environment s
      (given_for (buffer_limit s.config) buffer degradation) made.0 None create).next_message made.1 h.service_id
      (service ∙ sym (ap (λ (t : State T U). (t.config).service_id) (made.1).state))))

  pub subscriber_denied : (buffer : Option ℕ) (degradation : DegradationAction) (given : SubscriberSettings)
      → given ≡ given_for (buffer_limit old.config) buffer degradation
      → (e : SubscriberCreateError) → ((m : Messages T U) (s : State T U) → Shows old m s
      → (s' : State T U) × Shows new m s' × CreateSubscriber environment s given s' (Some e))
      → Carries environment defaults old new table (SubscriberCommand buffer degradation)
      (SubscriberRefused e) table Nothing
  subscriber_denied buffer degradation given is e refuses =
      λ m s handles events shown w default_value default_header is_value is_header.
      let refused = refuses m s shown in
      let so : given ≡ given_for (buffer_limit s.config) buffer degradation =
      is ∙ sym (ap (λ (t : State T U). given_for (buffer_limit t.config) buffer degradation) shown.state) in
      let create = subst
      (λ (given : SubscriberSettings). CreateSubscriber environment s given refused.0 (Some e)) so refused.2 in
      subscriber_refused_comes environment defaults (Shows new) m s handles events
      (map entry_for table) w default_value default_header is_value is_header buffer degradation
      refused.0 e create (create_subscriber_advances environment s
      (given_for (buffer_limit s.config) buffer degradation) refused.0 (Some e) create).next_message refused.1
