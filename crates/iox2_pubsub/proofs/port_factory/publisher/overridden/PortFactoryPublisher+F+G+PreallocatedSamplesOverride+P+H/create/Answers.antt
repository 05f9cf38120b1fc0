use Rattle.std.proofs.Common.{◌≡◌, ◌∙◌, ℕ, ap, subst, sym, Option}
use Rattle.std.specs.declared.option.Option.TheVariants.{None, Some}
use Rattle.iox2_domain.specs.Boxes.{answers_of}
use Rattle.iox2_machine.specs.machine.Limits.{worst_case}
use Rattle.iox2_machine.specs.machine.Ports.{CreatePublisher}
use Rattle.iox2_machine.specs.machine.Records.{PublisherSettings}
use Rattle.iox2_machine.specs.machine.State.{Messages, State}
use Rattle.iox2_machine.specs.declared.allocation.AllocationStrategy.{AllocationStrategy}
use Rattle.iox2_machine.specs.declared.service_config.ServiceConfig.{ServiceConfig}
use Rattle.iox2_domain.specs.Kept.{Kept}
use Rattle.iox2_domain.specs.Shows.{Shows}
use Rattle.iox2_connections.specs.Handlers.{marks_of}
use Rattle.iox2_ports.specs.Handlers.{custom_box}
use Rattle.iox2_ports.specs.Settings.{settings_with}
use Rattle.iox2_pubsub.specs.Factories.{AsksForSlots, PublisherFactory, callback_of, with_slots}
use Rattle.iox2_pubsub.specs.Handles.{publisher_id}
use Rattle.iox2_pubsub.specs.MadePublishers.{IsMadePublisher}
use Rattle.iox2_pubsub.proofs.PublishersMade.{made-unasked}
use Rattle.iox2_pubsub.specs.declared.publisher.Publisher.{Publisher}
use Rattle.iox2_pubsub.specs.declared.port_factory.preallocation.PreallocatedSamplesOverride.{PreallocatedSamplesOverride}
use Rattle.iox2_pubsub.proofs.port_factory.publisher.overridden.PortFactoryPublisher+F+G+PreallocatedSamplesOverride+P+H.create.Goals as goal

pub returns-in-Ok-clause-creates : goal.returns-in-Ok-clause-creates
returns-in-Ok-clause-creates g c =
    let asked : Option ℕ = c.ask-segments.result.asked_slots in
    let Makes : Publisher → PublisherSettings → Type 0 = λ made-publisher given.
    (m : Messages g.row.T.Denot g.row.U.Denot) (s : State g.row.T.Denot g.row.U.Denot) → Shows c.args.domain.now m s
    → (s' : State g.row.T.Denot g.row.U.Denot) × Shows c.create_plain.new.domain m s'
    × ((publisher_id made-publisher ≡ s.next_port) × CreatePublisher
    (answers_of g.F.BackpressureFn.allows g.G.DegradationFn.allows c.create_plain.new.domain.boxes.publishers) s given
    s' None) in
    let plain =
    subst (λ (a : AllocationStrategy). Makes c.in-Ok.publisher
    (settings_with c.self.inside.options (marks_of c.self.inside.backpressure_handler)
    (record { allocation = a; asked_slots = asked }))) c.ask-segments.ensures.allocation c.in-Ok.ensures.creates in
    let made =
    subst (λ (it : Publisher).
    Makes it (settings_with c.self.inside.options (marks_of c.self.inside.backpressure_handler)
    (record { allocation = c.self.inside.slots.allocation; asked_slots = asked }))) (sym c.of_port.ensures) plain in
    let asks = subst (λ (config : ServiceConfig). AsksForSlots (goal.P-post g c.self.inside.slots.preallocated.callback)
    (worst_case config c.self.inside.options.max_loaned_samples) asked)
    (c.config.ensures ∙ ap (λ (k : Kept g.row.T.Denot g.row.U.Denot g.row.F.Denot g.row.G.Denot). k.config)
    c.domain.view_is) c.ask-segments.ensures.asked in
    subst (λ (given : PublisherFactory g.row.F.Denot g.row.G.Denot (PreallocatedSamplesOverride g.row.P.Denot)).
    (x : Option ℕ)
    × AsksForSlots (goal.P-post g (callback_of given))
    (worst_case (c.args.domain.now.config) given.settings.max_loaned_samples) x
    × Makes (g.H.PortHandle.as_port c.of_port.result) (with_slots given.settings x)) c.self.view_is
    (asked, asks, made)

pub returns-clause-creates : goal.returns-clause-creates
returns-clause-creates g c =
    let asked : Option ℕ = c.ask-segments.result.asked_slots in
    let Refuses : PublisherSettings → Type 0 = λ given.
    (m : Messages g.row.T.Denot g.row.U.Denot) (s : State g.row.T.Denot g.row.U.Denot) → Shows c.args.domain.now m s
    → (s' : State g.row.T.Denot g.row.U.Denot) × Shows c.create_plain.new.domain m s'
    × CreatePublisher (answers_of g.F.BackpressureFn.allows g.G.DegradationFn.allows
    c.create_plain.new.domain.boxes.publishers) s given s' (Some c.in-Err.error) in
    let refused =
    subst (λ (a : AllocationStrategy).
    Refuses (settings_with c.self.inside.options (marks_of c.self.inside.backpressure_handler)
    (record { allocation = a; asked_slots = asked }))) c.ask-segments.ensures.allocation c.in-Err.ensures.creates in
    let asks = subst (λ (config : ServiceConfig). AsksForSlots (goal.P-post g c.self.inside.slots.preallocated.callback)
    (worst_case config c.self.inside.options.max_loaned_samples) asked)
    (c.config.ensures ∙ ap (λ (k : Kept g.row.T.Denot g.row.U.Denot g.row.F.Denot g.row.G.Denot). k.config)
    c.domain.view_is) c.ask-segments.ensures.asked in
    subst (λ (given : PublisherFactory g.row.F.Denot g.row.G.Denot (PreallocatedSamplesOverride g.row.P.Denot)).
    (x : Option ℕ)
    × AsksForSlots (goal.P-post g (callback_of given))
    (worst_case (c.args.domain.now.config) given.settings.max_loaned_samples) x × Refuses (with_slots given.settings x))
    c.self.view_is
    (asked, asks, refused)

pub returns-in-Ok-clause-made : goal.returns-in-Ok-clause-made
returns-in-Ok-clause-made g c =
    let asked : Option ℕ = c.ask-segments.result.asked_slots in
    let Is : AllocationStrategy → Publisher → Type 0 =
    λ a it. IsMadePublisher (settings_with c.self.inside.options (marks_of c.self.inside.backpressure_handler)
    (record { allocation = a; asked_slots = asked })) (custom_box c.self.inside.backpressure_handler)
    c.self.inside.degradation_box it c.args.domain.now c.create_plain.new.domain in
    let made = subst (Is c.self.inside.slots.allocation) (sym c.of_port.ensures)
    (subst
    (λ (a : AllocationStrategy). Is a c.in-Ok.publisher) c.ask-segments.ensures.allocation c.in-Ok.ensures.made) in
    subst (λ (given : PublisherFactory g.row.F.Denot g.row.G.Denot (PreallocatedSamplesOverride g.row.P.Denot)).
    IsMadePublisher given.settings given.box given.degradation_box
    (g.H.PortHandle.as_port c.of_port.result) c.args.domain.now c.create_plain.new.domain) c.self.view_is
    (made-unasked (settings_with c.self.inside.options (marks_of c.self.inside.backpressure_handler)
    (record { allocation = c.self.inside.slots.allocation; asked_slots = None })) asked
    (custom_box c.self.inside.backpressure_handler) c.self.inside.degradation_box
    (g.H.PortHandle.as_port c.of_port.result) c.args.domain.now c.create_plain.new.domain made)
