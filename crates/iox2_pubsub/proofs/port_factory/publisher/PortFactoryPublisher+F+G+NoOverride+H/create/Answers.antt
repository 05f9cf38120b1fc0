use Rattle.std.proofs.Common.{◌∙◌, ap, subst, sym}
use Rattle.std.specs.declared.option.Option.TheVariants.{None, Some}
use Rattle.iox2_domain.specs.Boxes.{answers_of}
use Rattle.iox2_machine.specs.machine.Ports.{CreatePublisher}
use Rattle.iox2_connections.specs.Handlers.{marks_of}
use Rattle.iox2_ports.specs.Handlers.{custom_box}
use Rattle.iox2_ports.specs.Settings.{settings_with}
use Rattle.iox2_pubsub.specs.Factories.{PublisherFactory}
use Rattle.iox2_pubsub.specs.MadePublishers.{IsMadePublisher}
use Rattle.iox2_pubsub.specs.declared.port_factory.preallocation.NoOverride.{NoOverride}
use Rattle.iox2_pubsub.specs.declared.publisher.Publisher.{Publisher}
use Rattle.iox2_pubsub.proofs.port_factory.publisher.PortFactoryPublisher+F+G+NoOverride+H.create.Goals as goal

pub returns-in-Ok-clause-creates : goal.returns-in-Ok-clause-creates
returns-in-Ok-clause-creates g c m s shown =
    let made = c.in-Ok.ensures.creates m s shown in (
      made.0,
      made.1,
      (
        ap (λ (it : Publisher). it.id) c.of_port.ensures ∙ (made.2).0,
        subst (λ (given : PublisherFactory g.row.F.Denot g.row.G.Denot NoOverride).
            CreatePublisher (answers_of g.F.BackpressureFn.allows g.G.DegradationFn.allows
            c.create_plain.new.domain.boxes.publishers) s given.settings made.0 None) c.self.view_is (made.2).1,
      ),
    )

pub returns-in-Err-clause-creates : goal.returns-in-Err-clause-creates
returns-in-Err-clause-creates g c m s shown =
    let made = c.in-Err.ensures.creates m s shown in (
      made.0,
      made.1,
      subst (λ (given : PublisherFactory g.row.F.Denot g.row.G.Denot NoOverride).
          CreatePublisher (answers_of g.F.BackpressureFn.allows g.G.DegradationFn.allows
          c.create_plain.new.domain.boxes.publishers) s given.settings made.0 (Some c.in-Err.error)) c.self.view_is
          made.2,
    )

pub returns-in-Ok-clause-made : goal.returns-in-Ok-clause-made
returns-in-Ok-clause-made g c =
    subst (λ (given : PublisherFactory g.row.F.Denot g.row.G.Denot NoOverride).
    IsMadePublisher given.settings given.box given.degradation_box
    (g.H.PortHandle.as_port c.of_port.result) c.args.domain.now c.create_plain.new.domain) c.self.view_is
    (subst (λ (it : Publisher). IsMadePublisher
    (settings_with c.self.inside.options (marks_of c.self.inside.backpressure_handler)
    (record { allocation = c.self.inside.slots.allocation; asked_slots = None }))
    (custom_box c.self.inside.backpressure_handler) c.self.inside.degradation_box it c.args.domain.now
    c.create_plain.new.domain)
    (sym c.of_port.ensures) c.in-Ok.ensures.made)
