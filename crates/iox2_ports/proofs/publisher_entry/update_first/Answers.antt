use Rattle.std.proofs.Common.{◌≡◌, ◌∙◌, Some, ap, sym}
use Rattle.iox2_domain.specs.Boxes.{answers_of}
use Rattle.iox2_machine.specs.machine.Limits.{warning_limit}
use Rattle.iox2_machine.specs.declared.warning.Warning.TheVariants.{PublisherPartlyConnected}
use Rattle.iox2_domain.specs.WarningRing.{warning_ring}
use Rattle.iox2_domain.specs.Fields.{Fields}
use Rattle.iox2_domain.specs.FirstUpdates.{failure_warned}
use Rattle.iox2_domain.specs.Ports.{PublisherFields}
use Rattle.iox2_steps.proofs.creations.FirstUpdates.{publisher-first-updates}
use Rattle.iox2_ports.proofs.publisher_entry.update_first.Goals as goal

pub update_publisher-failure-requires-clause-stands : goal.update_publisher-failure-requires-clause-stands
update_publisher-failure-requires-clause-stands g c = (c.requires.stands.0, c.requires.stands.1)

pub update_publisher-failure-requires-clause-unblocked : goal.update_publisher-failure-requires-clause-unblocked
update_publisher-failure-requires-clause-unblocked g c = λ z at_z.
    let both : Some z ≡ Some c.requires.stands.0 = sym at_z ∙ c.requires.stands.1 in
    let is : z ≡ c.requires.stands.0 = cc in
    ap (λ (w : PublisherFields). w.blocked) is ∙ c.requires.stands.3

pub warn_of_failure-requires : goal.warn_of_failure-requires
warn_of_failure-requires g c =
    ap (λ (f : Fields g.row.T.Denot g.row.U.Denot). f.warnings.capacity) c.state.view_is
    ∙ (c.update_publisher-failure.ensures c.requires.stands.0 c.requires.stands.1).reaches.agrees.parts.warning_room

pub returns : goal.returns
returns g c = λ x at.
    let both : Some c.requires.stands.0 ≡ Some x = sym c.requires.stands.1 ∙ at in
    let is : c.requires.stands.0 ≡ x = cc in
    publisher-first-updates (answers_of g.F.BackpressureFn.allows g.G.DegradationFn.allows c.args.boxes.now.boxes)
    c.args.state.now c.update_publisher-failure.new.state _ c.args.place c.args.publisher
    c.update_publisher-failure.result x
    (c.update_publisher-failure.ensures x at) at (sym (ap (λ (z : PublisherFields). z.id) is) ∙ c.requires.stands.2)
    (λ k. record (c.state.view_is k) {
      warnings = (c.warn_of_failure.ensures ∙ ap (λ (f : Fields g.row.T.Denot g.row.U.Denot).
          warning_ring (failure_warned (PublisherPartlyConnected c.args.publisher) c.update_publisher-failure.result
          f.warnings.items) warning_limit) c.state.view_is) k;
    })
