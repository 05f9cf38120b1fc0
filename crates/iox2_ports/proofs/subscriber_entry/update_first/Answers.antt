use Rattle.std.proofs.Common.{◌≡◌, ◌∙◌, Some, ap, sym}
use Rattle.iox2_domain.specs.Boxes.{answers_of}
use Rattle.iox2_machine.specs.machine.Limits.{warning_limit}
use Rattle.iox2_machine.specs.declared.warning.Warning.TheVariants.{SubscriberPartlyConnected}
use Rattle.iox2_domain.specs.WarningRing.{warning_ring}
use Rattle.iox2_domain.specs.Fields.{Fields}
use Rattle.iox2_domain.specs.Ports.{SubscriberFields}
use Rattle.iox2_domain.specs.FirstUpdates.{failure_warned}
use Rattle.iox2_steps.proofs.creations.FirstUpdates.{subscriber-first-updates}
use Rattle.iox2_ports.proofs.subscriber_entry.update_first.Goals as goal

pub update_subscriber-failure-requires-clause-stands : goal.update_subscriber-failure-requires-clause-stands
update_subscriber-failure-requires-clause-stands g c = (c.requires.stands.0, c.requires.stands.1)

pub warn_of_failure-requires : goal.warn_of_failure-requires
warn_of_failure-requires g c =
    ap (λ (f : Fields g.row.T.Denot g.row.U.Denot). f.warnings.capacity) c.state.view_is
    ∙ (c.update_subscriber-failure.ensures c.requires.stands.0 c.requires.stands.1).changes.agrees.parts.warning_room

pub returns : goal.returns
returns g c = λ y at.
    let both : Some c.requires.stands.0 ≡ Some y = sym c.requires.stands.1 ∙ at in
    let is : c.requires.stands.0 ≡ y = cc in
    subscriber-first-updates (answers_of g.F.BackpressureFn.allows g.G.DegradationFn.allows c.args.boxes.now.boxes)
    c.args.state.now c.update_subscriber-failure.new.state _ c.args.place c.args.subscriber
    c.update_subscriber-failure.result y
    (c.update_subscriber-failure.ensures y at) at (sym (ap (λ (z : SubscriberFields). z.id) is) ∙ c.requires.stands.2)
    (λ k. record (c.state.view_is k) {
      warnings = (c.warn_of_failure.ensures ∙ ap (λ (f : Fields g.row.T.Denot g.row.U.Denot).
          warning_ring (failure_warned (SubscriberPartlyConnected c.args.subscriber) c.update_subscriber-failure.result
          f.warnings.items) warning_limit) c.state.view_is) k;
    })
