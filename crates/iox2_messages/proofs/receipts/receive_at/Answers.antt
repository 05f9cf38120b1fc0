use Rattle.std.proofs.Common.{None, Some, refl, slice_index_or, subst, sym, ◌≡◌, ◌∙◌}
use Rattle.iox2_domain.specs.Boxes.{answers_of}
use Rattle.iox2_domain.specs.Ports.{SubscriberFields}
use Rattle.iox2_domain.specs.ReceiverSteps.{UpdatesReceiver}
use Rattle.iox2_steps.proofs.receivers.Walks.{idle-at}
use Rattle.iox2_domain.proofs.lemmas.receives.Reception.{updated-stands, receives-at, receives-failed}
use Rattle.iox2_messages.proofs.receipts.receive_at.Goals.{Joined-is_due, then-is_due+in_default, else-is_due}
use Rattle.iox2_messages.proofs.receipts.receive_at.Goals as goal

-- what an update of the subscriber comes to, also where it isn't due
updates : (g : _) (c : Joined-is_due g) (y : SubscriberFields)
    → slice_index_or c.args.state.now.subscribers c.args.place None ≡ Some y
    → UpdatesReceiver (answers_of g.F.BackpressureFn.allows g.G.DegradationFn.allows c.args.boxes.now.boxes)
    c.args.state.now c.args.place y c.if-is_due.state None
updates g c y at =
    elim c.if-is_due.branch [
      | then-is_due+in_default w ↦
          rw w.state-is
          (subst (UpdatesReceiver (answers_of g.F.BackpressureFn.allows g.G.DegradationFn.allows c.args.boxes.now.boxes)
          c.args.state.now c.args.place y w.update_subscriber.new.state) w.in_default.is
          (w.update_subscriber.ensures y at))
      | else-is_due w ↦
          rw w.state-is (idle-at (answers_of g.F.BackpressureFn.allows g.G.DegradationFn.allows c.args.boxes.now.boxes)
          c.args.state.now c.requires.agrees c.args.place
          (sym c.is_due.ensures ∙ w.if-is_due.false) y at)
    ]

pub returns-in-Some : goal.returns-in-Some
returns-in-Some g c =
    receives-failed (answers_of g.F.BackpressureFn.allows g.G.DegradationFn.allows c.args.boxes.now.boxes)
    c.args.state.now c.update_subscriber.new.state c.args.place c.update_subscriber.result c.in-Some.failure
    c.in-Some.is c.update_subscriber.ensures

pub take_at-requires-clause-agrees : goal.take_at-requires-clause-agrees
take_at-requires-clause-agrees g c =
    (updates g (goal.at.take_at-requires-clause-agrees g c).Joined-is_due c.requires.stands.0
    c.requires.stands.1).changes.agrees

pub take_at-requires-clause-stands : goal.take_at-requires-clause-stands
take_at-requires-clause-stands g c =
    let y = c.requires.stands in (
      _,
      updated-stands (answers_of g.F.BackpressureFn.allows g.G.DegradationFn.allows c.args.boxes.now.boxes)
          c.args.state.now c.if-is_due.state c.args.place y.0 _
          (updates g (goal.at.take_at-requires-clause-stands g c).Joined-is_due y.0 y.1) y.1,
    )

pub returns : goal.returns
returns g c =
    receives-at (answers_of g.F.BackpressureFn.allows g.G.DegradationFn.allows c.args.boxes.now.boxes) c.args.state.now
    c.if-is_due.state c.take_at.new.state c.args.place None refl c.take_at.result
    (updates g (goal.at.returns g c).Joined-is_due) c.take_at.ensures
