use Rattle.std.proofs.Common.{◌≡◌, ◌∙◌, ap, sym, slice_index_or, true}
use Rattle.std.specs.declared.option.Option.TheVariants.{None, Some}
use Rattle.iox2_domain.specs.Boxes.{answers_of}
use Rattle.iox2_domain.specs.Fields.{Fields}
use Rattle.iox2_domain.specs.Ports.{PublisherFields}
use Rattle.iox2_domain.specs.Updates.{is_publisher_due}
use Rattle.iox2_steps.proofs.updates.SenderUpdates.{idle-updates, due-at}
use Rattle.iox2_updates.specs.Ends.{IsSenderDue}
use Rattle.iox2_updates.proofs.updates.update_publisher.Goals.{After-is_due_at}
use Rattle.iox2_updates.proofs.updates.update_publisher.Goals as goal

-- whether the publisher is due, as it was read
read_due : (g : _) (c : After-is_due_at g)
    → is_publisher_due c.args.state.now.publishers c.args.place ≡ c.is_due_at.result
read_due g c =
    ap (λ xs. is_publisher_due xs c.args.place)
    (sym (c.deref.ensures.value ∙ ap (λ (f : Fields g.row.T.Denot g.row.U.Denot). f.publishers) c.state.view_is))
    ∙ sym c.is_due_at.ensures

-- where it is, it may be connected
abbrev due : (g : _) (c : After-is_due_at g) → c.is_due_at.result ≡ true → (x : PublisherFields)
    → slice_index_or c.args.state.now.publishers c.args.place None ≡ Some x → IsSenderDue c.args.state.now c.args.place
due g c is_due x at = record {
  agrees = c.requires.agrees;
  publisher = x;
  stands = at;
  unblocked = c.requires.unblocked x at;
  due = read_due g c ∙ is_due;
}

pub connect_publisher-requires : goal.connect_publisher-requires
connect_publisher-requires g c = due g
    (goal.at.connect_publisher-requires g c).After-is_due_at c.if-is_due_at.true c.requires.stands.0 c.requires.stands.1

pub returns-then-is_due_at : goal.returns-then-is_due_at
returns-then-is_due_at g c = λ x at.
    c.connect_publisher.ensures (due g (goal.at.returns-then-is_due_at g c).After-is_due_at c.if-is_due_at.true x at)

pub returns-else-is_due_at : goal.returns-else-is_due_at
returns-else-is_due_at g c = λ x at.
    idle-updates (answers_of g.F.BackpressureFn.allows g.G.DegradationFn.allows c.args.boxes.now.boxes) c.args.state.now
    c.requires.agrees c.args.place x at
    (sym (due-at c.args.state.now.publishers c.args.place x at)
    ∙ read_due g (goal.at.returns-else-is_due_at g c).After-is_due_at ∙ c.if-is_due_at.false)
