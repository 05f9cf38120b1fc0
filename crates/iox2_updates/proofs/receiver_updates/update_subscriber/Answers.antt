use Rattle.std.proofs.Common.{◌≡◌, ◌∙◌, ap, sym}
use Rattle.iox2_domain.specs.Boxes.{answers_of}
use Rattle.iox2_domain.specs.Fields.{Fields}
use Rattle.iox2_domain.specs.Updates.{is_subscriber_due}
use Rattle.iox2_steps.proofs.receivers.Walks.{idle-at}
use Rattle.iox2_updates.proofs.receiver_updates.update_subscriber.Goals.{After-is_due_at}
use Rattle.iox2_updates.proofs.receiver_updates.update_subscriber.Goals as goal

-- whether the subscriber is due, as it was read
read_due : (g : _) (c : After-is_due_at g)
    → is_subscriber_due c.args.state.now.subscribers c.args.place ≡ c.is_due_at.result
read_due g c =
    ap (λ xs. is_subscriber_due xs c.args.place)
    (sym (c.deref.ensures.value ∙ ap (λ (f : Fields g.row.T.Denot g.row.U.Denot). f.subscribers) c.state.view_is))
    ∙ sym c.is_due_at.ensures

pub walk_places-requires : goal.walk_places-requires
walk_places-requires g c =
    record {
      agrees = c.requires.agrees;
      subscriber = c.requires.stands.0;
      stands = c.requires.stands.1;
      due = read_due g (goal.at.walk_places-requires g c).After-is_due_at ∙ c.if-is_due_at.true;
    }

pub returns-then-is_due_at : goal.returns-then-is_due_at
returns-then-is_due_at g c = λ y at.
    c.walk_places.ensures (record {
      agrees = c.requires.agrees;
      subscriber = y;
      stands = at;
      due = read_due g (goal.at.returns-then-is_due_at g c).After-is_due_at ∙ c.if-is_due_at.true;
    })

pub returns-else-is_due_at : goal.returns-else-is_due_at
returns-else-is_due_at g c =
    idle-at (answers_of g.F.BackpressureFn.allows g.G.DegradationFn.allows c.args.boxes.now.boxes) c.args.state.now
    c.requires.agrees c.args.place
    (read_due g (goal.at.returns-else-is_due_at g c).After-is_due_at ∙ c.if-is_due_at.false)
