use Rattle.iox2_domain.specs.Boxes.{answers_of}
use Rattle.iox2_domain.proofs.lemmas.receives.Questions.{answers-at, answers-failed}
use Rattle.iox2_domain.proofs.lemmas.receives.Reception.{updated-stands}
use Rattle.iox2_messages.proofs.questions.has_samples_at.Goals as goal

pub has_data_at-requires-clause-agrees : goal.has_data_at-requires-clause-agrees
has_data_at-requires-clause-agrees g c =
    (c.update_subscriber.ensures c.requires.stands.0 c.requires.stands.1).changes.agrees

pub has_data_at-requires-clause-stands : goal.has_data_at-requires-clause-stands
has_data_at-requires-clause-stands g c =
    let y = c.requires.stands in (
      _,
      updated-stands (answers_of g.F.BackpressureFn.allows g.G.DegradationFn.allows c.args.boxes.now.boxes)
          c.args.state.now c.update_subscriber.new.state c.args.place y.0 _ (c.update_subscriber.ensures y.0 y.1) y.1,
    )

pub returns-in-None : goal.returns-in-None
returns-in-None g c =
    answers-at (answers_of g.F.BackpressureFn.allows g.G.DegradationFn.allows c.args.boxes.now.boxes) c.args.state.now
    c.update_subscriber.new.state c.args.place c.update_subscriber.result c.in-None.is c.has_data_at.result
    c.update_subscriber.ensures c.has_data_at.ensures

pub returns-in-Some : goal.returns-in-Some
returns-in-Some g c =
    answers-failed (answers_of g.F.BackpressureFn.allows g.G.DegradationFn.allows c.args.boxes.now.boxes)
    c.args.state.now c.update_subscriber.new.state c.args.place c.update_subscriber.result c.in-Some.failure
    c.in-Some.is c.update_subscriber.ensures
