use Rattle.std.proofs.Common.{◌∙◌, ap, sym, get_or, None}
use Rattle.iox2_domain.specs.Boxes.{answers_of}
use Rattle.iox2_domain.specs.Fields.{Fields}
use Rattle.iox2_updates.proofs.ReclaimedUpdates.{due-still, updates-from}
use Rattle.iox2_updates.proofs.updates.connect_publisher.Goals as goal

pub walk_places-requires-clause-due : goal.walk_places-requires-clause-due
walk_places-requires-clause-due g c =
    due-still (answers_of g.F.BackpressureFn.allows g.G.DegradationFn.allows c.args.boxes.now.boxes) c.args.state.now
    c.reclaim.new.state c.reclaim.ensures.reaches c.reclaim.ensures.only c.args.place c.requires

pub walk_places-requires-clause-few : goal.walk_places-requires-clause-few
walk_places-requires-clause-few g c = λ due.
    c.reclaim.ensures.few due.publisher
    (sym (ap (λ (f : Fields g.row.T.Denot g.row.U.Denot). get_or f.publishers c.args.place None) c.reclaim.ensures.only)
    ∙ due.stands)

pub returns : goal.returns
returns g c = λ due.
    updates-from (answers_of g.F.BackpressureFn.allows g.G.DegradationFn.allows c.args.boxes.now.boxes) c.args.state.now
    c.reclaim.new.state c.reclaim.ensures.reaches c.reclaim.ensures.only c.args.place due
    c.walk_places.new.state c.walk_places.result
    (c.walk_places.ensures
    (due-still (answers_of g.F.BackpressureFn.allows g.G.DegradationFn.allows c.args.boxes.now.boxes) c.args.state.now
    c.reclaim.new.state c.reclaim.ensures.reaches c.reclaim.ensures.only c.args.place due))
