use Rattle.std.proofs.Common.{slice_index_or, None, refl, ap, ◌∙◌}
use Rattle.iox2_domain.specs.Boxes.{answers_of}
use Rattle.iox2_domain.proofs.lemmas.fields.ReachesShows.{reaches-same}
use Rattle.iox2_steps.proofs.updates.SenderUpdates.{idle-updates}
use Rattle.iox2_messages.proofs.catching_up.catch_up.Goals as goal

pub returns-then-has_caught_up : goal.returns-then-has_caught_up
returns-then-has_caught_up g c = λ x at. record {
  middle = c.args.state.now;
  reaches = reaches-same {T = g.row.T.Denot} {U = g.row.U.Denot} c.args.state.now c.requires.agrees;
  same = refl;
  updates = idle-updates (answers_of g.F.BackpressureFn.allows g.G.DegradationFn.allows c.args.boxes.now.boxes)
      c.args.state.now c.requires.agrees c.args.place x at (c.has_caught_up.ensures c.if-has_caught_up.true x at);
}

pub update_publisher-requires-clause-agrees : goal.update_publisher-requires-clause-agrees
update_publisher-requires-clause-agrees g c = c.let_go_of_older.ensures.reaches.agrees

pub update_publisher-requires-clause-stands : goal.update_publisher-requires-clause-stands
update_publisher-requires-clause-stands g c = (
  c.requires.stands.0,
  ap (λ xs. slice_index_or xs c.args.place None) c.let_go_of_older.ensures.same ∙ c.requires.stands.1,
)

pub update_publisher-requires-clause-unblocked : goal.update_publisher-requires-clause-unblocked
update_publisher-requires-clause-unblocked g c = rw c.let_go_of_older.ensures.same c.requires.unblocked

pub returns : goal.returns
returns g c = λ x at. record {
  middle = c.let_go_of_older.new.state;
  reaches = c.let_go_of_older.ensures.reaches;
  same = c.let_go_of_older.ensures.same;
  updates =
      c.update_publisher.ensures x (ap (λ xs. slice_index_or xs c.args.place None) c.let_go_of_older.ensures.same ∙ at);
}
