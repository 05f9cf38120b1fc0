use Rattle.std.proofs.Common.{rules, ◌≡◌, ◌<◌, ◌≤◌, ◌∙◌, false, length, vec_len, ap, arith}
use Rattle.std.proofs.lemmas.List.{with_items_is}
use Rattle.iox2_domain.specs.Boxes.{answers_of}
use Rattle.iox2_domain.specs.Ports.{SubscriberFields}
use Rattle.iox2_domain.specs.Fields.{Fields}
use Rattle.iox2_domain.specs.Updates.{changed_at}
use Rattle.iox2_steps.proofs.receivers.Walks.{walker, begins-first, first-more, walked-length, begins-both, both-more}
use Rattle.iox2_steps.proofs.receivers.Walks.{both-update}
use Rattle.iox2_updates.proofs.receiver_updates.walk_places.Goals.{After-len-empty-end, After-len-other-end}
use Rattle.iox2_updates.proofs.receiver_updates.walk_places.Goals as goal

-- the first walk goes over all places
places : (g : _) (c : After-len-other-end g) → c.len-other-end.result ≡ length c.args.state.now.publishers
places g c =
    let long : vec_len c.state.inside.publishers ≡ length c.state.inside.publishers.items = search rules in
    let same : length c.state.inside.publishers.items ≡ length c.args.state.now.publishers =
    ap (λ (f : Fields g.row.T.Denot g.row.U.Denot). length f.publishers) c.state.view_is in
    omega (arith, long, same, c.len-other-end.ensures)

-- and so does the second, since the first made no place
places_again : (g : _) (c : After-len-empty-end g) → c.len-empty-end.result ≡ length c.args.state.now.publishers
places_again g c =
    let long : vec_len c.state-2.inside.publishers ≡ length c.state-2.inside.publishers.items = search rules in
    let same : length c.state-2.inside.publishers.items ≡ length (c.loop-other.state).publishers =
    ap (λ (f : Fields g.row.T.Denot g.row.U.Denot). length f.publishers) c.state-2.view_is in
    let walked = walked-length (answers_of g.F.BackpressureFn.allows g.G.DegradationFn.allows c.args.boxes.now.boxes)
    c.args.state.now c.args.place c.loop-other.other c.loop-other.state c.loop-other.first c.loop-other.invariant in
    omega (arith, long, same, walked, c.len-empty-end.ensures)

pub loop-other-init : goal.loop-other-init
loop-other-init g c =
    let old = c.args.state.now in
    let viewed = c.state.view_is in
    let subscribers = ap (λ (f : Fields g.row.T.Denot g.row.U.Denot). f.subscribers) viewed in
    let written : _ ≡ changed_at (λ (z : SubscriberFields). record z { is_due = false }) old.subscribers c.args.place =
    with_items_is c.state.inside.subscribers c.clear_due.new.ports (c.clear_due.auto.ports ∙ c.deref_mut.ensures.len)
    ∙ c.clear_due.ensures ∙ ap (λ xs. changed_at (λ (z : SubscriberFields). record z { is_due = false }) xs
    c.args.place) (c.deref_mut.ensures.value ∙ subscribers) in
    begins-first (answers_of g.F.BackpressureFn.allows g.G.DegradationFn.allows c.args.boxes.now.boxes) old
    c.requires.agrees c.args.place c.requires.subscriber c.requires.stands _
    (λ k. record (viewed k) { subscribers = written k })

pub connect_at-failure-requires-clause-subscriber : goal.connect_at-failure-requires-clause-subscriber
connect_at-failure-requires-clause-subscriber g c =
    walker (answers_of g.F.BackpressureFn.allows g.G.DegradationFn.allows c.args.boxes.now.boxes) _ _ _ _ _
    c.loop-other.invariant

pub loop-other-preserved : goal.loop-other-preserved
loop-other-preserved g c =
    let old = c.args.state.now in
    let end = places g (goal.at.loop-other-preserved g c).After-len-other-end in
    let low : c.loop-other.other < length old.publishers = omega (arith, end, c.loop-other-test.true) in
    first-more (answers_of g.F.BackpressureFn.allows g.G.DegradationFn.allows c.args.boxes.now.boxes) old c.args.place
    c.loop-other.other c.loop-other.state c.loop-other.first c.loop-other.invariant low
    c.connect_at-failure.new.state c.connect_at-failure.result c.first_of-first.result c.connect_at-failure.ensures
    c.first_of-first.ensures

pub loop-empty-init : goal.loop-empty-init
loop-empty-init g c =
    let old = c.args.state.now in
    let end = places g (goal.at.loop-empty-init g c).After-len-other-end in
    let over : length old.publishers ≤ c.loop-other.other = omega (arith, end, c.loop-other-test.false) in
    begins-both (answers_of g.F.BackpressureFn.allows g.G.DegradationFn.allows c.args.boxes.now.boxes) old c.args.place
    c.loop-other.other c.loop-other.state c.loop-other.first c.loop-other.invariant over

pub loop-empty-preserved : goal.loop-empty-preserved
loop-empty-preserved g c =
    let old = c.args.state.now in
    let end = places_again g (goal.at.loop-empty-preserved g c).After-len-empty-end in
    let low : c.loop-empty.empty < length old.publishers = omega (arith, end, c.loop-empty-test.true) in
    both-more (answers_of g.F.BackpressureFn.allows g.G.DegradationFn.allows c.args.boxes.now.boxes) old c.args.place
    c.loop-empty.empty c.loop-empty.state c.loop-other.first c.loop-empty.later c.loop-empty.invariant low
    c.disconnect_at-failure.new.state c.disconnect_at-failure.result c.first_of-later.result
    c.disconnect_at-failure.ensures c.first_of-later.ensures

pub returns : goal.returns
returns g c = λ due.
    let old = c.args.state.now in
    let end = places_again g (goal.at.returns g c).After-len-empty-end in
    let over : length old.publishers ≤ c.loop-empty.empty = omega (arith, end, c.loop-empty-test.false) in
    both-update (answers_of g.F.BackpressureFn.allows g.G.DegradationFn.allows c.args.boxes.now.boxes) old c.args.place
    c.loop-empty.empty c.loop-empty.state c.loop-other.first c.loop-empty.later c.loop-empty.invariant over due.due
    c.first_of.result c.first_of.ensures due.subscriber due.stands
