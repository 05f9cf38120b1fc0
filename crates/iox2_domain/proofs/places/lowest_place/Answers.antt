use Rattle.std.proofs.Common.{◌≡◌, not, ap, arith, ◌∙◌, drop}
use Rattle.std.proofs.lemmas.List.{drop_all}
use Rattle.iox2_domain.specs.Placed.{lowest_empty}
use Rattle.iox2_domain.proofs.lemmas.containers.FreePlaces.{lowest_empty-taken, lowest_empty-here}
use Rattle.iox2_domain.proofs.places.lowest_place.Goals as goal

pub returns-then-is_none : goal.returns-then-is_none
returns-then-is_none g c = lowest_empty-here c.args.places.now c.loop-place.place c.index-places-place.result
    c.loop-place-test.true c.index-places-place.is (c.is_none.ensures ∙ ap not c.if-is_none.true) c.loop-place.invariant

pub loop-place-preserved : goal.loop-place-preserved
loop-place-preserved g c = lowest_empty-taken c.args.places.now c.loop-place.place c.index-places-place.result
    c.loop-place-test.true c.index-places-place.is
    (c.is_none.ensures ∙ ap not c.if-is_none.false) c.loop-place.invariant

pub returns : goal.returns
returns g c =
    let none : lowest_empty (drop c.loop-place.place c.args.places.now) ≡ 0 =
    ap lowest_empty (drop_all c.loop-place.place c.args.places.now c.loop-place-test.false) in
    let so_far = c.loop-place.invariant in
    omega (arith, c.loop-place.auto.place-end, c.loop-place-test.false)
