use Rattle.std.proofs.Common.{rules, ◌≡◌, ◌<◌, ◌≤◌, ◌∙◌, ap, arith, length, vec_len}
use Rattle.iox2_domain.specs.Placed.{placed}
use Rattle.iox2_domain.proofs.lemmas.containers.FreePlaces.{placed-grown, placed-within}
use Rattle.iox2_domain.proofs.places.put_at_place.Goals as goal

pub loop-places-preserved : goal.loop-places-preserved
loop-places-preserved g c =
    let long : vec_len c.loop-places.places ≡ length c.loop-places.places.items = search rules in
    let low : length c.loop-places.places.items ≤ c.args.place = omega arith in
    record {
      placed = ap (λ ys. placed ys c.args.place c.args.value) c.push_reserved.ensures.items
          ∙ placed-grown c.loop-places.places.items c.args.place c.args.value low ∙ c.loop-places.invariant.placed;
      capacity = c.push_reserved.ensures.capacity ∙ c.loop-places.invariant.capacity;
    }

pub returns-clause-items : goal.returns-clause-items
returns-clause-items g c =
    let long : vec_len c.loop-places.places ≡ length c.loop-places.places.items = search rules in
    let low : c.args.place < length c.loop-places.places.items = omega arith in
    placed-within c.loop-places.places.items c.args.place c.args.value low ∙ c.loop-places.invariant.placed
