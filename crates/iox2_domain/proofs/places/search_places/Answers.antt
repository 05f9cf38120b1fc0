use Rattle.std.proofs.Common.{below_more, arith, sym, ◌∙◌}
use Rattle.std.proofs.lemmas.Bool.{true≢false}
use Rattle.iox2_domain.proofs.lemmas.containers.FreePlaces.{look_up-nowhere}
use Rattle.iox2_domain.proofs.places.search_places.Goals as goal

pub loop-place-preserved : goal.loop-place-preserved
loop-place-preserved g c =
    below_more _ _ c.loop-place.invariant (λ here. true≢false (sym (c.stands_at.ensures.1 here) ∙ c.if-stands_at.false))

pub returns : goal.returns
returns g c =
    look_up-nowhere g.P.Port.number c.args.id c.args.ports.now (λ k lt. c.loop-place.invariant k (omega arith))
