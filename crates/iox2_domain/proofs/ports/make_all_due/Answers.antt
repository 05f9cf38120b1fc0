use Rattle.std.proofs.Common.{true}
use Rattle.std.specs.Option.{option_map}
use Rattle.iox2_domain.proofs.lemmas.containers.MapSteps.{front_changed-next}
use Rattle.iox2_domain.proofs.ports.make_all_due.Goals as goal

pub loop-place-preserved : goal.loop-place-preserved
loop-place-preserved g c =
    front_changed-next (option_map (g.P.Port.with_due true)) c.args.ports.now c.loop-place.ports c.loop-place.place
    c.index-ports-place.result c.set_due.new.port
    c.loop-place.invariant c.loop-place-test.true c.set_due.ensures
