use Rattle.std.specs.Option.{option_map}
use Rattle.iox2_domain.specs.Closes.{left_subscriber}
use Rattle.iox2_domain.proofs.lemmas.containers.MapSteps.{front_changed-next}
use Rattle.iox2_ports.proofs.publisher_closes.forget_everywhere.Goals as goal

pub loop-index-preserved : goal.loop-index-preserved
loop-index-preserved c =
    front_changed-next (option_map (left_subscriber c.args.connections.now c.args.place)) c.args.subscribers.now
    c.loop-index.subscribers c.loop-index.index c.index-subscribers-index.result c.forget_if_any.new.subscriber
    c.loop-index.invariant c.loop-index-test.true c.forget_if_any.ensures
