use Rattle.std.proofs.Common.{◌≡◌}
use Rattle.std.specs.Option.{option_map}
use Rattle.iox2_domain.specs.Closes.{left_subscriber}
use Rattle.iox2_domain.proofs.lemmas.containers.MapSteps.{front_changed}
use Rattle.iox2_ports.proofs.publisher_closes.forget_everywhere.Given as goal

abbrev pub invariant-loop-index : goal.invariant-loop-index
invariant-loop-index l =
    l.subscribers ≡ front_changed (option_map (left_subscriber l.connections l.place)) l.index l.fn.subscribers
