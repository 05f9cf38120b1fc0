use Rattle.std.proofs.Common.{◌≡◌, true, map, take, drop, ◌++◌}
use Rattle.std.specs.Option.{option_map}
use Rattle.iox2_domain.proofs.ports.make_all_due.Given as goal

abbrev pub invariant-loop-place : goal.invariant-loop-place
invariant-loop-place g l =
    l.ports ≡ map (option_map (g.P.Port.with_due true)) (take l.place l.initial.ports) ++ drop l.place l.initial.ports
