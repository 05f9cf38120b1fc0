use Rattle.std.proofs.Common.{ap, rules, ◌∙◌}
use Rattle.slab.specs.Slab.{Slab}
use Rattle.iox2_connections.specs.Link.{Link}
use Rattle.iox2_connections.proofs.Counts.{IsCovered-follows}
use Rattle.iox2_connections_tests.proofs.FirstConnections.{covered-first, own-first}
use Rattle.iox2_connections_tests.proofs.deliveries.deliver_slot.Goals as goal

pub deliver-outcome-requires-clause-covered : goal.deliver-outcome-requires-clause-covered
deliver-outcome-requires-clause-covered c =
    covered-first c.reserve.new.self _ _ _ _ 2 1 2 _ (ap (λ (s : Slab Link). s.slots) c.reserve.ensures.rest_kept
    ∙ c.new-connections.ensures.empty) (rw c.in_ok-connection.ensures at c.insert_reserved-key.ensures.updates)

pub deliver-outcome-requires-clause-own : goal.deliver-outcome-requires-clause-own
deliver-outcome-requires-clause-own c =
    own-first c.reserve.new.self _ _ _ _ _ 2 1 2 _ (ap (λ (s : Slab Link). s.slots) c.reserve.ensures.rest_kept
    ∙ c.new-connections.ensures.empty) (rw c.in_ok-connection.ensures at c.insert_reserved-key.ensures.updates)
    (search rules)

pub returns-clause-covered : goal.returns-clause-covered
returns-clause-covered c =
    IsCovered-follows 1 _ _ _ _
    (covered-first c.reserve.new.self _ _ _ _ 2 1 2 _ (ap (λ (s : Slab Link). s.slots) c.reserve.ensures.rest_kept
    ∙ c.new-connections.ensures.empty) (rw c.in_ok-connection.ensures at c.insert_reserved-key.ensures.updates))
    c.deliver-outcome.ensures.recounts.counters
