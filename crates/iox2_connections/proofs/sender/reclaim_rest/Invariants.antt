use Rattle.std.proofs.Common.{length}
use Rattle.iox2_connections.specs.Reclaims.{ReclaimsFrom}
use Rattle.iox2_connections.proofs.ReclaimSteps.{Follows}
use Rattle.iox2_connections.proofs.sender.reclaim_rest.Given as goal

abbrev pub invariant-loop-slot : goal.invariant-loop-slot
invariant-loop-slot l = Follows ReclaimsFrom l.fn.book l.fn.connection l.book l.connection

abbrev pub decreases-loop-slot : goal.decreases-loop-slot
decreases-loop-slot l = length l.connection.returned
