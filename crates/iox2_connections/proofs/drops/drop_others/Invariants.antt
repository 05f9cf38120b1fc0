use Rattle.std.proofs.Common.{◌≡◌, length}
use Rattle.iox2_connections.specs.Drops.{DropsFrom}
use Rattle.iox2_connections.proofs.ReclaimSteps.{Follows}
use Rattle.iox2_connections.proofs.drops.drop_others.Given as goal

abbrev pub invariant-loop-slot : goal.invariant-loop-slot
invariant-loop-slot l = record {
  follows : Follows DropsFrom l.fn.book l.fn.connection l.book l.connection;
  kept : l.connection ≡ record l.fn.connection { others = l.connection.others };
}

abbrev pub decreases-loop-slot : goal.decreases-loop-slot
decreases-loop-slot l = length l.connection.others
