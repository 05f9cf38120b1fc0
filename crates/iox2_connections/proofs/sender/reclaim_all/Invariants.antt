use Rattle.std.proofs.Common.{◌≡◌}
use Rattle.iox2_connections.specs.Counters.{with_counters}
use Rattle.iox2_connections.proofs.ReclaimSteps.{IsReclaimedBelow}
use Rattle.iox2_connections.proofs.sender.reclaim_all.Given as goal

abbrev pub invariant-loop-index : goal.invariant-loop-index
invariant-loop-index l = record {
  book : l.book ≡ with_counters l.fn.book l.book.holders;
  below : IsReclaimedBelow l.publisher l.keys l.fn.book.holders l.fn.connections l.index l.book.holders l.connections;
}
