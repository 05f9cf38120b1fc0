use Rattle.std.proofs.Common.{◌≡◌}
use Rattle.iox2_connections.specs.Counters.{with_counters}
use Rattle.iox2_connections.proofs.Leaves.{GivesUpTo}
use Rattle.iox2_connections.proofs.leaving.let_go_of_history.Given as goal

abbrev pub invariant-loop-index : goal.invariant-loop-index
invariant-loop-index l = record {
  book : l.book ≡ with_counters l.fn.book l.book.holders;
  given : GivesUpTo l.history.items l.fn.book.holders l.index l.book.holders;
}
