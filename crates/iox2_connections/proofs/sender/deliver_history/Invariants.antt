use Rattle.iox2_connections.proofs.Histories.{HandsOutFrom}
use Rattle.iox2_connections.proofs.sender.deliver_history.Given as goal

abbrev pub invariant-loop-index : goal.invariant-loop-index
invariant-loop-index l = HandsOutFrom l.history.items l.fn.connection l.fn.book l.index l.connection l.book
