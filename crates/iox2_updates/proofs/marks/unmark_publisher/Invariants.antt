use Rattle.iox2_steps.proofs.updates.MarkedEnds.{ClearsSender}
use Rattle.iox2_updates.proofs.marks.unmark_publisher.Given as goal

-- the marks at lower places are cleared
abbrev pub invariant-loop-subscriber_place : goal.invariant-loop-subscriber_place
invariant-loop-subscriber_place g l =
    ClearsSender {T = g.row.T.Denot} {U = g.row.U.Denot} l.fn.state l.place l.subscriber_place l.state
