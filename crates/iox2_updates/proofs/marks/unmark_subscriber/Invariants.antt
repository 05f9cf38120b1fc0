use Rattle.iox2_steps.proofs.updates.MarkedEnds.{ClearsReceiver}
use Rattle.iox2_updates.proofs.marks.unmark_subscriber.Given as goal

-- the marks at lower places are cleared
abbrev pub invariant-loop-publisher_place : goal.invariant-loop-publisher_place
invariant-loop-publisher_place g l =
    ClearsReceiver {T = g.row.T.Denot} {U = g.row.U.Denot} l.fn.state l.place l.publisher_place l.state
