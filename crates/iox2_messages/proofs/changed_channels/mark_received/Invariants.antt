use Rattle.iox2_domain.specs.OpenMarks.{ChangesMarks}
use Rattle.iox2_messages.proofs.changed_channels.mark_received.Given as goal

-- nothing but marks changed so far
abbrev pub invariant-loop-publisher_place : goal.invariant-loop-publisher_place
invariant-loop-publisher_place g l = ChangesMarks {T = g.row.T.Denot} {U = g.row.U.Denot} l.fn.state l.state
