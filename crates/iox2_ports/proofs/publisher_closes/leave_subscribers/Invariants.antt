use Rattle.iox2_steps.proofs.closes.LeaveSteps.{SomeHasKeyBelow}
use Rattle.iox2_ports.specs.Leaves.{LeavesCounted}
use Rattle.iox2_ports.proofs.publisher_closes.leave_subscribers.Given as goal

abbrev pub invariant-loop-index : goal.invariant-loop-index
invariant-loop-index l = LeavesCounted l.publisher l.subscribers
    (SomeHasKeyBelow l.subscribers l.place l.index) l.fn.connections l.fn.book l.connections l.book
