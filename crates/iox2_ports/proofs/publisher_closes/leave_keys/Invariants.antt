use Rattle.iox2_domain.proofs.lemmas.containers.KeyWalks.{HasKeyBelow}
use Rattle.iox2_ports.specs.Leaves.{LeavesCounted}
use Rattle.iox2_ports.proofs.publisher_closes.leave_keys.Given as goal

abbrev pub invariant-loop-index : goal.invariant-loop-index
invariant-loop-index l =
    LeavesCounted l.publisher l.subscribers (HasKeyBelow l.keys l.index) l.fn.connections l.fn.book l.connections l.book
