use Rattle.std.proofs.Common.{◌≤◌}
use Rattle.iox2_pubsub.specs.Live.{Stays}
use Rattle.slice_passing.proofs.passing.pass_all.Given as goal

abbrev pub invariant-loop-passed : goal.invariant-loop-passed
invariant-loop-passed g l = Stays l.fn.domain l.domain × (l.arrived ≤ l.passed)
