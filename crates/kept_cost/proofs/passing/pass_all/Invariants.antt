use Rattle.std.proofs.Common.{◌≤◌}
use Rattle.kept_cost.specs.Ports.{HasTwoPorts}
use Rattle.kept_cost.proofs.passing.pass_all.Given as goal

abbrev pub invariant-loop-value : goal.invariant-loop-value
invariant-loop-value g l = record {
  ports : HasTwoPorts l.domain l.publisher l.subscriber;
  released : l.released ≤ l.value;
}
