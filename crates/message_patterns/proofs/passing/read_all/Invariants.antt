use Rattle.std.proofs.Common.{◌≡◌, ℕ, List, ◌++◌}
use Rattle.iox2_pubsub.specs.Live.{KeepsAll, Stays, UpToDateStay, waiting}
use Rattle.message_patterns.specs.Values.{Wait}
use Rattle.message_patterns.proofs.passing.read_all.Given as goal

abbrev pub invariant-loop-value : goal.invariant-loop-value
invariant-loop-value l = record {
  stays : Stays l.fn.domain l.domain;
  up_to_date : UpToDateStay l.fn.domain l.domain;
  taken : KeepsAll l.fn.domain l.subscriber → (publisher : ℕ) (values : List ℕ)
      → Wait l.fn.domain publisher l.subscriber values
      → (taken left : List ℕ) × (values ≡ taken ++ left) × (l.read.items ≡ l.fn.read.items ++ taken)
      × Wait l.domain publisher l.subscriber left;
}

abbrev pub decreases-loop-value : goal.decreases-loop-value
decreases-loop-value l = waiting l.domain l.subscriber
