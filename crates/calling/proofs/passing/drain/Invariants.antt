use Rattle.iox2_pubsub.specs.Live.{Stays, waiting}
use Rattle.calling.proofs.passing.drain.Given as goal

abbrev pub invariant-loop-sample : goal.invariant-loop-sample
invariant-loop-sample g l = Stays l.fn.domain l.domain

abbrev pub decreases-loop-sample : goal.decreases-loop-sample
decreases-loop-sample g l = waiting l.domain l.subscriber
