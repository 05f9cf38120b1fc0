use Rattle.iox2_pubsub.specs.Live.{Stays}
use Rattle.message_cost.proofs.ports.keep_sample_of_each.Given as goal

abbrev pub invariant-loop-receiver : goal.invariant-loop-receiver
invariant-loop-receiver g l = Stays l.fn.domain l.domain
