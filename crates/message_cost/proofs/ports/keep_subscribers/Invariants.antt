use Rattle.iox2_pubsub.specs.Live.{Stays}
use Rattle.message_cost.proofs.ports.keep_subscribers.Given as goal

abbrev pub invariant-loop : goal.invariant-loop
invariant-loop g l = Stays l.fn.domain l.domain
