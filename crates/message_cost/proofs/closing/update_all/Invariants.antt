use Rattle.iox2_pubsub.specs.Live.{Stays}
use Rattle.message_cost.proofs.closing.update_all.Given as goal

abbrev pub invariant-loop-receiver : goal.invariant-loop-receiver
invariant-loop-receiver g l = Stays l.fn.domain l.domain
