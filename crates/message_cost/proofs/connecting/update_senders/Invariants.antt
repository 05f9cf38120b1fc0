use Rattle.iox2_pubsub.specs.Live.{Stays}
use Rattle.message_cost.proofs.connecting.update_senders.Given as goal

abbrev pub invariant-loop-sender : goal.invariant-loop-sender
invariant-loop-sender g l = Stays l.fn.domain l.domain
