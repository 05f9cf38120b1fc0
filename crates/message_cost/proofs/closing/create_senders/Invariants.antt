use Rattle.std.proofs.Common.{All}
use Rattle.iox2_pubsub.specs.Live.{IsLivePublisher, Stays}
use Rattle.message_cost.proofs.closing.create_senders.Given as goal

abbrev pub invariant-loop : goal.invariant-loop
invariant-loop g l = record {
  stays : Stays l.fn.domain l.domain;
  live : All (λ sender. IsLivePublisher l.domain sender.publisher) l.senders.items;
}
