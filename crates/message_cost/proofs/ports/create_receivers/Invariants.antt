use Rattle.std.proofs.Common.{All}
use Rattle.iox2_pubsub.specs.Live.{IsLiveSubscriber, Stays}
use Rattle.message_cost.proofs.ports.create_receivers.Given as goal

abbrev pub invariant-loop : goal.invariant-loop
invariant-loop g l = record {
  stays : Stays l.fn.domain l.domain;
  live : All (λ receiver. IsLiveSubscriber l.domain receiver.subscriber) l.receivers.items;
}
