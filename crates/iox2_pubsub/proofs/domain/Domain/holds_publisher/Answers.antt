use Rattle.iox2_machine.specs.machine.SingleCalls.{HoldsPublisher}
use Rattle.iox2_machine.specs.machine.State.{State}
use Rattle.iox2_pubsub.specs.Live.{IsPublisherKey}
use Rattle.iox2_pubsub.proofs.HeldKeys.{held-port, same-service}
use Rattle.iox2_pubsub.proofs.domain.Domain.holds_publisher.Goals as goal

pub returns : goal.returns
unfolding IsPublisherKey
returns g c =
    let has = rw c.new.ensures at c.has_publisher.ensures in
    held-port c.self.inside.state c.args.self.now c.self.view_is
    (λ (s : State g.row.T.Denot g.row.U.Denot). HoldsPublisher s c.args.key.port) c.args.key.service_id
    c.args.key.message c.if-key-ne0.false (same-service c.config.ensures c.if-key-config.false) has
