use Rattle.std.proofs.Common.{ap}
use Rattle.iox2_pubsub.specs.Factories.{SubscriberFactory}
use Rattle.iox2_pubsub.proofs.port_factory.subscriber.PortFactorySubscriber.buffer_size.Goals as goal

pub returns : goal.returns
returns g c = ap (λ (given : SubscriberFactory g.row.G.Denot).
    record given { settings = record (given.settings) { buffer_size = c.args.value } }) c.self.view_is
