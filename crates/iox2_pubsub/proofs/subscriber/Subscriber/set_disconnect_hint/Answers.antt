use Rattle.std.proofs.Common.{inl}
use Rattle.iox2_pubsub.proofs.ChangedChannels.{open-leaves}
use Rattle.iox2_pubsub.proofs.ClosedChannels.{hint-closes-none}
use Rattle.iox2_pubsub.proofs.subscriber.Subscriber.set_disconnect_hint.Goals as goal

pub returns-clause-leaves : goal.returns-clause-leaves
returns-clause-leaves g c =
    open-leaves c.change_channel.ensures.leaves (λ p other. inl (hint-closes-none c.args.expected))
