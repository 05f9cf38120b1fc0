use Rattle.iox2_machine.specs.machine.SingleCalls.{HoldsBlocked}
use Rattle.iox2_machine.specs.machine.State.{State}
use Rattle.iox2_pubsub.specs.Live.{IsBlockedKey}
use Rattle.iox2_pubsub.proofs.HeldKeys.{held-message, same-service}
use Rattle.iox2_pubsub.proofs.domain.Domain.holds_blocked.Goals as goal

pub returns : goal.returns
unfolding IsBlockedKey
returns g c =
    let has = rw c.new.ensures at c.has_blocked_send.ensures in
    held-message c.self.inside.state c.args.self.now c.self.view_is
    (λ (s : State g.row.T.Denot g.row.U.Denot). HoldsBlocked s c.args.key.port c.args.key.message) c.args.key.service_id
    (same-service c.config.ensures c.if-key-config.false) has
