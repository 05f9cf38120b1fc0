use Rattle.iox2_machine.specs.machine.SingleCalls.{HoldsLoan}
use Rattle.iox2_machine.specs.machine.State.{State}
use Rattle.iox2_pubsub.specs.Live.{IsLoanKey}
use Rattle.iox2_pubsub.proofs.HeldKeys.{held-message, same-service}
use Rattle.iox2_pubsub.proofs.domain.Domain.holds_loan.Goals as goal

pub returns : goal.returns
unfolding IsLoanKey
returns g c =
    let has = rw c.new.ensures at c.has_loan.ensures in
    held-message c.self.inside.state c.args.self.now c.self.view_is
    (λ (s : State g.row.T.Denot g.row.U.Denot). HoldsLoan s c.args.key.port c.args.key.message) c.args.key.service_id
    (same-service c.config.ensures c.if-key-config.false) has
