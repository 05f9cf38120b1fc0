use Rattle.std.proofs.Common.{subst}
use Rattle.iox2_machine.specs.machine.SingleCalls.{HoldsSample}
use Rattle.iox2_machine.specs.machine.State.{State}
use Rattle.iox2_domain.specs.Kept.{Kept}
use Rattle.iox2_domain.specs.Shows.{KeepsEntries}
use Rattle.iox2_pubsub.specs.Live.{IsSampleKey}
use Rattle.iox2_pubsub.proofs.HeldKeys.{held-message, same-service}
use Rattle.iox2_pubsub.proofs.domain.Domain.holds_sample.Goals as goal

pub returns-then-key-config-clause-entries : goal.returns-then-key-config-clause-entries
returns-then-key-config-clause-entries g c =
    subst (λ (k : Kept g.row.T.Denot g.row.U.Denot g.row.F.Denot g.row.G.Denot). KeepsEntries k) c.self.view_is
    c.self.invariant.entries

pub returns-clause-entries : goal.returns-clause-entries
returns-clause-entries g c = subst (λ (k : Kept g.row.T.Denot g.row.U.Denot g.row.F.Denot g.row.G.Denot).
    KeepsEntries k) c.self.view_is c.self.invariant.entries

pub returns-clause-live : goal.returns-clause-live
unfolding IsSampleKey
returns-clause-live g c =
    let has = rw c.new.ensures at c.has_sample.ensures in
    held-message c.self.inside.state c.args.self.now c.self.view_is
    (λ (s : State g.row.T.Denot g.row.U.Denot). HoldsSample s c.args.key.port c.args.key.message) c.args.key.service_id
    (same-service c.config.ensures c.if-key-config.false) has
