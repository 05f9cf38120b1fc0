use Rattle.std.proofs.Common.{ℕ}
use Rattle.iox2_machine.specs.machine.ChannelCalls.{has_disconnect_hint}
use Rattle.iox2_machine.specs.machine.State.{State}
use Rattle.iox2_pubsub.proofs.ChannelsShown.{publisher-answer}
use Rattle.iox2_pubsub.proofs.publisher.Publisher.has_disconnect_hint.Goals as goal

pub returns : goal.returns
returns g c =
    publisher-answer {T = g.row.T.Denot} {U = g.row.U.Denot} c.domain.inside.state c.args.domain.now c.domain.view_is
    c.domain.invariant c.args.self.now c.requires.there c.requires.placed
    (λ (s : State g.row.T.Denot g.row.U.Denot) (p : ℕ). has_disconnect_hint s p c.args.channel c.args.connection
    c.args.state) c.is_sent_hinted.result c.is_sent_hinted.ensures
