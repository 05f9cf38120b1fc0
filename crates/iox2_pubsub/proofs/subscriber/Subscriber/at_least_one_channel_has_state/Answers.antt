use Rattle.std.proofs.Common.{ℕ, ap, ◌∙◌}
use Rattle.iox2_machine.specs.machine.ChannelCalls.{some_channel_has_state}
use Rattle.iox2_machine.specs.machine.State.{State}
use Rattle.iox2_domain.specs.Fields.{kept_of}
use Rattle.iox2_domain.specs.Kept.{state_of}
use Rattle.iox2_pubsub.proofs.ChannelsShown.{shown-answer}
use Rattle.iox2_pubsub.proofs.PlacedHandles.{subscriber-at-place, subscriber-there}
use Rattle.iox2_pubsub.proofs.subscriber.Subscriber.at_least_one_channel_has_state.Goals as goal

pub some_received_in-requires-clause-stands : goal.some_received_in-requires-clause-stands
some_received_in-requires-clause-stands g c =
    subscriber-there {T = g.row.T.Denot} {U = g.row.U.Denot} c.domain.inside.state c.domain.invariant c.args.domain.now
    c.domain.view_is c.args.self.now c.requires.live

pub returns : goal.returns
returns g c =
    let at = subscriber-at-place {T = g.row.T.Denot} {U = g.row.U.Denot} c.domain.inside.state c.domain.invariant
    c.args.domain.now c.domain.view_is c.args.self.now c.requires.live in
    shown-answer {T = g.row.T.Denot} {U = g.row.U.Denot} c.domain.inside.state c.args.domain.now c.domain.view_is
    (λ (s : State g.row.T.Denot g.row.U.Denot). some_channel_has_state s c.args.self.now.id c.args.channel c.args.state)
    c.some_received_in.result
    (c.some_received_in.ensures at.0 at.1
    ∙ ap (λ (q : ℕ). some_channel_has_state (state_of (kept_of c.domain.inside.state)) q c.args.channel c.args.state)
    at.2)
