use Rattle.std.proofs.Common.{ℕ, Bool, ap, inl, refl, ◌∙◌}
use Rattle.std.specs.List.{list_all}
use Rattle.iox2_machine.specs.machine.Channel.{closed_state, is_closed, with_state}
use Rattle.iox2_machine.specs.machine.ChannelCalls.{received_changed, senders_of}
use Rattle.iox2_machine.specs.machine.State.{State}
use Rattle.iox2_domain.specs.Fields.{kept_of}
use Rattle.iox2_domain.specs.Kept.{state_of}
use Rattle.iox2_pubsub.proofs.ChangedChannels.{open-leaves}
use Rattle.iox2_pubsub.proofs.ChannelsShown.{shown-answer}
use Rattle.iox2_pubsub.proofs.ClosedChannels.{opening-closes-none}
use Rattle.iox2_pubsub.proofs.PlacedHandles.{subscriber-at-place, subscriber-there}
use Rattle.iox2_pubsub.proofs.subscriber.Subscriber.set_channel_state.Goals as goal

-- whether the channel is closed at each connection of the subscriber
abbrev all_closed : {T U : Type 0} → State T U → (q number : ℕ) → Bool
all_closed s q number = list_all (λ p. is_closed (s.channels p q number)) (senders_of s q)

pub all_received_in-were_closed-requires-clause-stands : goal.all_received_in-were_closed-requires-clause-stands
all_received_in-were_closed-requires-clause-stands g c =
    subscriber-there {T = g.row.T.Denot} {U = g.row.U.Denot} c.domain.inside.state c.domain.invariant c.args.domain.now
    c.domain.view_is c.args.self.now c.requires.live

pub returns-clause-sets : goal.returns-clause-sets
returns-clause-sets g c = λ m s shown.
    let at = subscriber-at-place {T = g.row.T.Denot} {U = g.row.U.Denot} c.domain.inside.state c.domain.invariant
    c.args.domain.now c.domain.view_is c.args.self.now c.requires.live in (
      received_changed s c.args.self.now.id c.args.channel closed_state (with_state c.args.state),
      c.change_channel.ensures.changed m s shown,
      (
        refl,
        shown-answer {T = g.row.T.Denot} {U = g.row.U.Denot} c.domain.inside.state c.args.domain.now c.domain.view_is
            (λ (s : State g.row.T.Denot g.row.U.Denot). all_closed s c.args.self.now.id c.args.channel)
            c.all_received_in-were_closed.result
            (c.all_received_in-were_closed.ensures at.0 at.1
            ∙ ap (λ (q : ℕ). all_closed (state_of (kept_of c.domain.inside.state)) q c.args.channel) at.2) m s shown,
      ),
    )

pub returns-clause-leaves : goal.returns-clause-leaves
returns-clause-leaves g c =
    open-leaves c.change_channel.ensures.leaves (λ p other. inl (opening-closes-none c.args.state))
