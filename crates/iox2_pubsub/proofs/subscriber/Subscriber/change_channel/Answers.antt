use Rattle.std.proofs.Common.{ℕ, inl, inr, ap, refl, subst, ◌∙◌}
use Rattle.iox2_machine.specs.machine.Channel.{Channel, is_closed}
use Rattle.iox2_machine.specs.machine.ChannelCalls.{received_changed}
use Rattle.iox2_domain.specs.Fields.{kept_of, keeping}
use Rattle.iox2_domain.specs.Kept.{state_of}
use Rattle.iox2_domain.specs.Reaches.{Reaches}
use Rattle.iox2_messages.specs.ChannelChanges.{changed_channel}
use Rattle.iox2_pubsub.proofs.ChangedChannels.{changed-shows, changed-leaves}
use Rattle.iox2_pubsub.proofs.ClosedChannels.{received-further, received-others, received-takes}
use Rattle.iox2_pubsub.proofs.PlacedHandles.{subscriber-at-place, subscriber-there}
use Rattle.iox2_pubsub.proofs.StaysBut.{same-boxes}
use Rattle.iox2_pubsub.proofs.subscriber.Subscriber.change_channel.Goals as goal

pub change_received-requires-clause-stands : goal.change_received-requires-clause-stands
change_received-requires-clause-stands g c =
    subscriber-there {T = g.row.T.Denot} {U = g.row.U.Denot} c.domain.inside.state c.domain.invariant c.args.domain.now
    c.domain.view_is c.args.self.now c.requires.live

pub invariant_of-domain : goal.invariant_of-domain
invariant_of-domain g c =
    let at = subscriber-there {T = g.row.T.Denot} {U = g.row.U.Denot} c.domain.inside.state c.domain.invariant
    c.args.domain.now c.domain.view_is c.args.self.now c.requires.live in
    (c.change_received.ensures at.0 at.1).agrees

pub returns-clause-changed : goal.returns-clause-changed
returns-clause-changed g c =
    let at = subscriber-at-place {T = g.row.T.Denot} {U = g.row.U.Denot} c.domain.inside.state c.domain.invariant
    c.args.domain.now c.domain.view_is c.args.self.now c.requires.live in
    changed-shows {T = g.row.T.Denot} {U = g.row.U.Denot} c.domain.inside.state c.args.domain.now c.domain.view_is
    (λ s. received_changed s c.args.self.now.id c.args.channel c.args.expected (changed_channel c.args.change))
    (λ s. refl) c.change_received.new.state
    (subst (Reaches c.domain.inside.state c.change_received.new.state)
    (ap (λ (q : ℕ). received_changed (state_of (kept_of c.domain.inside.state)) q c.args.channel c.args.expected
    (changed_channel c.args.change)) at.2)
    (c.change_received.ensures at.0 at.1))

pub returns-clause-leaves : goal.returns-clause-leaves
returns-clause-leaves g c =
    let s = state_of c.args.domain.now in
    changed-leaves {T = g.row.T.Denot} {U = g.row.U.Denot} c.domain.inside.state c.args.domain.now c.domain.view_is
    (λ s. received_changed s c.args.self.now.id c.args.channel c.args.expected (changed_channel c.args.change))
    (λ s. refl)
    c.domain.invariant (keeping _ c.change_received.new.state) (returns-clause-changed g c)
    (same-boxes c.domain.inside.state c.change_received.new.state c.args.domain.now c.domain.view_is c.domain.invariant
    (let at = (subscriber-there {T = g.row.T.Denot} {U = g.row.U.Denot} c.domain.inside.state c.domain.invariant
    c.args.domain.now c.domain.view_is c.args.self.now c.requires.live) in
    (c.change_received.ensures at.0 at.1).places)) _
    (λ p other stays well_formed takes. elim stays [
      | inl none ↦ received-takes s c.args.self.now.id c.args.channel c.args.expected
          (changed_channel c.args.change) none p other.id takes
      | inr apart ↦ elim apart [
        | inl away ↦ ap (λ (channels : ℕ → Channel). is_closed (channels 0))
            (received-others s c.args.self.now.id c.args.channel c.args.expected
            (changed_channel c.args.change) p other.id away) ∙ takes
        | inr further ↦ ap is_closed (received-further s c.args.self.now.id c.args.channel c.args.expected
            (changed_channel c.args.change) further p other.id) ∙ takes
      ]
    ])
