use Rattle.std.proofs.Common.{ℕ, inl, inr, ap, subst, ◌∙◌}
use Rattle.iox2_machine.specs.machine.Channel.{Channel, is_closed}
use Rattle.iox2_machine.specs.machine.ChannelCalls.{sent_closed}
use Rattle.iox2_domain.specs.Fields.{kept_of, keeping}
use Rattle.iox2_domain.specs.Kept.{state_of}
use Rattle.iox2_domain.specs.Reaches.{Reaches}
use Rattle.iox2_messages.proofs.SentChannels.{sent-closed-is}
use Rattle.iox2_pubsub.proofs.ChangedChannels.{changed-shows, changed-leaves}
use Rattle.iox2_pubsub.proofs.ClosedChannels.{sent-further, sent-others}
use Rattle.iox2_pubsub.proofs.PlacedHandles.{publisher-there}
use Rattle.iox2_pubsub.proofs.StaysBut.{same-boxes}
use Rattle.iox2_pubsub.proofs.publisher.Publisher.close_channel.Goals as goal

pub invariant_of-domain : goal.invariant_of-domain
invariant_of-domain g c =
    let at = publisher-there {T = g.row.T.Denot} {U = g.row.U.Denot} c.domain.inside.state c.domain.invariant
    c.args.domain.now c.domain.view_is c.args.self.now c.requires.there c.requires.placed in
    (c.close_sent.ensures at.0 at.1).agrees

pub returns-clause-closed : goal.returns-clause-closed
returns-clause-closed g c =
    let at = publisher-there {T = g.row.T.Denot} {U = g.row.U.Denot} c.domain.inside.state c.domain.invariant
    c.args.domain.now c.domain.view_is c.args.self.now c.requires.there c.requires.placed in
    changed-shows {T = g.row.T.Denot} {U = g.row.U.Denot} c.domain.inside.state c.args.domain.now c.domain.view_is
    (λ s. sent_closed s c.args.self.now.id c.args.channel c.args.connection c.args.expected)
    (λ s. sent-closed-is s c.args.self.now.id c.args.channel c.args.connection c.args.expected) c.close_sent.new.state
    (subst (Reaches c.domain.inside.state c.close_sent.new.state)
    (ap (λ (p : ℕ).
    sent_closed (state_of (kept_of c.domain.inside.state)) p c.args.channel c.args.connection c.args.expected) at.2)
    (c.close_sent.ensures at.0 at.1))

pub returns-clause-leaves : goal.returns-clause-leaves
returns-clause-leaves g c =
    let s = state_of c.args.domain.now in
    changed-leaves {T = g.row.T.Denot} {U = g.row.U.Denot} c.domain.inside.state c.args.domain.now c.domain.view_is
    (λ s. sent_closed s c.args.self.now.id c.args.channel c.args.connection c.args.expected)
    (λ s. sent-closed-is s c.args.self.now.id c.args.channel c.args.connection c.args.expected)
    c.domain.invariant (keeping _ c.close_sent.new.state) (returns-clause-closed g c)
    (same-boxes c.domain.inside.state c.close_sent.new.state c.args.domain.now c.domain.view_is c.domain.invariant
    (let at = publisher-there {T = g.row.T.Denot} {U = g.row.U.Denot} c.domain.inside.state c.domain.invariant
    c.args.domain.now c.domain.view_is c.args.self.now c.requires.there c.requires.placed in
    (c.close_sent.ensures at.0 at.1).places)) _
    (λ p subscriber stays well_formed takes. elim stays [
      | inl away ↦ ap (λ (channels : ℕ → Channel). is_closed (channels 0))
          (sent-others s well_formed c.args.self.now.id c.args.channel c.args.connection c.args.expected p subscriber.id
          (inl away)) ∙ takes
      | inr more ↦ elim more [
        | inl elsewhere ↦ ap (λ (channels : ℕ → Channel). is_closed (channels 0))
            (sent-others s well_formed c.args.self.now.id c.args.channel c.args.connection c.args.expected p
            subscriber.id (inr elsewhere)) ∙ takes
        | inr further ↦
            ap is_closed (sent-further s c.args.self.now.id c.args.channel c.args.connection c.args.expected further p
            subscriber.id) ∙ takes
      ]
    ])
