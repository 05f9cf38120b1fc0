use Rattle.std.proofs.Common.{refl, ◌∙◌}
use Rattle.iox2_domain.proofs.lemmas.receives.ReceiptSteps.{has-keys}
use Rattle.iox2_messages.proofs.AskedChannels.{asked-received, told-first, told-later}
use Rattle.iox2_messages.proofs.channels.some_received_in.Goals as goal

pub returns-then-some_at_keys : goal.returns-then-some_at_keys
returns-then-some_at_keys g c = λ y at.
    let has =
    has-keys _ c.args.state.now c.args.place c.index.result.now c.in-Some.subscriber _ c.deref.result.now _
    c.requires.agrees c.state.view_is c.requires.stands
    c.index.ensures c.in-Some.is c.subscriber.view_is c.deref.ensures.value refl in
    told-first c.some_at_keys.result _ _ c.some_at_keys.ensures c.if-some_at_keys.true
    ∙ asked-received _ c.args.state.now c.args.place c.in-Some.subscriber c.deref.result.now _ has c.args.channel
    c.args.channel_state y at

pub returns-else-some_at_keys : goal.returns-else-some_at_keys
returns-else-some_at_keys g c = λ y at.
    let has =
    has-keys _ c.args.state.now c.args.place c.index.result.now c.in-Some.subscriber _ c.deref.result.now
    c.deref-else-some_at_keys.result.now c.requires.agrees c.state.view_is c.requires.stands
    c.index.ensures c.in-Some.is c.subscriber.view_is c.deref.ensures.value c.deref-else-some_at_keys.ensures.value in
    told-later c.some_at_keys.result c.some_at_keys-else-some_at_keys.result _ _ c.some_at_keys.ensures
    c.if-some_at_keys.false c.some_at_keys-else-some_at_keys.ensures
    ∙ asked-received _ c.args.state.now c.args.place c.in-Some.subscriber c.deref.result.now
    c.deref-else-some_at_keys.result.now has c.args.channel c.args.channel_state y at
