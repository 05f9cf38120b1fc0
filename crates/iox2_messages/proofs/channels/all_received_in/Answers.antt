use Rattle.std.proofs.Common.{refl, ◌∙◌}
use Rattle.iox2_domain.proofs.lemmas.receives.ReceiptSteps.{has-keys}
use Rattle.iox2_messages.proofs.AllChannels.{asked-all, untold-first, untold-later}
use Rattle.iox2_messages.proofs.channels.all_received_in.Goals as goal

pub returns-else-all_at_keys : goal.returns-else-all_at_keys
returns-else-all_at_keys g c = λ y at.
    let has =
    has-keys _ c.args.state.now c.args.place c.index.result.now c.in-Some.subscriber _ c.deref.result.now _
    c.requires.agrees c.state.view_is c.requires.stands
    c.index.ensures c.in-Some.is c.subscriber.view_is c.deref.ensures.value refl in
    untold-first c.all_at_keys.result _ _ c.all_at_keys.ensures c.if-all_at_keys.false
    ∙ asked-all _ c.args.state.now c.args.place c.in-Some.subscriber c.deref.result.now _ has c.args.channel
    c.args.channel_state y at

pub returns-then-all_at_keys : goal.returns-then-all_at_keys
returns-then-all_at_keys g c = λ y at.
    let has =
    has-keys _ c.args.state.now c.args.place c.index.result.now c.in-Some.subscriber _ c.deref.result.now
    c.deref-then-all_at_keys.result.now c.requires.agrees c.state.view_is c.requires.stands
    c.index.ensures c.in-Some.is c.subscriber.view_is c.deref.ensures.value c.deref-then-all_at_keys.ensures.value in
    untold-later c.all_at_keys.result c.all_at_keys-then-all_at_keys.result _ _ c.all_at_keys.ensures
    c.if-all_at_keys.true c.all_at_keys-then-all_at_keys.ensures
    ∙ asked-all _ c.args.state.now c.args.place c.in-Some.subscriber c.deref.result.now
    c.deref-then-all_at_keys.result.now has c.args.channel c.args.channel_state y at
