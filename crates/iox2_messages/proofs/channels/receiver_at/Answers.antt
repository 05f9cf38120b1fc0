use Rattle.std.proofs.Common.{◌∙◌}
use Rattle.iox2_messages.proofs.BlockingReceivers.{asked-receiver}
use Rattle.iox2_messages.proofs.channels.receiver_at.Goals as goal

pub returns : goal.returns
returns g c = λ x at.
    c.subscriber_at_key.ensures ∙ asked-receiver _ c.args.state.now c.state.view_is c.requires.agrees c.args.place
    c.args.connection c.deref.result.now c.key_at-key.result c.deref.ensures.value c.key_at-key.ensures x at
