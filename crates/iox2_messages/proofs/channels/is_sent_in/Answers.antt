use Rattle.std.proofs.Common.{◌∙◌}
use Rattle.iox2_machine.specs.machine.Channel.{is_in_state}
use Rattle.iox2_messages.proofs.AskedChannels.{asked-sent}
use Rattle.iox2_messages.proofs.channels.is_sent_in.Goals as goal

pub returns : goal.returns
returns g c = λ x at.
    c.is_in_state.ensures
    ∙ asked-sent _ c.args.state.now c.state.view_is c.requires.agrees c.args.place c.args.channel
    (is_in_state c.args.channel_state) c.args.connection c.deref.result.now c.key_at-key.result c.deref.ensures.value
    c.key_at-key.ensures x at
