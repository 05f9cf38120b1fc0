use Rattle.iox2_messages.proofs.SentChannels.{closed-from, connected-from}
use Rattle.iox2_messages.proofs.changed_channels.close_sent.Goals as goal

pub change_at-requires : goal.change_at-requires
change_at-requires g c = connected-from _ c.args.state.now c.state.view_is c.requires.agrees c.args.place _
    c.deref.result.now c.key_at-key.result c.deref.ensures.value c.key_at-key.ensures

pub returns : goal.returns
returns g c =
    closed-from _ c.args.state.now c.state.view_is c.requires.agrees c.args.place c.args.connection c.deref.result.now
    c.key_at-key.result c.deref.ensures.value c.key_at-key.ensures
    c.args.channel c.requires.channel c.args.expected c.change_at.new.connections c.change_at.ensures
