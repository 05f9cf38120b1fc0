-- What ports make of the channels of their connections.
use Rattle.std.specs.Prelude.{ℕ}
use Rattle.iox2_connections.specs.Link.{Link, channels_changed, having_channels}
use Rattle.iox2_machine.specs.machine.Channel.{Channel, with_state, with_hint}
use Rattle.iox2_messages.specs.declared.changed_channels.ChannelChange.{ChannelChange}
use Rattle.iox2_messages.specs.declared.changed_channels.ChannelChange.TheVariants.{SetState, SetHint}

-- The machine's change of a channel.
abbrev pub changed_channel : ChannelChange → Channel → Channel
changed_channel (SetState state) channel = with_state state channel
changed_channel SetHint channel = with_hint channel

-- The connection, whose channel with that number, where it is in the state `expected`, is changed so.
abbrev pub changed_link : ChannelChange → (number expected : ℕ) → Link → Link
changed_link change number expected c =
    having_channels (channels_changed number expected (changed_channel change) c.channels) c
