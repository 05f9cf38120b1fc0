use Rattle.std.proofs.Common.{◌≡◌, drop, map}
use Rattle.iox2_messages.specs.KeyChannels.{all_in_state}
use Rattle.iox2_messages.proofs.channels.all_at_keys.Given as goal

-- each of the keys so far tells of none in another state
abbrev pub invariant-loop-index : goal.invariant-loop-index
invariant-loop-index g l =
    all_in_state l.connections l.asked.channel l.asked.state (map g.K.ListedKey.key_of l.keys)
    ≡ all_in_state l.connections l.asked.channel l.asked.state (drop l.index (map g.K.ListedKey.key_of l.keys))
