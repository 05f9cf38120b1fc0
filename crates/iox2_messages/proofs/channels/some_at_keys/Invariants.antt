use Rattle.std.proofs.Common.{◌≡◌, drop, map}
use Rattle.iox2_messages.specs.KeyChannels.{some_in_state}
use Rattle.iox2_messages.proofs.channels.some_at_keys.Given as goal

-- none of the keys so far tells of one
abbrev pub invariant-loop-index : goal.invariant-loop-index
invariant-loop-index g l =
    some_in_state l.connections l.asked.channel l.asked.state (map g.K.ListedKey.key_of l.keys)
    ≡ some_in_state l.connections l.asked.channel l.asked.state (drop l.index (map g.K.ListedKey.key_of l.keys))
