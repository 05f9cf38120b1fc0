use Rattle.std.proofs.Common.{map}
use Rattle.iox2_domain.specs.ChannelChanges.{ChangesLinks}
use Rattle.iox2_domain.proofs.lemmas.containers.KeyWalks.{HasKeyBelow}
use Rattle.iox2_messages.specs.ChannelChanges.{changed_link}
use Rattle.iox2_messages.proofs.changed_channels.change_at_keys.Given as goal

-- the channels at the keys so far are changed
abbrev pub invariant-loop-index : goal.invariant-loop-index
invariant-loop-index g l = ChangesLinks (changed_link l.change l.channel l.expected)
    (HasKeyBelow (map g.K.ListedKey.key_of l.keys) l.index) l.fn.connections l.connections
