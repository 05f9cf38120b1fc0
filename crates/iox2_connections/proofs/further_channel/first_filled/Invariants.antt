use Rattle.std.specs.List.{AllWithin}
use Rattle.iox2_connections.specs.FurtherChannels.{rings, IsUnfilled}
use Rattle.iox2_connections.proofs.further_channel.first_filled.Given as goal

-- nothing waits in the channels before this one
abbrev pub invariant-loop-index : goal.invariant-loop-index
invariant-loop-index l = AllWithin IsUnfilled (rings l.channels) 0 l.index
