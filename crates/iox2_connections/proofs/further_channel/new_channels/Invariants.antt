use Rattle.std.proofs.Common.{◌≡◌, replicate}
use Rattle.std.specs.Vec.{vec_capacity}
use Rattle.iox2_connections.specs.FurtherChannels.{empty_channel}
use Rattle.iox2_connections.proofs.further_channel.new_channels.Given as goal

-- so many channels are made, and there is room for all of them
abbrev pub invariant-loop : goal.invariant-loop
invariant-loop l = record {
  made : l.channels.items ≡ replicate l.counter (empty_channel l.buffer);
  room : vec_capacity l.channels ≡ l.count;
}
