use Rattle.std.proofs.Common.{◌≡◌, drop}
use Rattle.iox2_machine.specs.machine.ChannelCalls.{place_from}
use Rattle.iox2_connections.specs.Mailboxes.{sender_ends}
use Rattle.iox2_messages.proofs.channels.place_in.Given as goal

-- none of the keys so far leads there
abbrev pub invariant-loop-place : goal.invariant-loop-place
invariant-loop-place l = place_from 0 (sender_ends l.connections l.keys) l.subscriber ≡ place_from l.place
    (sender_ends l.connections (drop l.place l.keys)) l.subscriber
