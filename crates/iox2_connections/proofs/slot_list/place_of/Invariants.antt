use Rattle.std.proofs.Common.{◌≡◌, take}
use Rattle.iox2_connections.specs.Counters.{times}
use Rattle.iox2_connections.proofs.slot_list.place_of.Given as goal

-- the slot stands at no place before this one
abbrev pub invariant-loop-place : goal.invariant-loop-place
invariant-loop-place l = times l.slot (take l.place l.slots) ≡ 0
