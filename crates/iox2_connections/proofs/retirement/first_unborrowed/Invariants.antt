use Rattle.std.proofs.Common.{◌≡◌, drop}
use Rattle.iox2_connections.specs.Retires.{first_unborrowed}
use Rattle.iox2_connections.proofs.retirement.first_unborrowed.Given as goal

-- the rest of the search finds what the whole search does
abbrev pub invariant-loop-index : goal.invariant-loop-index
invariant-loop-index l = first_unborrowed l.connections l.keys ≡ first_unborrowed l.connections (drop l.index l.keys)
