use Rattle.std.proofs.Common.{◌≡◌, false, drop, map, Some}
use Rattle.iox2_connections.specs.Finds.{first_found, search}
use Rattle.iox2_connections.proofs.Searches.{is_ready}
use Rattle.iox2_connections.proofs.receiver.receive.Given as goal

-- no connection to take from was found so far, and what was found and the rest of the search are the whole search
abbrev pub invariant-loop-place : goal.invariant-loop-place
invariant-loop-place l = record {
  same : l.connections ≡ l.fn.connections;
  none : is_ready l.found ≡ false;
  whole : first_found (search l.fn.connections (map Some l.expired))
      (search l.fn.connections l.keys) ≡ first_found l.found (search l.fn.connections (drop l.place l.keys));
}
