use Rattle.std.proofs.Common.{◌≡◌, false, drop, map}
use Rattle.iox2_connections.specs.Finds.{first_found, search}
use Rattle.iox2_connections.proofs.Searches.{is_ready}
use Rattle.iox2_connections.proofs.receiver.search_keys.Given as goal

-- no connection to take from was found so far, and what was found and the rest of the search are the whole search
abbrev pub invariant-loop-index : goal.invariant-loop-index
invariant-loop-index g l = record {
  none : is_ready l.found ≡ false;
  whole : search l.connections (map g.K.ListedKey.key_of l.keys) ≡ first_found l.found
      (search l.connections (drop l.index (map g.K.ListedKey.key_of l.keys)));
}
