use Rattle.std.proofs.Common.{map}
use Rattle.iox2_domain.specs.Departures.{DropsUnshared}
use Rattle.iox2_domain.proofs.lemmas.containers.KeyWalks.{HasKeyBelow}
use Rattle.iox2_updates.proofs.departures.remove_at_keys.Given as goal

-- the connections at the keys so far were looked at
abbrev pub invariant-loop-index : goal.invariant-loop-index
invariant-loop-index g l = DropsUnshared l.publishers l.subscriber
    (HasKeyBelow (map g.K.ListedKey.key_of l.keys) l.index) l.fn.connections l.connections
