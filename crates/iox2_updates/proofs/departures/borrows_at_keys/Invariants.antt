use Rattle.std.proofs.Common.{map}
use Rattle.iox2_domain.specs.Departures.{BorrowsNothing}
use Rattle.iox2_domain.proofs.lemmas.containers.KeyWalks.{HasKeyBelow}
use Rattle.iox2_updates.proofs.departures.borrows_at_keys.Given as goal

-- nothing is borrowed in the connections so far
abbrev pub invariant-loop-index : goal.invariant-loop-index
invariant-loop-index g l =
    BorrowsNothing l.connections l.subscriber (HasKeyBelow (map g.K.ListedKey.key_of l.keys) l.index)
