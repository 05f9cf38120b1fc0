use Rattle.std.proofs.Common.{◌≡◌, ◌+◌, drop}
use Rattle.iox2_domain.specs.Placed.{lowest_empty}
use Rattle.iox2_domain.proofs.places.lowest_place.Given as goal

-- each place so far is taken
abbrev pub invariant-loop-place : goal.invariant-loop-place
invariant-loop-place g l = lowest_empty l.places ≡ l.place + lowest_empty (drop l.place l.places)
