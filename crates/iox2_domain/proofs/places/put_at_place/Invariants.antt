use Rattle.std.proofs.Common.{◌≡◌, ◌+◌, ◌-◌, vec_capacity, vec_len}
use Rattle.iox2_domain.specs.Placed.{placed}
use Rattle.iox2_domain.proofs.places.put_at_place.Given as goal

-- the list has at most grown
abbrev pub invariant-loop-places : goal.invariant-loop-places
invariant-loop-places g l = record {
  placed : placed l.places.items l.place l.value ≡ placed l.initial.places.items l.place l.value;
  capacity : vec_capacity l.places ≡ vec_capacity l.initial.places;
}

abbrev pub decreases-loop-places : goal.decreases-loop-places
decreases-loop-places g l = l.place + 1 - vec_len l.places
