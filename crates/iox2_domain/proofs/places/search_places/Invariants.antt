use Rattle.std.proofs.Common.{◌≡◌, ◌<◌, ℕ, get_or, IsSomeAnd}
use Rattle.std.specs.declared.option.Option.TheVariants.{None}
use Rattle.iox2_domain.proofs.places.search_places.Given as goal

-- at no place so far stands the port
abbrev pub invariant-loop-place : goal.invariant-loop-place
invariant-loop-place g l = (k : ℕ) → k < l.place → IsSomeAnd (get_or l.ports k None) (λ x. g.P.Port.number x ≡ l.id) → ⊥
