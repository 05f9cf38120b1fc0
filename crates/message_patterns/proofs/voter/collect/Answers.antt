use Rattle.std.proofs.Common.{[], ◌∷◌}
use Rattle.message_patterns.proofs.Middles.{middle-of-votes}
use Rattle.message_patterns.proofs.voter.collect.Goals as goal

pub returns-clause-middle : goal.returns-clause-middle
returns-clause-middle c = λ x y z wait.
    let first = c.in_ok-first.ensures.picks (x ∷ y ∷ z ∷ []) wait in
    let second = c.in_ok-second.ensures.picks first.0 first.2 in
    let third = c.in_ok-third.ensures.picks second.0 second.2 in
    middle-of-votes c.median.result _ _ _ x y z first.0 second.0 third.0 c.median.ensures first.1 second.1 third.1
