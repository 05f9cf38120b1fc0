use Rattle.std.proofs.Common.{ℕ}
use Rattle.std.proofs.lemmas.Result.{IfOk-weaker}
use Rattle.message_patterns.specs.Votes.{IsMiddle}
use Rattle.message_patterns.proofs.Middles.{majority, middle-swap, middle-turn}
use Rattle.message_patterns.proofs.voter.vote.Goals as goal

-- the middle one in the other order
middle-of : (a b c it : ℕ) → IsMiddle it c b a → IsMiddle it a b c
middle-of a b c it is = middle-swap it b a c (middle-turn it c b a is)

pub collect-requires-clause-three : goal.collect-requires-clause-three
collect-requires-clause-three c =
    (c.in_ok-cast_all.ensures.cast c.args.subscriber.now c.requires.drained c.requires.connected.0
    c.requires.connected.1 c.requires.connected.2).all

pub returns-clause-middle : goal.returns-clause-middle
returns-clause-middle c =
    let wait = c.in_ok-cast_all.ensures.cast c.args.subscriber.now c.requires.drained c.requires.connected.0
    c.requires.connected.1 c.requires.connected.2 in
    IfOk-weaker c.collect.result _ _ (λ it of.
    middle-of c.args.readings.0 c.args.readings.1 c.args.readings.2 it (of _ _ _ wait)) c.collect.ensures.middle

pub returns-clause-majority : goal.returns-clause-majority
returns-clause-majority c =
    let wait = c.in_ok-cast_all.ensures.cast c.args.subscriber.now c.requires.drained c.requires.connected.0
    c.requires.connected.1 c.requires.connected.2 in
    let a = c.args.readings.0 in
    let b = c.args.readings.1 in
    let d = c.args.readings.2 in
    IfOk-weaker c.collect.result _ _ (λ it of.
    let is = middle-of a b d it (of _ _ _ wait) in (
      majority it a b d is,
      majority it a d b (middle-swap it d a b (middle-turn it b d a (middle-turn it a b d is))),
      majority it b d a (middle-turn it a b d is),
    )) c.collect.ensures.middle
