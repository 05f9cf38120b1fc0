use Rattle.std.proofs.Common.{◌≡◌, ◌+◌, map, Some, arith}
use Rattle.iox2_domain.proofs.lemmas.containers.KeyWalks.{HasKeyBelow, next-listed, all-listed}
use Rattle.iox2_steps.proofs.releases.Drops.{nothing-both}
use Rattle.iox2_updates.proofs.departures.borrows_at_keys.Goals as goal

pub loop-index-init : goal.loop-index-init
loop-index-init g c = λ k l has. absurd (omega (arith, has.1))

pub loop-index-preserved : goal.loop-index-preserved
loop-index-preserved g c =
    nothing-both c.args.connections.now c.args.subscriber
    (HasKeyBelow (map g.K.ListedKey.key_of c.args.keys.now) c.loop-index.index) (λ k. c.key.result ≡ Some k)
    (HasKeyBelow (map g.K.ListedKey.key_of c.args.keys.now) (c.loop-index.index + 1))
    c.loop-index.invariant (c.borrows_if_any.ensures.nothing c.if-borrows_if_any.false)
    (next-listed g.K.ListedKey.key_of c.args.keys.now c.loop-index.index c.index-keys-index.result c.key.result
    c.loop-index-test.true c.index-keys-index.is c.key.ensures)

pub returns-clause-nothing : goal.returns-clause-nothing
returns-clause-nothing g c = λ no k l has. c.loop-index.invariant k l
    (all-listed g.K.ListedKey.key_of c.args.keys.now c.loop-index.index k c.loop-index-test.false has)
