use Rattle.std.proofs.Common.{◌≡◌, ◌+◌, map, Some, arith}
use Rattle.iox2_domain.specs.Departures.{HasKey}
use Rattle.iox2_domain.proofs.lemmas.containers.KeyWalks.{HasKeyBelow, next-listed, all-listed}
use Rattle.iox2_steps.proofs.releases.Drops.{drops-none, drops-both, drops-among}
use Rattle.iox2_updates.proofs.departures.remove_at_keys.Goals as goal

pub loop-index-init : goal.loop-index-init
loop-index-init g c = drops-none c.args.publishers.now c.args.subscriber
    (HasKeyBelow (map g.K.ListedKey.key_of c.args.keys.now) 0) c.args.connections.now (λ k has. omega (arith, has.1))

pub loop-index-preserved : goal.loop-index-preserved
loop-index-preserved g c =
    drops-both c.args.publishers.now c.args.subscriber
    (HasKeyBelow (map g.K.ListedKey.key_of c.args.keys.now) c.loop-index.index) (λ k. c.key.result ≡ Some k)
    (HasKeyBelow (map g.K.ListedKey.key_of c.args.keys.now) (c.loop-index.index + 1))
    c.args.connections.now c.loop-index.connections c.remove_if_unshared.new.connections c.loop-index.invariant
    c.remove_if_unshared.ensures
    (next-listed g.K.ListedKey.key_of c.args.keys.now c.loop-index.index c.index-keys-index.result c.key.result
    c.loop-index-test.true c.index-keys-index.is c.key.ensures)

pub returns : goal.returns
returns g c = drops-among c.args.publishers.now c.args.subscriber
    (HasKeyBelow (map g.K.ListedKey.key_of c.args.keys.now) c.loop-index.index)
    (HasKey (map g.K.ListedKey.key_of c.args.keys.now)) c.args.connections.now c.loop-index.connections
    c.loop-index.invariant
    (λ k has. all-listed g.K.ListedKey.key_of c.args.keys.now c.loop-index.index k c.loop-index-test.false has)
