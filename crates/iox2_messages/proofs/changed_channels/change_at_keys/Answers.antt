use Rattle.std.proofs.Common.{map, ◌∙◌}
use Rattle.iox2_connections.proofs.Searches.{listed-at}
use Rattle.iox2_domain.proofs.lemmas.containers.KeyWalks.{HasKeyBelow}
use Rattle.iox2_messages.proofs.ChangedLinks.{still-connected, walk-begins, walk-goes, walk-ends}
use Rattle.iox2_messages.proofs.changed_channels.change_at_keys.Goals as goal

pub loop-index-init : goal.loop-index-init
loop-index-init g c = walk-begins c.args.change c.args.channel c.args.expected
    (map g.K.ListedKey.key_of c.args.keys.now) c.args.connections.now

pub change_at-requires : goal.change_at-requires
change_at-requires g c = λ k is.
    (still-connected c.args.change c.args.channel c.args.expected
    (HasKeyBelow (map g.K.ListedKey.key_of c.args.keys.now) c.loop-index.index) c.args.connections.now
    c.loop-index.connections c.loop-index.invariant
    (map g.K.ListedKey.key_of c.args.keys.now) c.requires).at
    c.loop-index.index k (listed-at g.K.ListedKey.key_of c.args.keys.now c.loop-index.index c.index-keys-index.result
    c.key.result c.loop-index-test.true c.index-keys-index.is c.key.ensures ∙ is)

pub loop-index-preserved : goal.loop-index-preserved
loop-index-preserved g c =
    walk-goes c.args.change c.args.channel c.args.expected g.K.ListedKey.key_of c.args.keys.now c.loop-index.index
    c.index-keys-index.result c.key.result c.loop-index-test.true c.index-keys-index.is c.key.ensures
    c.args.connections.now c.loop-index.connections c.change_at.new.connections c.loop-index.invariant
    c.change_at.ensures

pub returns : goal.returns
returns g c = walk-ends c.args.change c.args.channel c.args.expected g.K.ListedKey.key_of c.args.keys.now
    c.loop-index.index c.args.connections.now c.loop-index.connections c.loop-index.invariant c.loop-index-test.false
