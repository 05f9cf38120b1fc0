use Rattle.std.proofs.Common.{sym, ◌∙◌}
use Rattle.iox2_messages.proofs.AllChannels.{all-behind, not-here}
use Rattle.iox2_messages.proofs.channels.all_at_keys.Goals as goal

pub returns-then-not-is_in_no_other : goal.returns-then-not-is_in_no_other
returns-then-not-is_in_no_other g c =
    sym (c.loop-index.invariant
    ∙ not-here c.args.connections.now c.args.asked.channel c.args.asked.state g.K.ListedKey.key_of c.args.keys.now
    c.loop-index.index c.index-keys-index.result c.key.result c.is_in_no_other.result
    c.loop-index-test.true c.index-keys-index.is c.key.ensures c.is_in_no_other.ensures c.if-not-is_in_no_other.true)

pub loop-index-preserved : goal.loop-index-preserved
loop-index-preserved g c =
    c.loop-index.invariant
    ∙ all-behind c.args.connections.now c.args.asked.channel c.args.asked.state g.K.ListedKey.key_of c.args.keys.now
    c.loop-index.index c.index-keys-index.result c.key.result c.is_in_no_other.result
    c.loop-index-test.true c.index-keys-index.is c.key.ensures c.is_in_no_other.ensures c.if-not-is_in_no_other.false
