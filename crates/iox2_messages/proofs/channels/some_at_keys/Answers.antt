use Rattle.std.proofs.Common.{sym, ◌∙◌}
use Rattle.iox2_messages.proofs.AskedChannels.{some-behind, some-here}
use Rattle.iox2_messages.proofs.channels.some_at_keys.Goals as goal

pub returns-then-is_in_state : goal.returns-then-is_in_state
returns-then-is_in_state g c =
    sym (c.loop-index.invariant
    ∙ some-here c.args.connections.now c.args.asked.channel c.args.asked.state g.K.ListedKey.key_of c.args.keys.now
    c.loop-index.index c.index-keys-index.result c.key.result c.is_in_state.result
    c.loop-index-test.true c.index-keys-index.is c.key.ensures c.is_in_state.ensures c.if-is_in_state.true)

pub loop-index-preserved : goal.loop-index-preserved
loop-index-preserved g c =
    c.loop-index.invariant
    ∙ some-behind c.args.connections.now c.args.asked.channel c.args.asked.state g.K.ListedKey.key_of c.args.keys.now
    c.loop-index.index c.index-keys-index.result c.key.result c.is_in_state.result
    c.loop-index-test.true c.index-keys-index.is c.key.ensures c.is_in_state.ensures c.if-is_in_state.false
