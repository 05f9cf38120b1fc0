use Rattle.std.proofs.Common.{arith, ap, sym, ◌∙◌}
use Rattle.iox2_connections.specs.declared.further_channel.FurtherChannel.{FurtherChannel}
use Rattle.iox2_connections.proofs.FurtherLists.{nothing-in, one-more-unfilled}
use Rattle.iox2_connections.proofs.further_channel.first_filled.Goals as goal

pub loop-index-preserved : goal.loop-index-preserved
loop-index-preserved c =
    one-more-unfilled c.args.channels.now c.loop-index.index c.index-channels-index.result
    (omega arith) c.index-channels-index.is
    (ap (λ (x : FurtherChannel). x.waiting.items) c.index-channels-index.is
    ∙ nothing-in _ (sym c.is_empty.ensures ∙ c.if-not-is_empty.false)) c.loop-index.invariant
