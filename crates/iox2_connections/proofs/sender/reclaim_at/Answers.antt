use Rattle.iox2_connections.proofs.ReclaimSteps.{reclaims-at}
use Rattle.iox2_connections.proofs.sender.reclaim_at.Goals as goal

pub returns-clause-reclaims : goal.returns-clause-reclaims
returns-clause-reclaims c =
    reclaims-at c.args.publisher c.args.book.now.holders c.reclaim_from.new.book.holders c.args.connections.now
    c.args.key c.index_mut.result.now c.reclaim_from.new.connection
    c.requires.apart c.requires.own c.index_mut.ensures.value c.reclaim_from.ensures.reclaims
