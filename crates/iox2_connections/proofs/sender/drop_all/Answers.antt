use Rattle.iox2_connections.proofs.DropSteps.{drops-reclaims, all-dropped, drops-at}
use Rattle.iox2_connections.proofs.sender.drop_all.Goals as goal

pub returns-clause-drops : goal.returns-clause-drops
returns-clause-drops c =
    drops-at c.args.publisher c.args.book.now.holders c.reclaim_from.new.book.holders c.args.connections.now c.args.key
    c.index_mut-emptied.result.now c.reclaim_from.new.connection
    c.requires.apart c.requires.own c.index_mut-emptied.ensures.value
    (drops-reclaims c.args.book.now.holders c.drop_waiting.new.book.holders c.reclaim_from.new.book.holders
    c.index_mut-emptied.result.now c.drop_waiting.new.connection c.reclaim_from.new.connection
    c.drop_waiting.ensures.drops c.reclaim_from.ensures.reclaims)
    (all-dropped c.args.book.now.holders c.drop_waiting.new.book.holders c.reclaim_from.new.book.holders
    c.index_mut-emptied.result.now c.drop_waiting.new.connection c.reclaim_from.new.connection
    c.drop_waiting.ensures.drops c.drop_waiting.ensures.all c.drop_waiting.ensures.others
    c.reclaim_from.ensures.reclaims c.reclaim_from.ensures.all)
