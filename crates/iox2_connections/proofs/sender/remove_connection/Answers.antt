use Rattle.iox2_connections.proofs.DropSteps.{dropped-there, removes-at}
use Rattle.iox2_connections.proofs.sender.remove_connection.Goals as goal

pub remove-requires : goal.remove-requires
remove-requires c = dropped-there c.args.publisher c.args.book.now.holders c.drop_all.new.book.holders
    c.args.connections.now c.drop_all.new.connections c.args.key c.drop_all.ensures.drops

pub returns-clause-removes : goal.returns-clause-removes
returns-clause-removes c =
    removes-at c.args.publisher c.args.book.now.holders c.drop_all.new.book.holders c.args.connections.now
    c.drop_all.new.connections c.remove.new.self c.args.key
    c.requires.unused c.drop_all.ensures.drops c.remove.ensures.updates
