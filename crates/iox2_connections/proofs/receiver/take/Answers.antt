use Rattle.iox2_connections.proofs.TakeSteps.{takes-taken, keeps-returned}
use Rattle.iox2_connections.proofs.receiver.take.Goals as goal

pub returns-clause-takes : goal.returns-clause-takes
returns-clause-takes c =
    takes-taken c.args.connections.now c.args.key c.unwrap.result c.index_mut-connection.result.now c.take.new.self
    c.requires.apart c.index_mut-connection.ensures.value
    (rw c.unwrap.ensures at c.take.ensures.takes)

pub returns-clause-returned : goal.returns-clause-returned
returns-clause-returned c =
    keeps-returned c.args.connections.now c.args.key c.unwrap.result c.index_mut-connection.result.now c.take.new.self
    c.index_mut-connection.ensures.value
    (rw c.unwrap.ensures at c.take.ensures.takes)
