use Rattle.iox2_connections.proofs.connection.Connection.borrowed.Goals as goal

pub returns : goal.returns
returns c = rw (← c.self.view_is) c.deref.ensures.value
