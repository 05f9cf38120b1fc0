use Rattle.iox2_connections.proofs.TakenSlots.{counted-once}
use Rattle.iox2_connections.proofs.connection.Connection.release.Goals as goal

pub take_slot-requires : goal.take_slot-requires
take_slot-requires c = counted-once c.args.slot _ (rw (← c.self.view_is) at c.requires.once)
