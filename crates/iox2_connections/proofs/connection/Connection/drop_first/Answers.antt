use Rattle.std.proofs.Common.{refl}
use Rattle.iox2_connections.proofs.LinkLemmas.{dropped_first}
use Rattle.iox2_connections.proofs.connection.Connection.drop_first.Goals as goal

pub returns-clause-drops : goal.returns-clause-drops
returns-clause-drops c =
    rw (← c.self.view_is) (dropped_first _ _ _ _ refl c.pop_front.ensures.value (rw c.pop_front.ensures.items refl))
