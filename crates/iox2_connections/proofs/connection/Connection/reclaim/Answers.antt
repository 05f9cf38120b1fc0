use Rattle.std.proofs.Common.{refl}
use Rattle.iox2_connections.proofs.LinkLemmas.{reclaimed_first}
use Rattle.iox2_connections.proofs.connection.Connection.reclaim.Goals as goal

pub returns-clause-reclaims : goal.returns-clause-reclaims
returns-clause-reclaims c =
    rw (← c.self.view_is) (reclaimed_first _ _ _ _ refl c.pop_front.ensures.value (rw c.pop_front.ensures.items refl))
