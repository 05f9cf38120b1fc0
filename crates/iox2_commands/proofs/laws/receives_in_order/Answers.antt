use Rattle.iox2_commands.proofs.Order.{receives_in_order_law}
use Rattle.iox2_commands.proofs.laws.receives_in_order.Goals as goal

pub returns : goal.returns
returns g c = receives_in_order_law g.row.T.Denot g.row.U.Denot
