use Rattle.iox2_commands.proofs.Order.{receives_in_order_law}
use Rattle.iox2_commands.proofs.ReadLaws.{reads_law}
use Rattle.iox2_commands.proofs.laws.reads_give_what_was_sent.Goals as goal

pub returns : goal.returns
returns g c = reads_law g.row.T.Denot g.row.U.Denot (receives_in_order_law g.row.T.Denot g.row.U.Denot)
