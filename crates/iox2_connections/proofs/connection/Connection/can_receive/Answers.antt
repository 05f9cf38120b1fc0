use Rattle.std.proofs.Common.{arith}
use Rattle.std.proofs.lemmas.Grind.{common_steps}
use Rattle.iox2_connections.proofs.connection.Connection.can_receive.Goals as goal

pub returns-then-has_data : goal.returns-then-has_data
returns-then-has_data c = grind (arith, common_steps)
