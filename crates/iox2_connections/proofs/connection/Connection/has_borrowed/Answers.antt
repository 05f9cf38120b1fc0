use Rattle.std.proofs.Common.{arith}
use Rattle.std.proofs.lemmas.Grind.{common_steps}
use Rattle.iox2_connections.proofs.connection.Connection.has_borrowed.Goals as goal

pub returns : goal.returns
returns c = grind (arith, common_steps)
