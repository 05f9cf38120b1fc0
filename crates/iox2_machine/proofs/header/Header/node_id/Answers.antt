use Rattle.iox2_machine.proofs.header.Header.node_id.Goals as goal
use Rattle.std.proofs.Common.{refl}

pub returns : goal.returns
returns c = refl
