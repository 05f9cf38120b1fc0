use Rattle.std.proofs.Common.{refl}
use Rattle.iox2_machine.proofs.ids.UniqueNodeId.new.Goals as goal

pub returns : goal.returns
returns c = refl
