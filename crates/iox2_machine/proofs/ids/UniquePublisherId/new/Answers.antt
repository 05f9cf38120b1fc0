use Rattle.std.proofs.Common.{refl}
use Rattle.iox2_machine.proofs.ids.UniquePublisherId.new.Goals as goal

pub returns : goal.returns
returns c = refl
