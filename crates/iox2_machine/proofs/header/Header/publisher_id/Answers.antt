use Rattle.std.proofs.Common.{refl}
use Rattle.iox2_machine.proofs.header.Header.publisher_id.Goals as goal

pub returns : goal.returns
returns c = refl
