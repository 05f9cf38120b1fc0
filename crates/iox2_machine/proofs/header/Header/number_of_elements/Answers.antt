use Rattle.std.proofs.Common.{refl}
use Rattle.iox2_machine.proofs.header.Header.number_of_elements.Goals as goal

pub returns : goal.returns
returns c = refl
