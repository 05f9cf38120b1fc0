use Rattle.std.proofs.Common.{refl}
use Rattle.iox2_machine.proofs.errors.ConnectionFailureFromZeroCopyCreationError.from.Goals as goal

pub returns : goal.returns
returns c = refl
