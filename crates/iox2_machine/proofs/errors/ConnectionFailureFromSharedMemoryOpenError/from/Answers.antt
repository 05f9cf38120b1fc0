use Rattle.std.proofs.Common.{refl}
use Rattle.iox2_machine.proofs.errors.ConnectionFailureFromSharedMemoryOpenError.from.Goals as goal

pub returns : goal.returns
returns c = refl
