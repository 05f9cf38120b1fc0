use Rattle.std.proofs.Common.{refl}
use Rattle.script_text.proofs.failure.ScriptErrorFromAllocError.from.Goals as goal

pub returns : goal.returns
returns c = refl
