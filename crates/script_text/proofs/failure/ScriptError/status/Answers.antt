use Rattle.std.proofs.Common.{refl}
use Rattle.script_text.proofs.failure.ScriptError.status.Goals as goal

pub returns-in-BadCommand : goal.returns-in-BadCommand
returns-in-BadCommand c = rw c.in-BadCommand.is refl
