use Rattle.std.proofs.Common.{rules}
use Rattle.script_text.proofs.print.push_reply.Goals as goal

pub returns-in-Skipped : goal.returns-in-Skipped
returns-in-Skipped c = search rules
