use Rattle.std.proofs.Common.{rules}
use Rattle.script_runner.proofs.source.read_more.Goals as goal

pub returns-in_ok-extend_from_slice-in-Ok-clause-ok : goal.returns-in_ok-extend_from_slice-in-Ok-clause-ok
returns-in_ok-extend_from_slice-in-Ok-clause-ok g c = search rules
