use Rattle.std.proofs.Common.{rules}
use Rattle.script_text.proofs.parse.parse_number.Goals as goal

pub returns-clause-known : goal.returns-clause-known
returns-clause-known c = search rules
