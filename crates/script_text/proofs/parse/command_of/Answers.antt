use Rattle.std.proofs.Common.{◌∙◌, ap}
use Rattle.script_text.specs.Words.{texts}
use Rattle.script_text.proofs.LineLemmas.{command-named, command-refused, command-long}
use Rattle.script_text.proofs.parse.command_of.Goals as goal

pub returns-clause-reads : goal.returns-clause-reads
returns-clause-reads c =
    let (text, same) = c.in_ok-words.ensures.splits in
    command-named c.args.line.now c.deref.result.now c.parse_command.result text
    (ap texts c.deref.ensures.0 ∙ same) c.parse_command.ensures.reads

pub returns-clause-refuses : goal.returns-clause-refuses
returns-clause-refuses c =
    command-refused c.args.line.now c.deref.result.now c.parse_command.result
    (ap texts c.deref.ensures.0 ∙ c.in_ok-words.ensures.splits.1) c.parse_command.ensures.refuses

pub returns-in_err-words-clause-refuses : goal.returns-in_err-words-clause-refuses
returns-in_err-words-clause-refuses c =
    rw c.from_residual.ensures (command-long c.args.line.now c.in_err-words.ensures.refuses)
