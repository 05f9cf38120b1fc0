use Rattle.std.proofs.Common.{◌∙◌, ap}
use Rattle.script_text.specs.Words.{texts}
use Rattle.script_text.proofs.LineLemmas.{domain-named, domain-refused, domain-long}
use Rattle.script_text.proofs.parse.domain_of.Goals as goal

pub returns-clause-reads : goal.returns-clause-reads
returns-clause-reads c =
    let (text, same) = c.in_ok-words.ensures.splits in
    domain-named c.args.line.now c.deref.result.now c.parse_domain.result text
    (ap texts c.deref.ensures.0 ∙ same) c.parse_domain.ensures.reads

pub returns-clause-refuses : goal.returns-clause-refuses
returns-clause-refuses c =
    domain-refused c.args.line.now c.deref.result.now c.parse_domain.result
    (ap texts c.deref.ensures.0 ∙ c.in_ok-words.ensures.splits.1) c.parse_domain.ensures.refuses

pub returns-in_err-words-clause-refuses : goal.returns-in_err-words-clause-refuses
returns-in_err-words-clause-refuses c =
    rw c.from_residual.ensures (domain-long c.args.line.now c.in_err-words.ensures.refuses)
