use Rattle.std.proofs.Common.{[], ◌∷◌, ◌++◌, ◌≡◌, length, refl, sym, ap, ◌∙◌, append_assoc, append-nil, length-append}
use Rattle.std.proofs.Common.{inr, arith}
use Rattle.std.proofs.lemmas.Iterator.Consumers.{YieldsList-from_first, count_from_yields_List}
use Rattle.std.specs.Str.Lines.{lines}
use Rattle.script_text.proofs.ScriptTextLemmas.{NamesCommands-append, NamesCommands-length}
use Rattle.script_text.proofs.parse.Script.parse.Goals as goal

pub loop-line-init : goal.loop-line-init
loop-line-init c = (
  c.in-Some.first.now,
  [],
  rw c.into_iter-line-iterator.ensures.into_iter_gives c.in-Some.ensures.steps,
  c.in-Some-domain_of.ensures.reads,
  rw c.in_ok-commands.ensures.items tt,
  omega (
    arith,
    c.in_ok-commands.ensures.capacity,
    count_from_yields_List _ c.count.result c.count.ensures.ran
        (YieldsList-from_first (λ line. line.now) (λ text. lines text.rest.now) (lines c.args.text.now) refl),
  ),
)

pub loop-line-preserved : goal.loop-line-preserved
loop-line-preserved c =
    let (first, before, parts, domain, names, room) = c.loop-line.invariant in
    let line = c.in-Some-line.line.now in
    let others = lines c.next-in-loop-line.new.self.rest.now in (
      first,
      before ++ line ∷ [],
      parts ∙ ap (λ z. first ∷ (before ++ z)) c.in-Some-line.ensures.steps
          ∙ ap (λ z. first ∷ z) (sym (append_assoc before (line ∷ []) others)),
      domain,
      rw c.push_reserved.ensures.items
          (NamesCommands-append before c.loop-line.commands.items line c.in-Some-command_of.command names
          c.in-Some-command_of.ensures.reads),
      omega (arith, c.push_reserved.ensures.capacity, room),
    )

pub push_reserved-requires : goal.push_reserved-requires
push_reserved-requires c =
    let (first, before, parts, domain, names, room) = c.loop-line.invariant in
    let others = lines c.next-in-loop-line.new.self.rest.now in
    let all : lines c.args.text.now ≡ first ∷ (before ++ c.in-Some-line.line.now ∷ others) =
    parts ∙ ap (λ z. first ∷ (before ++ z)) c.in-Some-line.ensures.steps in
    omega (
      arith,
      room,
      ap length all,
      length-append before (c.in-Some-line.line.now ∷ others),
      NamesCommands-length before c.loop-line.commands.items names,
    )

pub returns-in_default-command_of-clause-err : goal.returns-in_default-command_of-clause-err
returns-in_default-command_of-clause-err c =
    let (first, before, parts, domain, names, room) = c.loop-line.invariant in
    inr (record {
      first = first;
      config = c.in-Some-domain_of.config;
      before = before;
      commands = c.loop-line.commands.items;
      line = c.in-Some-line.line.now;
      after = lines c.next-in-loop-line.new.self.rest.now;
      parts = parts ∙ ap (λ z. first ∷ (before ++ z)) c.in-Some-line.ensures.steps;
      domain = domain;
      names = names;
      bad = c.in_default-command_of.ensures.refuses;
      position = omega (arith, c.len.ensures, NamesCommands-length before c.loop-line.commands.items names);
    })

pub returns-clause-ok : goal.returns-clause-ok
returns-clause-ok c =
    let (first, before, parts, domain, names, room) = c.loop-line.invariant in
    record {
      first = first;
      others = before;
      parts =
          parts ∙ ap (λ z. first ∷ (before ++ z)) c.in-None.ensures.steps.0 ∙ ap (λ z. first ∷ z) (append-nil before);
      domain = domain;
      names = names;
    }
