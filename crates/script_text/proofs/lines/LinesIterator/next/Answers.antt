use Rattle.std.proofs.Common.{◌+◌, ◌-◌, sym, length, drop, arith}
use Rattle.std.proofs.lemmas.List.{length-drop, take_all}
use Rattle.script_text.proofs.LineFeeds.{lines-cons, lines-last}
use Rattle.script_text.proofs.lines.LinesIterator.next.Goals as goal

pub returns-in_default-clause-steps : goal.returns-in_default-clause-steps
returns-in_default-clause-steps c = lines-last c.args.self.now.rest.now (sym c.if-is_empty.ensures) c.in_default.ensures

pub returns-clause-steps : goal.returns-clause-steps
returns-clause-steps c =
    let text = c.args.self.now.rest.now in
    let (below, is, before) = c.in-Some.ensures in
    rw (
      c.without_carriage_return.ensures,
      take_all (length text - (c.in-Some.end + 1)) (drop (c.in-Some.end + 1) text)
          (omega (arith, length-drop (c.in-Some.end + 1) text)),
    )
    (lines-cons text c.in-Some.end below is before)
