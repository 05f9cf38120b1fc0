use Rattle.std.proofs.Common.{◌==◌, ◌<◌, ap, length, subst, sym, lit<}
use Rattle.std.proofs.lemmas.Iterator.Splits.{YieldsList-from_str_split}
use Rattle.std.specs.List.{slice_split}
use Rattle.script_text.specs.Words.{line_words}
use Rattle.script_text.proofs.WordLemmas.{word-stored, word-refused, piece-left_out, all-stored}
use Rattle.script_text.proofs.parse.split_words.Goals as goal

pub loop-word-init : goal.loop-word-init
loop-word-init c =
    let split = c.split-word-items.ensures in
    let (text, utf8) = c.in-Ok.ensures.cases in
    rw (c.into_iter-word-iterator.ensures.into_iter_gives, c.new-words.ensures) (
      slice_split (λ b. b == 32) c.in-Ok.text.now,
      (YieldsList-from_str_split 32 c.in-Ok.text.now (lit< tt) split.text split.has_more split.pattern).runs,
      ap line_words (sym text),
    )

pub returns-clause-splits : goal.returns-clause-splits
returns-clause-splits c =
    let (left, yields, is) = c.loop-word.invariant in
    let (text, utf8) = c.in-Ok.ensures.cases in
    (utf8, all-stored _ c.next.new.self _ left _ yields is c.in-None.ensures.steps)

pub loop-word-preserved : goal.loop-word-preserved
loop-word-preserved c =
    let (left, yields, is) = c.loop-word.invariant in
    piece-left_out _ c.next.new.self _ left _ c.in-Some.word yields is c.in-Some.ensures.steps c.if-not-is_empty.ensures

pub loop-word-preserved-in-Ok-try_push : goal.loop-word-preserved-in-Ok-try_push
loop-word-preserved-in-Ok-try_push c =
    let (left, yields, is) = c.loop-word.invariant in
    word-stored _ c.next.new.self _ left _ c.try_push.new.self.items c.in-Some.word yields is c.in-Some.ensures.steps
    c.if-not-is_empty.ensures c.in-Ok-try_push.ensures.ok

pub returns-in_default-try_push-clause-refuses : goal.returns-in_default-try_push-clause-refuses
returns-in_default-try_push-clause-refuses c =
    let (left, yields, is) = c.loop-word.invariant in
    let more = word-refused _ c.next.new.self _ left _ c.in-Some.word yields is c.in-Some.ensures.steps
    c.if-not-is_empty.ensures in
    λ utf8. subst (λ n. n < length (line_words c.args.line.now)) c.in_default-try_push.ensures.full more
