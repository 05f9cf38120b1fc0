use Rattle.std.proofs.Common.{ap, ◌∙◌, ◌++◌, sym}
use Rattle.script_text.specs.Replies.{reply_line}
use Rattle.script_text.proofs.ReplyLines.{flat_map-next}
use Rattle.script_text.proofs.print.reply_lines.Goals as goal

pub loop-reply-preserved : goal.loop-reply-preserved
loop-reply-preserved c =
    c.in_ok-push_line.ensures ∙ ap (λ text. text ++ reply_line c.reply-item.result) c.loop-reply.invariant
    ∙ sym (flat_map-next reply_line c.args.replies.now c.loop-reply.reply-index c.reply-item.result
    c.loop-reply-test.true c.reply-item.is)
