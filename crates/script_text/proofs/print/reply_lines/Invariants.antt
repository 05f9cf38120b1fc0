-- The text has a line for each reply so far.
use Rattle.std.proofs.Common.{◌≡◌, take, string_bytes}
use Rattle.script_text.specs.Replies.{reply_lines}
use Rattle.script_text.proofs.print.reply_lines.Given as goal

abbrev pub invariant-loop-reply : goal.invariant-loop-reply
invariant-loop-reply l = string_bytes l.text ≡ reply_lines (take l.reply-index l.replies)
