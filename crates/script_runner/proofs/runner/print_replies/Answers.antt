use Rattle.std.proofs.Common.{rules, ◌≡◌, refl, inl, inr}
use Rattle.script_text.specs.Replies.{reply_lines}
use Rattle.script_runner.proofs.Writing.{Appends-kept, if_err}
use Rattle.script_runner.proofs.runner.print_replies.Goals as goal

pub returns-in_default-flush-clause-untouched : goal.returns-in_default-flush-clause-untouched
returns-in_default-flush-clause-untouched g c = λ other. absurd (other refl)

pub returns-in_err-played-clause-untouched : goal.returns-in_err-played-clause-untouched
returns-in_err-played-clause-untouched g c = if_err c.from_residual.result (λ error other. refl)

pub returns-in_default-clause-err : goal.returns-in_default-clause-err
returns-in_default-clause-err g c =
    let text : c.as_bytes.result.now ≡ reply_lines c.in_ok-played.played.replies.items = search rules in (
      c.in_ok-played.played.replies.items,
      c.in_ok-played.played.warnings.bytes,
      c.in_ok-played.ensures.ok,
      inr (rw (← text) c.in_default.ensures.err),
    )

pub returns-in_default-flush-clause-err : goal.returns-in_default-flush-clause-err
returns-in_default-flush-clause-err g c =
    let text : c.as_bytes.result.now ≡ reply_lines c.in_ok-played.played.replies.items = search rules in (
      c.in_ok-played.played.replies.items,
      c.in_ok-played.played.warnings.bytes,
      c.in_ok-played.ensures.ok,
      inl (Appends-kept _ _ _ _ (rw (← text) c.in-Ok.ensures.ok) c.in_default-flush.ensures.bytes),
    )
