use Rattle.std.proofs.Common.{ℕ, ap, refl, sym, ◌∙◌}
use Rattle.circular_buffer.specs.Buffer.{Buffer}
use Rattle.iox2_machine.specs.declared.warning.Warning.{Warning}
use Rattle.iox2_machine.specs.machine.State.{State, fresh, no_messages}
use Rattle.script_text.specs.Warnings.{warning_lines}
use Rattle.script_runner.proofs.replies.play.Goals as goal

pub returns-clause-ok : goal.returns-clause-ok
returns-clause-ok g c =
    let (events, m', s', shows, run, faithful, grants) =
    c.in-Ok-run.ensures.ran no_messages (fresh c.in_ok-script.script.config) c.in-Ok.ensures.fresh in
    let lines =
    c.warning_lines-warnings.ensures ∙ ap (λ (ring : Buffer Warning). warning_lines ring.items) c.warnings.ensures
    ∙ ap (λ (s : State ℕ ℕ). warning_lines (s.warnings).latest) (sym shows.state) in (
      (s'.warnings).latest,
      (
        c.deref.result.now,
        c.in_ok-script.script.config,
        c.in_ok-script.script.commands.items,
        rw c.deref.ensures.value c.in_ok-text.ensures.ok,
        c.in_ok-script.ensures.ok,
        (events, m', s', run, refl),
      ),
      lines,
    )

pub returns-in_default-clause-err : goal.returns-in_default-clause-err
returns-in_default-clause-err g c = tt

pub returns-in_default-run-clause-err : goal.returns-in_default-run-clause-err
returns-in_default-run-clause-err g c = tt
