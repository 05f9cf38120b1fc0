-- The text has a line for each warning so far, of limited length each.
use Rattle.std.proofs.Common.{◌≡◌, ◌≤◌, ◌+◌, ◌*◌, ◌++◌, length, take}
use Rattle.script_text.specs.Warnings.{warning_lines}
use Rattle.script_text.proofs.warnings.push_lines.Given as goal

abbrev pub invariant-loop-warning : goal.invariant-loop-warning
invariant-loop-warning l =
    (l.lines.bytes ≡ l.initial.lines.bytes ++ warning_lines (take l.warning-index l.warnings))
    × (length l.lines.bytes ≤ length l.initial.lines.bytes + 34 * l.warning-index)
