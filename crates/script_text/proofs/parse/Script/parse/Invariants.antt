-- The first line names the settings, and each line so far after it a command. There is room for a command of each line.
use Rattle.std.proofs.Common.{ℕ, ◌≡◌, ◌≤◌, List, ◌∷◌, ◌++◌, length}
use Rattle.std.specs.Prelude.{vec_capacity}
use Rattle.std.specs.Str.Lines.{lines}
use Rattle.script_text.specs.Commands.{NamesDomain}
use Rattle.script_text.specs.ScriptText.{NamesCommands}
use Rattle.script_text.proofs.parse.Script.parse.Given as goal

abbrev pub invariant-loop-line : goal.invariant-loop-line
invariant-loop-line l =
    (first : List ℕ) × (before : List (List ℕ)) × (lines l.text ≡ first ∷ (before ++ lines l.line-iterator.rest.now))
    × NamesDomain first l.config × NamesCommands before l.commands.items
    × (length (lines l.text) ≤ vec_capacity l.commands)
