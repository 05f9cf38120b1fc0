-- Lemmas on texts that are scripts.
use Rattle.std.proofs.Common.{ℕ, ◌≡◌, List, [], ◌∷◌, ◌++◌, length, refl, arith}
use Rattle.iox2_commands.specs.declared.command.Command.{Command}
use Rattle.script_text.specs.Commands.{NamesCommand}
use Rattle.script_text.specs.ScriptText.{NamesCommands}

-- One more line names one more command.
pub NamesCommands-append : (others : List (List ℕ)) (commands : List (Command ℕ ℕ)) (line : List ℕ) (c : Command ℕ ℕ)
    → NamesCommands others commands → NamesCommand line c
    → NamesCommands (others ++ line ∷ []) (commands ++ c ∷ [])
NamesCommands-append [] [] line c names named = (named, tt)
NamesCommands-append [] (d ∷ commands) line c names named = absurd names
NamesCommands-append (other ∷ others) [] line c names named = absurd names
NamesCommands-append (other ∷ others) (d ∷ commands) line c names named =
    (names.0, NamesCommands-append others commands line c names.1 named)

-- There are as many commands as lines.
pub NamesCommands-length : (others : List (List ℕ)) (commands : List (Command ℕ ℕ)) → NamesCommands others commands
    → length others ≡ length commands
NamesCommands-length [] [] names = refl
NamesCommands-length [] (d ∷ commands) names = absurd names
NamesCommands-length (other ∷ others) [] names = absurd names
NamesCommands-length (other ∷ others) (d ∷ commands) names = omega (arith, NamesCommands-length others commands names.1)
