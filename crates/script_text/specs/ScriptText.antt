-- Which texts are scripts, and which line of another text is the first that isn't one of a script.
use Rattle.std.specs.Prelude.{ℕ, List, [], ◌∷◌, ◌++◌, ◌+◌, ◌≡◌, ◌⊎◌, length}
use Rattle.std.specs.Str.Lines.{lines}
use Rattle.iox2_machine.specs.declared.service_config.ServiceConfig.{ServiceConfig}
use Rattle.iox2_commands.specs.declared.command.Command.{Command}
use Rattle.script_text.specs.Commands.{NamesCommand, NamesDomain}
use Rattle.script_text.specs.declared.failure.ScriptError.{ScriptError}
use Rattle.script_text.specs.declared.failure.ScriptError.TheVariants.{BadCommand, OutOfMemory, InputFailed}
use Rattle.script_text.specs.declared.failure.ScriptError.TheVariants.{OutputFailed}

-- Each line names the command at its position.
abbrev pub NamesCommands : List (List ℕ) → List (Command ℕ ℕ) → Type 0
NamesCommands [] [] = Unit {0}
NamesCommands (line ∷ others) (c ∷ commands) = NamesCommand line c × NamesCommands others commands
NamesCommands _ _ = ⊥

-- The first line names the settings, and the others the commands.
pub record IsScript (text : List ℕ) (config : ServiceConfig) (commands : List (Command ℕ ℕ)) : Type 0 where
  pub first : List ℕ
  pub others : List (List ℕ)
  pub parts : lines text ≡ first ∷ others
  pub domain : NamesDomain first config
  pub names : NamesCommands others commands

-- There is no first line, or it names no settings.
abbrev pub HasNoDomain : List (List ℕ) → Type 0
HasNoDomain [] = Unit {0}
HasNoDomain (first ∷ others) = (config : ServiceConfig) → ¬ NamesDomain first config

-- The line with this number, counted from 1, names no command; those before it name settings and commands.
pub record HasBadCommand (text : List ℕ) (number : ℕ) : Type 0 where
  pub first : List ℕ
  pub config : ServiceConfig
  pub before : List (List ℕ)
  pub commands : List (Command ℕ ℕ)
  pub line : List ℕ
  pub after : List (List ℕ)
  pub parts : lines text ≡ first ∷ (before ++ line ∷ after)
  pub domain : NamesDomain first config
  pub names : NamesCommands before commands
  pub bad : (c : Command ℕ ℕ) → ¬ NamesCommand line c
  pub position : number ≡ length before + 2

-- The line with this number, counted from 1, is the first that isn't one of a script. A text without any line has it at
-- 1.
abbrev pub IsMalformedAt : List ℕ → ℕ → Type 0
IsMalformedAt text number = (number ≡ 1) × HasNoDomain (lines text) ⊎ HasBadCommand text number

-- A text is refused for its first malformed line, or because memory ran out.
abbrev pub IsRefused : List ℕ → ScriptError → Type 0
IsRefused text (BadCommand number) = IsMalformedAt text number
IsRefused text OutOfMemory = Unit {0}
IsRefused text InputFailed = ⊥
IsRefused text OutputFailed = ⊥
