-- The commands that a message's bytes are.
use Rattle.std.specs.Prelude.{ℕ, List, [], ◌∷◌, ◌++◌, ◌+◌, Some, if◌then◌else◌, map, nat_eq}
use Rattle.iox2_commands.specs.declared.command.Command.{Command}
use Rattle.iox2_commands.specs.declared.command.Command.TheVariants.{Read, SetPayload, WriteAll}
use Rattle.iox2_commands.specs.declared.reply.Reply.{Reply}
use Rattle.iox2_commands.specs.declared.reply.Reply.TheVariants.{Cell, Done}

-- A read of each byte, from that one on.
abbrev pub reads_from : (of at : ℕ) → List ℕ → List (Command ℕ ℕ)
reads_from of at [] = []
reads_from of at (byte ∷ rest) = Read of at ∷ reads_from of (at + 1) rest

-- What these reads give.
abbrev pub cells : List ℕ → List (Reply ℕ ℕ)
cells bytes = map (λ byte. Cell (Some byte)) bytes

-- A change of each byte that isn't the value, from that one on.
abbrev pub changes_from : (of value at : ℕ) → List ℕ → List (Command ℕ ℕ)
changes_from of value at [] = []
changes_from of value at (byte ∷ rest) =
    (if nat_eq byte value then [] else SetPayload of at byte ∷ []) ++ changes_from of value (at + 1) rest

-- A write of the value to all bytes, and a change of each that is another.
abbrev pub writes : (of value : ℕ) → List ℕ → List (Command ℕ ℕ)
writes of value bytes = WriteAll of value ∷ changes_from of value 0 bytes

-- Each command is done.
abbrev pub all_done : List (Command ℕ ℕ) → List (Reply ℕ ℕ)
all_done commands = map (λ _. Done) commands
