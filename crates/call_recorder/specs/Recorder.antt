-- What a recorder keeps.
use Rattle.std.specs.Prelude.{ℕ, List, ◌++◌, ◌≡◌, ◌≢◌, ◌≤◌, ◌+◌, ◌-◌, ◌↔◌, length, min, take}
use Rattle.iox2_commands.specs.declared.command.Command.{Command}
use Rattle.iox2_commands.specs.declared.reply.Reply.{Reply}

-- Calls as commands with their replies. There is room for so many, so many more weren't kept, and so many bytes of a
-- message are kept.
pub record Calls : Type 0 where
  pub commands : List (Command ℕ ℕ)
  pub replies : List (Reply ℕ ℕ)
  pub room : ℕ
  pub missed : ℕ
  pub bytes : ℕ

-- No command was missed, and there is room for that many more.
abbrev pub HasCommandRoom : Calls → ℕ → Type 0
HasCommandRoom calls count = (calls.missed ≡ 0) × (length calls.commands + count ≤ calls.room)

-- How many commands are missed with that many more, as far as 64 bits count.
abbrev pub with_missed : ℕ → ℕ → ℕ
with_missed missed more = min (missed + more) 18446744073709551615

-- All of these commands are kept with their replies behind the others, exactly where none was missed before and there
-- is room for them and for so many more; else none of them is kept, what is kept stays, and they are counted as missed.
pub record Keeps (more : ℕ) (old new : Calls) (commands : List (Command ℕ ℕ))
    (replies : List (Reply ℕ ℕ)) : Type 0 where
  pub whole : (new.missed ≡ 0) ↔ HasCommandRoom old (length commands + more)
  pub kept : new.missed ≡ 0 → (new.commands ≡ old.commands ++ commands) × (new.replies ≡ old.replies ++ replies)
  pub missed : new.missed ≢ 0 → (new.commands ≡ old.commands) × (new.replies ≡ old.replies)
      × (new.missed ≡ with_missed old.missed (length commands))
  pub room : new.room ≡ old.room
  pub bytes : new.bytes ≡ old.bytes

-- The same of the first commands of a call: where there is no room for them all, some may be kept, and the others are
-- counted as missed.
pub record Begins (old new : Calls) (commands : List (Command ℕ ℕ)) (replies : List (Reply ℕ ℕ)) : Type 0 where
  pub whole : (new.missed ≡ 0) ↔ HasCommandRoom old (length commands)
  pub kept : new.missed ≡ 0 → (new.commands ≡ old.commands ++ commands) × (new.replies ≡ old.replies ++ replies)
  pub commands_stay : take (length old.commands) new.commands ≡ old.commands
  pub replies_stay : take (length old.replies) new.replies ≡ old.replies
  pub within : length new.commands ≤ length old.commands + length commands
  pub missed : new.missed ≡ with_missed old.missed (length old.commands + length commands - length new.commands)
  pub room : new.room ≡ old.room
  pub bytes : new.bytes ≡ old.bytes
