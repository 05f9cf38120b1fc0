-- What is kept of calls on messages.
use Rattle.std.specs.Prelude.{ℕ, List, [], ◌∷◌, ◌++◌, ◌≡◌, ◌<◌, length, take}
use Rattle.iox2_commands.specs.declared.command.Command.TheVariants.{LoanSlice, Receive, Release, Send}
use Rattle.iox2_commands.specs.declared.reply.Reply.{Reply}
use Rattle.iox2_commands.specs.declared.reply.Reply.TheVariants.{Done, Loaned, Sample}
use Rattle.call_recorder.specs.Bytes.{all_done, cells, reads_from, writes}
use Rattle.call_recorder.specs.Recorder.{Calls, Keeps}

-- The first bytes of a loan are written, and the others, which aren't kept, are 0. There is room for a send behind
-- that.
abbrev pub KeepsBytes : (loan : ℕ) (bytes : List ℕ) (old new : Calls) → Type 0
KeepsBytes loan bytes old new = (value : ℕ) × (old.bytes < length bytes → value ≡ 0)
    × Keeps 1 old new (writes loan value (take old.bytes bytes)) (all_done (writes loan value (take old.bytes bytes)))

-- A loan of a publisher's was written so and sent, which had this reply.
abbrev pub KeepsCopy : (publisher : ℕ) (bytes : List ℕ) (reply : Reply ℕ ℕ) (old new : Calls) → Type 0
KeepsCopy publisher bytes reply old new = (value : ℕ) × (old.bytes < length bytes → value ≡ 0)
    × Keeps 0 old new
    (LoanSlice publisher (length bytes) ∷ writes (length old.commands) value (take old.bytes bytes) ++ Send
    (length old.commands) ∷ [])
    (Loaned ∷ all_done (writes (length old.commands) value (take old.bytes bytes)) ++ reply ∷ [])

-- A subscriber received a message of the publisher with this id, and each of its first bytes was read.
abbrev pub KeepsReceived : (subscriber origin : ℕ) (bytes : List ℕ) (old new : Calls) → Type 0
KeepsReceived subscriber origin bytes old new = Keeps 0 old new
    (Receive subscriber ∷ reads_from (length old.commands) 0 (take old.bytes bytes))
    (Sample origin ∷ cells (take old.bytes bytes))

-- It was released then.
abbrev pub KeepsTaken : (subscriber origin : ℕ) (bytes : List ℕ) (old new : Calls) → Type 0
KeepsTaken subscriber origin bytes old new = Keeps 0 old new
    (Receive subscriber ∷ reads_from (length old.commands) 0 (take old.bytes bytes) ++ Release
    (length old.commands) ∷ [])
    (Sample origin ∷ cells (take old.bytes bytes) ++ Done ∷ [])
