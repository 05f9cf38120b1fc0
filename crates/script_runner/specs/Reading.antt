-- Reading a text to its end.
use Rattle.std.specs.Prelude.{ℕ, Bool, List, Option, ◌++◌, ◌≡◌, ◌⊎◌, IsTrue}
use Rattle.std.specs.Io.KnownBytes.{Consumes, IsAtEnd}
use Rattle.script_text.specs.declared.failure.ScriptError.{ScriptError}
use Rattle.script_text.specs.declared.failure.ScriptError.TheVariants.{OutOfMemory, InputFailed}

-- A read moved bytes from the front of what the reader has left to the end of the text, and may have found the reader
-- at its end.
abbrev pub MovesBytes : Option (List ℕ) → Option (List ℕ) → List ℕ → List ℕ → Bool → Type 0
MovesBytes left left' text text' is_at_end =
    (bytes : List ℕ) × Consumes left left' bytes × (text' ≡ text ++ bytes) × (IsTrue is_at_end → IsAtEnd left')

-- A read failed, or the text found no room.
abbrev pub IsReadFailure : ScriptError → Type 0
IsReadFailure error = (error ≡ OutOfMemory) ⊎ (error ≡ InputFailed)
