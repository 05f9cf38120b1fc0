-- The statuses in which a script ends, and what its line on the errors is.
use Rattle.std.specs.Prelude.{ℕ, List, [], ◌∷◌, ◌++◌, ◌≡◌, ◌⊎◌}
use Rattle.script_text.specs.Failures.{error_text, status_of}
use Rattle.script_text.specs.declared.failure.ScriptError.{ScriptError}
use Rattle.script_runner.specs.declared.ending.Ending.{Ending}
use Rattle.script_runner.specs.declared.ending.Ending.TheVariants.{Printed, Unwarned, Reported, Unreported}

-- The exit status: 0 where all replies are written, and else that of the failure.
abbrev pub ending_status : Ending → ℕ
ending_status Printed = 0
ending_status Unwarned = 0
ending_status (Reported error) = status_of error
ending_status (Unreported error) = status_of error

-- The exit status is 0, 2, 3 or 4.
abbrev pub IsStatus : ℕ → Type 0
IsStatus status = (status ≡ 0) ⊎ (status ≡ 2) ⊎ (status ≡ 3) ⊎ (status ≡ 4)

-- The text of a failure, and a line feed.
abbrev pub error_line : ScriptError → List ℕ
error_line error = error_text error ++ 10 ∷ []

-- The script failed with this.
abbrev pub FailsWith : Ending → ScriptError → Type 0
FailsWith ending error = (ending ≡ Reported error) ⊎ (ending ≡ Unreported error)
