-- How the program ends where it has no replies.
use Rattle.std.specs.Prelude.{ℕ, List, ◌++◌, codes}
use Rattle.std.specs.Fmt.{decimal}
use Rattle.script_text.specs.declared.failure.ScriptError.{ScriptError}
use Rattle.script_text.specs.declared.failure.ScriptError.TheVariants.{BadCommand, OutOfMemory, InputFailed}
use Rattle.script_text.specs.declared.failure.ScriptError.TheVariants.{OutputFailed}

-- The exit status: 2 for a malformed line, 3 for a failed allocation, 4 for a failing stream.
abbrev pub status_of : ScriptError → ℕ
status_of (BadCommand line) = 2
status_of OutOfMemory = 3
status_of InputFailed = 4
status_of OutputFailed = 4

-- What is printed on standard error; a malformed line is named by its number.
abbrev pub error_text : ScriptError → List ℕ
error_text (BadCommand line) = codes "line " ++ decimal line ++ codes ": bad command"
error_text OutOfMemory = codes "out of memory"
error_text InputFailed = codes "input failed"
error_text OutputFailed = codes "output failed"
