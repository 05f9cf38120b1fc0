-- How a script ends.
use Rattle.std.specs.Prelude.{ℕ, List, Option, IfSome, ◌≡◌, ◌⊎◌}
use Rattle.std.specs.Io.KnownBytes.{Appends, Keeps}
use Rattle.iox2_machine.specs.declared.service_config.ServiceConfig.{ServiceConfig}
use Rattle.iox2_machine.specs.machine.Environments.{fixed_handlers}
use Rattle.iox2_machine.specs.machine.State.{State, Messages, fresh, no_messages}
use Rattle.iox2_machine.specs.declared.warning.Warning.{Warning}
use Rattle.iox2_commands.specs.Outcomes.{Event}
use Rattle.iox2_commands.specs.Runs.{Run, only_defaults}
use Rattle.iox2_commands.specs.declared.command.Command.{Command}
use Rattle.iox2_commands.specs.declared.reply.Reply.{Reply}
use Rattle.script_text.specs.Replies.{reply_lines}
use Rattle.script_text.specs.ScriptText.{IsMalformedAt, IsScript}
use Rattle.script_text.specs.Warnings.{warning_lines}
use Rattle.script_text.specs.declared.failure.ScriptError.{ScriptError}
use Rattle.script_text.specs.declared.failure.ScriptError.TheVariants.{BadCommand, OutOfMemory, InputFailed}
use Rattle.script_text.specs.declared.failure.ScriptError.TheVariants.{OutputFailed}
use Rattle.script_runner.specs.Writing.{AppendsPart}

-- The text is all that the input had left, where that is known.
abbrev pub IsAllOf : Option (List ℕ) → List ℕ → Type 0
IsAllOf input text = IfSome input (λ bytes. text ≡ bytes)

-- On a new domain with these settings, a run of the commands has these replies, and leaves these as its last warnings.
abbrev pub RunsTo : ServiceConfig → List (Command ℕ ℕ) → List (Reply ℕ ℕ) → List Warning → Type 0
RunsTo config commands replies warnings =
    (events : List (Event ℕ ℕ)) × (m' : Messages ℕ ℕ) × (s' : State ℕ ℕ)
    × Run fixed_handlers (only_defaults 0 0) no_messages (fresh config) commands replies events m' s'
    × (warnings ≡ (s'.warnings).latest)

-- The input was a script, and these are the replies and the last warnings of a run of its commands.
abbrev pub AreReplies : Option (List ℕ) → List (Reply ℕ ℕ) → List Warning → Type 0
AreReplies input replies warnings =
    (text : List ℕ) × (config : ServiceConfig) × (commands : List (Command ℕ ℕ)) × IsAllOf input text
    × IsScript text config commands × RunsTo config commands replies warnings

-- The input was a script with these replies, and these are the lines of its warnings.
abbrev pub ArePlayed : Option (List ℕ) → List (Reply ℕ ℕ) → (lines : List ℕ) → Type 0
ArePlayed input replies lines =
    (warnings : List Warning) × AreReplies input replies warnings × (lines ≡ warning_lines warnings)

-- The input was a script with these lines of warnings, and the output grew by a line for each of its replies, and by
-- nothing else.
abbrev pub PrintsReplies : (input output output' : Option (List ℕ)) → (warning_text : List ℕ) → Type 0
PrintsReplies input output output' warning_text =
    (replies : List (Reply ℕ ℕ)) × ArePlayed input replies warning_text × Appends output output' (reply_lines replies)

-- The input was a script, the output grew by a line for each of its replies, and the errors by one for each of its last
-- warnings.
abbrev pub PrintsAll : (input output output' errors errors' : Option (List ℕ)) → Type 0
PrintsAll input output output' errors errors' =
    (lines : List ℕ) × PrintsReplies input output output' lines × Appends errors errors' lines

-- The same, except that the errors have only some first bytes of the lines of its warnings.
abbrev pub PrintsRepliesAlone : (input output output' errors errors' : Option (List ℕ)) → Type 0
PrintsRepliesAlone input output output' errors errors' =
    (lines : List ℕ) × PrintsReplies input output output' lines × AppendsPart errors errors' lines

-- The input was a script, and the output grew by some first bytes of those lines, or by all of them, and by nothing
-- else.
abbrev pub BeginsReplies : (input output output' : Option (List ℕ)) → Type 0
BeginsReplies input output output' =
    (replies : List (Reply ℕ ℕ)) × (lines : List ℕ) × ArePlayed input replies lines
    × (Appends output output' (reply_lines replies) ⊎ AppendsPart output output' (reply_lines replies))

-- The input was no script: this is its first malformed line.
abbrev pub IsMalformedInput : Option (List ℕ) → ℕ → Type 0
IsMalformedInput input line = (text : List ℕ) × IsAllOf input text × IsMalformedAt text line

-- Why an input has no replies: a malformed line is blamed only where it is the first such line of the input, and the
-- output never.
abbrev pub IsInputFailure : Option (List ℕ) → ScriptError → Type 0
IsInputFailure input (BadCommand line) = IsMalformedInput input line
IsInputFailure input OutOfMemory = Unit {0}
IsInputFailure input InputFailed = Unit {0}
IsInputFailure input OutputFailed = ⊥

-- Why the replies aren't printed. Where the output is blamed it may have a part of the lines, and else it is as it was.
abbrev pub IsFailure : (input output output' : Option (List ℕ)) → ScriptError → Type 0
IsFailure input output output' (BadCommand line) = IsMalformedInput input line × Keeps output output'
IsFailure input output output' OutOfMemory = Keeps output output'
IsFailure input output output' InputFailed = Keeps output output'
IsFailure input output output' OutputFailed = BeginsReplies input output output'
