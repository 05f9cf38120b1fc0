-- Lemmas on the endings of a script.
use Rattle.std.proofs.Common.{◌≡◌, ◌⊎◌, inl, inr, ap, sym}
use Rattle.script_runner.specs.Endings.{ending_status}
use Rattle.script_text.specs.declared.failure.ScriptError.{ScriptError}
use Rattle.script_text.specs.declared.failure.ScriptError.TheVariants.{OutOfMemory}
use Rattle.script_runner.specs.declared.ending.Ending.{Ending}
use Rattle.script_runner.specs.declared.ending.Ending.TheVariants.{Printed, Unwarned, Reported, Unreported}

-- The error of an ending, if it has one.
abbrev error_in : Ending → ScriptError
error_in Printed = OutOfMemory
error_in Unwarned = OutOfMemory
error_in (Reported error) = error
error_in (Unreported error) = error

pub Reported-injective : (a b : ScriptError) → Reported a ≡ Reported b → a ≡ b
Reported-injective a b same = ap error_in same

pub Unreported-injective : (a b : ScriptError) → Unreported a ≡ Unreported b → a ≡ b
Unreported-injective a b same = ap error_in same

-- A script whose replies are written ends in status 0.
pub printed_status : (ending : Ending) → (ending ≡ Printed) ⊎ (ending ≡ Unwarned) → 0 ≡ ending_status ending
printed_status ending (inl is) = ap ending_status (sym is)
printed_status ending (inr is) = ap ending_status (sym is)
