-- What asking for samples returns.
use Rattle.std.specs.Prelude.{ℕ, Bool}
use Rattle.std.specs.declared.result.Result.{Result}
use Rattle.iox2_machine.specs.machine.Records.{Environment}
use Rattle.iox2_machine.specs.machine.State.{State}
use Rattle.iox2_machine.specs.declared.errors.ConnectionFailure.{ConnectionFailure}
use Rattle.iox2_domain.specs.Questions.{IsAnswer}

-- The subscriber q was asked whether any message waits, where handlers answer so, with this answer or the failure of
-- its update.
abbrev pub IsAnswered : {T U : Type 0} → Environment → State T U → (q : ℕ) → Result Bool ConnectionFailure → State T U
    → Type 0
IsAnswered environment s q result s' = IsAnswer environment s q result s'
