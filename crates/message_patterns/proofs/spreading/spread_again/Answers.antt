use Rattle.std.proofs.Common.{[], ◌∷◌}
use Rattle.message_patterns.proofs.spreading.spread_again.Goals as goal

pub returns-in-Ok-Delivered-clause-served : goal.returns-in-Ok-Delivered-clause-served
returns-in-Ok-Delivered-clause-served g c = λ subscriber value pending joined.
    let sent = rw c.in-Ok-Delivered.field-0-is at c.in-Ok-Delivered.ensures in
    sent.resumes.serves subscriber (value ∷ []) tt pending joined tt
