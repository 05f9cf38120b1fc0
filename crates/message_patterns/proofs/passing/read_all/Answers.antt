use Rattle.std.proofs.Common.{◌≡◌, List, ℕ, [], ◌++◌, length, ap, sym, ◌∙◌}
use Rattle.std.proofs.lemmas.List.{append-nil}
use Rattle.iox2_pubsub.proofs.ForCallers.{keeps_all_stays, singles_none}
use Rattle.message_patterns.proofs.passing.read_all.Goals as goal

pub returns-clause-all : goal.returns-clause-all
returns-clause-all c = λ keeps publisher values wait.
    let was = c.loop-value.invariant.taken keeps publisher values wait in
    let still = keeps_all_stays c.args.domain.now c.loop-value.domain c.args.subscriber.now
    c.loop-value.invariant.up_to_date keeps in
    let none = (rw c.in_default.is at c.in_ok-value.ensures.nothing) still in
    let nothing : was.1 ≡ [] = singles_none was.1 (sym (ap length was.4.all) ∙ none) in
    was.3 ∙ ap (λ (l : List ℕ). c.args.read.now.items ++ l)
    (sym (was.2 ∙ ap (λ (l : List ℕ). was.0 ++ l) nothing ∙ append-nil was.0))
