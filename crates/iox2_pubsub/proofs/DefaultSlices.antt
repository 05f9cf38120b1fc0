-- What a function returned that makes a value of one kind at each call.
use Rattle.std.proofs.Common.{ℕ, ◌+◌, List, [], ◌∷◌}
use Rattle.std.specs.List.{All, FoldsTo, enumerate_from}
use Rattle.std.proofs.lemmas.List.Elements.{All-nil, All-cons}
use Rattle.iox2_contents.specs.SlotCalls.{AnswersInOrder}

module _ {F T : Type 0} (step : F → ℕ → T → F → Type 0) (IsValue : T → Type 0)
    (each : (f : F) (i : ℕ) (value : T) (g : F) → step f i value g → IsValue value) where
  answered-from : (n : ℕ) (answers : List T) (f last : F) → FoldsTo
      (λ before call after. step before call.0 call.1 after) f (enumerate_from n answers) last → All IsValue answers
  answered-from n [] f last folds = All-nil IsValue
  answered-from n (answer ∷ answers) f last folds = All-cons IsValue answer answers (each f n answer folds.0 folds.1)
      (answered-from (n + 1) answers folds.0 last folds.2)

  -- each of its answers is such a value
  pub all-answers : (f : F) (answers : List T) → AnswersInOrder step f answers → All IsValue answers
  all-answers f answers in_order = answered-from 0 answers f in_order.0 in_order.1

-- values of which nothing is asked
pub any-values : {T : Type 0} (values : List T) → All (λ (value : T). Unit {0}) values
any-values {T} [] = All-nil (λ (value : T). Unit {0})
any-values {T} (value ∷ values) = All-cons (λ (value : T). Unit {0}) value values tt (any-values values)
