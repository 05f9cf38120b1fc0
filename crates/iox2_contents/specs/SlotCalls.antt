-- What a function returned that was called for one index after the other.
use Rattle.std.specs.Prelude.{ℕ, List}
use Rattle.std.specs.List.{FoldsTo, enumerate_from}

-- The function was called for 0, 1 and so on, and these are its answers in that order: the answer for 0 is the first.
abbrev pub AnswersInOrder : {F T : Type 0} → (step : F → ℕ → T → F → Type 0) → (f : F) → (answers : List T) → Type 0
AnswersInOrder {F} {T} step f answers =
    (last : F) × FoldsTo (λ before call after. step before call.0 call.1 after) f (enumerate_from 0 answers) last
