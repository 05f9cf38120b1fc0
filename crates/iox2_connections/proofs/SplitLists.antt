-- A list behind an index is what stands there and the rest.
use Rattle.std.proofs.Common.{◌≡◌, ℕ, ◌+◌, List, ◌∷◌, drop, ap, ◌∙◌, add-one, drop-cons, suc}
use Rattle.std.proofs.lemmas.Option.{slice_get_within, get_or_from_slice_get}
use Rattle.std.specs.Prelude.{slice_get}
use Rattle.std.specs.declared.option.Option.TheVariants.{Some}
use Rattle.iox2_connections.specs.Counters.{times}
use Rattle.iox2_connections.proofs.Counts.{one_if, times-cons}

module _ (slots : List ℕ) (index slot : ℕ) (at : slice_get slots index ≡ Some slot) where
  pub split-at : drop index slots ≡ slot ∷ drop (index + 1) slots
  split-at = rw add-one (drop-cons slots index 0 (slice_get_within slots index slot at)
      ∙ ap (λ x. x ∷ drop (suc index) slots) (get_or_from_slice_get slots index slot 0 at))

  pub times-split : (s : ℕ) → times s (drop index slots) ≡ one_if s slot + times s (drop (index + 1) slots)
  times-split s = ap (times s) split-at ∙ times-cons s slot (drop (index + 1) slots)
