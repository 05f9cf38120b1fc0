use Rattle.std.proofs.Common.{◌≡◌, ◌<◌, ℕ, get_or, slice_index}
use Rattle.iox2_domain.proofs.sample_slots.find_borrowed.Given as goal

-- no borrowed slot so far has the number
abbrev pub invariant-loop-index : goal.invariant-loop-index
invariant-loop-index l =
    (k : ℕ) → k < l.index → slice_index l.book.numbers (get_or l.connection.borrowed k 0) ≡ l.number → ⊥
