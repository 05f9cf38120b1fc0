use Rattle.std.proofs.Common.{◌<◌, ◌≤◌, ◌+◌, ℕ, length, slice_index}
use Rattle.iox2_slots.proofs.slots.book.last_from.Given as goal

-- each slot at the last places so far is an older one
abbrev pub invariant-loop-passed : goal.invariant-loop-passed
invariant-loop-passed l = (k : ℕ) → k < length l.slots → length l.slots ≤ k + l.passed → slice_index l.slots k < l.start
