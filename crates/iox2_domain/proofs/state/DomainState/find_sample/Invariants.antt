use Rattle.std.proofs.Common.{◌<◌, ℕ}
use Rattle.iox2_domain.specs.SampleSlots.{BorrowsAt}
use Rattle.iox2_domain.proofs.state.DomainState.find_sample.Given as goal

-- in no connection so far the message is borrowed
abbrev pub invariant-loop-key : goal.invariant-loop-key
invariant-loop-key g l = (k : ℕ) → k < l.key → BorrowsAt l.self k l.subscriber l.number → ⊥
