use Rattle.std.proofs.Common.{◌≡◌, ℕ}
use Rattle.iox2_pubsub.specs.BlockedSends.{receivers_ahead}
use Rattle.iox2_pubsub.specs.Live.{IsBlockedSend, StaysBut, UpToDateStay, blocked_key, blocked_item}
use Rattle.message_patterns.specs.Recordings.{IsUnderway}
use Rattle.message_patterns.proofs.recording.pass_others.Given as goal

abbrev pub invariant-loop-blocked : goal.invariant-loop-blocked
invariant-loop-blocked g l = record {
  live : IsBlockedSend l.domain l.blocked;
  same : blocked_key l.blocked ≡ blocked_key l.fn.waiting;
  underway : (start : _) (number : ℕ) → IsUnderway start l.fn.domain l.fn.waiting l.recorder number
      → IsUnderway start l.domain l.blocked l.recorder number;
  up_to_date : UpToDateStay l.fn.domain l.domain;
  stays : StaysBut (blocked_item l.fn.waiting) l.fn.domain l.domain;
}

abbrev pub decreases-loop-blocked : goal.decreases-loop-blocked
decreases-loop-blocked g l = receivers_ahead l.domain l.blocked
