use Rattle.iox2_pubsub.specs.BlockedSends.{StaysSince, receivers_ahead}
use Rattle.iox2_pubsub.specs.Live.{IsBlockedSend}
use Rattle.slow_display.proofs.sending.give_up.Given as goal

abbrev pub invariant-loop-count : goal.invariant-loop-count
invariant-loop-count g l = IsBlockedSend l.domain l.blocked
    × ((after : _) → StaysSince l.blocked l.domain after → StaysSince l.fn.waiting l.fn.domain after)

abbrev pub decreases-loop-count : goal.decreases-loop-count
decreases-loop-count g l = receivers_ahead l.domain l.blocked
