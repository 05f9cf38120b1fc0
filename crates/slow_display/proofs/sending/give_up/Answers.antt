use Rattle.std.proofs.Common.{subst, sym}
use Rattle.iox2_pubsub.specs.SendCalls.{IsDelivered}
use Rattle.slow_display.proofs.sending.give_up.Goals as goal

pub returns-in_err-count : goal.returns-in_err-count
returns-in_err-count g c = c.loop-count.invariant.1 _ (c.in_err-count.ensures.goes_on.stays_since tt)

pub returns-in-Delivered : goal.returns-in-Delivered
returns-in-Delivered g c = c.loop-count.invariant.1 _
    (c.in_ok-count.ensures.goes_on.stays_since (subst IsDelivered (sym c.in-Delivered.is) tt))

pub loop-count-preserved : goal.loop-count-preserved
loop-count-preserved g c = (
  (rw c.in-Blocked.is at c.in_ok-count.ensures.goes_on.blocked).0,
  λ after since.
      c.loop-count.invariant.1 after ((rw c.in-Blocked.is at c.in_ok-count.ensures.goes_on.since_again) after since),
)
