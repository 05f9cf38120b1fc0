use Rattle.iox2_pubsub.specs.Live.{Stays}
use Rattle.slow_display.proofs.sending.send_until_full.Given as goal

abbrev pub invariant-loop-celsius : goal.invariant-loop-celsius
invariant-loop-celsius g l = Stays l.fn.domain l.domain
