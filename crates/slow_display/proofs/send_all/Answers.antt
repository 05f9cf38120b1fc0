use Rattle.std.proofs.Common.{rules}
use Rattle.iox2_pubsub.specs.BlockedSends.{StaysSince}
use Rattle.iox2_pubsub.specs.Live.{A_blocked_send, StaysBut}
use Rattle.slow_display.proofs.send_all.Goals as goal

pub returns-in_err-try_again : goal.returns-in_err-try_again
unfolding StaysSince
returns-in_err-try_again g c =
    let waits = rw c.in-Some.is at c.in_ok-waiting.ensures.waits in
    let stood : StaysBut (A_blocked_send c.args.publisher.now.id) c.args.domain.now c.show_all-shown.new.domain =
    search rules in
    c.try_again.ensures c.args.domain.now (rw waits.1 c.requires.publisher.ready.unblocked) (rw waits.2 stood)

pub returns : goal.returns
unfolding StaysSince
returns g c =
    let waits = rw c.in-Some.is at c.in_ok-waiting.ensures.waits in
    let stood : StaysBut (A_blocked_send c.args.publisher.now.id) c.args.domain.now c.show_all-shown.new.domain =
    search rules in
    c.try_again.ensures c.args.domain.now (rw waits.1 c.requires.publisher.ready.unblocked) (rw waits.2 stood)
