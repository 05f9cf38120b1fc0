use Rattle.iox2_pubsub.specs.BlockedSends.{StaysSince}
use Rattle.slow_display.proofs.send_some.Goals as goal

pub returns-in_err-give_up : goal.returns-in_err-give_up
unfolding StaysSince
returns-in_err-give_up g c =
    let waits = rw c.in-Some.is at c.in_ok-waiting.ensures.waits in
    c.give_up.ensures c.args.domain.now (rw waits.1 c.requires.publisher.ready.unblocked)
    (rw waits.2 c.send_until_full.ensures.stays)

pub returns-in_ok-give_up : goal.returns-in_ok-give_up
unfolding StaysSince
returns-in_ok-give_up g c =
    let waits = rw c.in-Some.is at c.in_ok-waiting.ensures.waits in
    c.give_up.ensures c.args.domain.now (rw waits.1 c.requires.publisher.ready.unblocked)
    (rw waits.2 c.send_until_full.ensures.stays)
