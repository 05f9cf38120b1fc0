use Rattle.std.proofs.Common.{[], ◌∷◌}
use Rattle.calling.proofs.arrivals.echo.Goals as goal

pub returns-clause-same : goal.returns-clause-same
returns-clause-same g c =
    let arrives = c.in_ok-send_copy.ensures.arrives c.args.subscriber.now c.requires.drained c.requires.connected in
    let all = arrives (c.in_ok-send_copy.ensures.delivered c.requires.publisher.never_waits) in
    let received = rw c.in-Some.is at c.in_ok-sample.ensures.received in
    c.payload-received.ensures.same c.args.celsius (received.only (c.args.celsius ∷ []) all.all)
