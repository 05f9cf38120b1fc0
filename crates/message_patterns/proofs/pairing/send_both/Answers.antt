use Rattle.std.proofs.Common.{[], ◌∷◌}
use Rattle.iox2_pubsub.specs.Handles.{publisher_id}
use Rattle.iox2_pubsub.specs.Shares.{share_of}
use Rattle.iox2_pubsub.proofs.ForCallers.{no_shares}
use Rattle.message_patterns.proofs.pairing.send_both.Goals as goal

pub returns-clause-each : goal.returns-clause-each
returns-clause-each c =
    let subscriber = c.args.subscriber.now in
    let left = publisher_id c.args.left.now in
    let one = c.in_ok-send_beside.ensures.begins subscriber []
    (no_shares c.args.domain.now subscriber c.requires.drained) tt c.requires.connected.0 in
    let still = c.in_ok-send_beside.ensures.up_to_date.connections
    (publisher_id c.args.right.now) subscriber c.requires.connected.1 in
    c.send_beside-2.ensures.begins subscriber (share_of left ((c.args.readings.0 ∷ []) ∷ []) ∷ []) one
    (c.requires.apart, tt) still
