use Rattle.std.proofs.Common.{◌≤◌, arith, [], ◌∷◌}
use Rattle.iox2_pubsub.specs.Handles.{buffer_size_of}
use Rattle.iox2_pubsub.specs.Live.{publisher_key}
use Rattle.calling.proofs.order.send_pair.Goals as goal

pub returns-clause-both : goal.returns-clause-both
returns-clause-both g c =
    let publisher = c.args.publisher.now in
    let subscriber = c.args.subscriber.now in
    let never = c.requires.publisher.never_waits in
    let room : 2 ≤ buffer_size_of subscriber = c.requires.room in
    let first = c.in_ok-send_copy.ensures.arrives subscriber c.requires.drained c.requires.connected
    (c.in_ok-send_copy.ensures.delivered never) in
    c.in_ok-send_copy-2.ensures.joins subscriber ((c.args.earlier ∷ []) ∷ []) first
    (c.in_ok-send_copy.ensures.stays.buffers subscriber c.requires.buffer) (omega (arith, room))
    (c.in_ok-send_copy.ensures.up_to_date.connections publisher.id subscriber c.requires.connected)
    (c.in_ok-send_copy-2.ensures.delivered (c.in_ok-send_copy.ensures.stays.never_wait (publisher_key publisher) never))
