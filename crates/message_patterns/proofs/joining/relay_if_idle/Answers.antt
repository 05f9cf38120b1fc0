use Rattle.std.proofs.Common.{arith}
use Rattle.iox2_pubsub.specs.Handles.{publisher_id}
use Rattle.message_patterns.proofs.joining.relay_if_idle.Goals as goal

pub relay_all-requires-clause-takes : goal.relay_all-requires-clause-takes
relay_all-requires-clause-takes c = record {
  wait = c.in_ok-is_idle.ensures.none c.if-not-branch.false (publisher_id c.args.sender.now);
  connected = c.in_ok-is_idle.ensures.leaves.up_to_date.connections
      (publisher_id c.args.sender.now) c.args.subscriber.now c.requires.joined;
  buffer = c.in_ok-is_idle.ensures.leaves.stays.buffers c.args.subscriber.now c.requires.buffer;
  room = omega (arith, c.buffer_size.ensures);
}

pub relay_all-requires-clause-reads : goal.relay_all-requires-clause-reads
relay_all-requires-clause-reads c = record {
  wait = c.in_ok-is_idle-2.ensures.none c.if-not-branch-2.false (publisher_id c.args.publisher.now);
  connected = c.in_ok-is_idle-2.ensures.leaves.up_to_date.connections
      (publisher_id c.args.publisher.now) c.args.reader.now c.requires.joined_there;
  buffer = c.in_ok-is_idle-2.ensures.leaves.stays.buffers c.args.reader.now c.requires.buffer_there;
  room = omega (arith, c.buffer_size-else-values-buffer_size.ensures);
}
