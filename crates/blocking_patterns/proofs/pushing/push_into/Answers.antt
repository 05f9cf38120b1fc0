use Rattle.std.proofs.Common.{◌≡◌, ℕ, [], ◌∷◌, ◌++◌, arith}
use Rattle.iox2_pubsub.specs.Handles.{buffer_size_of, publisher_id}
use Rattle.message_patterns.specs.Values.{TakesMore}
use Rattle.blocking_patterns.proofs.pushing.push_into.Goals as goal

pub push_over-requires-clause-own : goal.push_over-requires-clause-own
push_over-requires-clause-own c =
    let publisher = publisher_id c.args.publisher.now in
    let reader = c.args.subscriber.now in
    let idle = c.in_ok-is_idle.ensures in
    let two : buffer_size_of reader ≡ 2 = omega (arith, c.buffer_size.ensures) in
    let none : TakesMore c.is_idle.new.domain publisher reader [] 2 = record {
      wait = idle.none c.if-not-branch.false publisher;
      connected = idle.leaves.up_to_date.connections publisher reader c.requires.connected;
      buffer = idle.leaves.stays.buffers reader c.requires.buffer;
      room = omega (arith, two);
    } in
    let one = (rw c.in_default.is at c.in_ok-waiting.ensures.taken) reader [] 1 none in
    let both = (rw c.in_default-2.is at c.in_ok-waiting-2.ensures.taken) reader ([] ++ 1 ∷ []) 0 one in
    (([] ++ 1 ∷ []) ++ 2 ∷ [], both.wait)
