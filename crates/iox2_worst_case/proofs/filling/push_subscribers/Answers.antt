use Rattle.std.proofs.Common.{◌∙◌, arith, vec_len}
use Rattle.std.specs.Prelude.{vec_capacity}
use Rattle.iox2_worst_case.specs.FillingCommands.{filling_length}
use Rattle.iox2_worst_case.proofs.FillingLists.{subscribers_more, one_more_time, room_for_one_more}
use Rattle.iox2_worst_case.proofs.filling.push_subscribers.Goals as goal

pub loop-subscriber-preserved : goal.loop-subscriber-preserved
loop-subscriber-preserved g c = record {
  items = rw (c.push_subscriber.ensures.items, c.push_subscriber.ensures.len) (
      subscribers_more {T = g.row.T.Denot} {U = g.row.U.Denot} c.loop-subscriber.commands.items c.args.config.now
      c.args.value (vec_len c.loop-subscriber.commands) c.loop-subscriber._subscriber
      c.args.config.now.max_subscribers (omega (arith, c.loop-subscriber-test.true))
      ∙ c.loop-subscriber.invariant.items
      );
  len = one_more_time (vec_len c.args.commands.now) (vec_len c.loop-subscriber.commands)
      (vec_len c.push_subscriber.new.commands) c.loop-subscriber._subscriber (filling_length c.args.config.now)
      c.loop-subscriber.invariant.len c.push_subscriber.ensures.len;
  capacity = c.push_subscriber.ensures.capacity ∙ c.loop-subscriber.invariant.capacity;
}

pub push_subscriber-requires : goal.push_subscriber-requires
push_subscriber-requires g c = rw c.loop-subscriber.invariant.capacity (
    room_for_one_more (vec_len c.args.commands.now) (vec_len c.loop-subscriber.commands) c.loop-subscriber._subscriber
    c.args.config.now.max_subscribers (filling_length c.args.config.now) (vec_capacity c.args.commands.now)
    c.loop-subscriber.invariant.len c.loop-subscriber-test.true c.requires
    )
