use Rattle.std.proofs.Common.{◌-◌, arith, refl}
use Rattle.std.proofs.lemmas.Grind.{common_steps}
use Rattle.iox2_connections.specs.FurtherChannels.{HaveRoom}
use Rattle.iox2_connections.proofs.ChannelLists.{one-more}
use Rattle.iox2_connections.proofs.FurtherFields.{others-bounded, new-statuses, new-slots, new-room}
use Rattle.iox2_connections.proofs.connection.Connection.new.Goals as goal

pub returns : goal.returns
returns c =
    rw (
      c.in_ok-waiting.ensures,
      c.in_ok-borrowed.ensures.items,
      c.in_ok-borrowed.ensures.exact,
      c.in_ok-returned.ensures,
      c.in_ok-further.ensures,
      c.new.ensures,
      new-statuses,
      new-slots,
      one-more c.args.channels c.requires.channel,
    )
    refl

pub invariant_of-result : goal.invariant_of-result
invariant_of-result c =
    let room : HaveRoom c.in_ok-waiting.waiting.capacity c.in_ok-further.further.items =
    rw (c.in_ok-further.ensures, c.in_ok-waiting.ensures) (new-room c.args.buffer (c.args.channels - 1)) in
    record {
      bounded = record {
        some_room = grind (arith, common_steps);
        waiting = grind (arith, common_steps);
        others = others-bounded c.in_ok-waiting.waiting.capacity c.in_ok-further.further.items room;
        borrowed = grind (arith, common_steps);
        together = grind (arith, common_steps);
        fits = grind (arith, common_steps);
        marked = grind (arith, common_steps);
      };
      return_room = grind (arith, common_steps);
      further_room = room;
    }
