use Rattle.std.proofs.Common.{◌∙◌, arith, vec_len}
use Rattle.iox2_worst_case.proofs.FillingLists.{sends_more}
use Rattle.iox2_worst_case.proofs.filling.push_sends.Goals as goal

pub loop-round-preserved : goal.loop-round-preserved
loop-round-preserved g c = record {
  items = rw (c.push_send.ensures.items, c.push_send.ensures.len) (
      sends_more {T = g.row.T.Denot} {U = g.row.U.Denot} c.loop-round.commands.items c.args.variant c.args.value
      (vec_len c.loop-round.commands) c.loop-round._round c.args.count
      (omega (arith, c.loop-round-test.true))
      ∙ c.loop-round.invariant.items
      );
  len = omega (arith, c.push_send.ensures.len, c.loop-round.invariant.len);
  capacity = c.push_send.ensures.capacity ∙ c.loop-round.invariant.capacity;
}
