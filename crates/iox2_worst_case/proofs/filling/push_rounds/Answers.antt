use Rattle.std.proofs.Common.{◌≡◌, ◌+◌, ◌∙◌, arith, vec_len}
use Rattle.iox2_worst_case.proofs.FillingLists.{rounds_more}
use Rattle.iox2_worst_case.proofs.filling.push_rounds.Goals as goal

pub loop-round-preserved : goal.loop-round-preserved
loop-round-preserved g c =
    let longer : vec_len c.push_reserved.new.self ≡ vec_len c.loop-round.commands + 4 =
    omega (arith, c.push_reserved.ensures.len, c.push_send.ensures.len) in
    record {
      items = rw (c.push_reserved.ensures.items, c.push_send.ensures.items, longer) (
          rounds_more {T = g.row.T.Denot} {U = g.row.U.Denot} c.loop-round.commands.items c.args.variant c.args.value
          c.args.subscriber (vec_len c.loop-round.commands) c.loop-round._round c.args.count
          (omega (arith, c.loop-round-test.true))
          ∙ c.loop-round.invariant.items
          );
      len = omega (arith, longer, c.loop-round.invariant.len);
      capacity = c.push_reserved.ensures.capacity ∙ c.push_send.ensures.capacity ∙ c.loop-round.invariant.capacity;
    }
