use Rattle.std.proofs.Common.{◌<◌, length, sym, arith, ◌∙◌}
use Rattle.iox2_messages.proofs.ClearedSlots.{clears-next}
use Rattle.iox2_messages.proofs.growth.clear_unused.Goals as goal
use Rattle.iox2_messages.proofs.growth.clear_unused.Goals.{then-holders-eq0, else-holders-eq0}

pub loop-slot-preserved : goal.loop-slot-preserved
loop-slot-preserved g c =
    let low : c.loop-slot.slot < length c.args.book.now.holders =
    omega (arith, c.loop-slot-test.true, c.len-slot-end.ensures.len) in
    elim c.if-holders-eq0.branch [
      | then-holders-eq0 w ↦
          rw w.contents-is
          (clears-next {T = g.row.T.Denot} {U = g.row.U.Denot} c.args.book.now
          (length c.args.book.now.holders) c.args.contents.now c.loop-slot.contents w.clear.new.self c.loop-slot.slot
          c.loop-slot.invariant (sym c.holders.ensures ∙ w.if-holders-eq0.true) low w.clear.ensures)
      | else-holders-eq0 w ↦ rw w.contents-is c.loop-slot.invariant
    ]
