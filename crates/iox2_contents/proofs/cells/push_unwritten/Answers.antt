use Rattle.std.proofs.Common.{None, Option, [], ◌∷◌, append_assoc, replicate, arith}
use Rattle.std.proofs.lemmas.Grind.{common_steps}
use Rattle.std.proofs.lemmas.List.{replicate_more}
use Rattle.iox2_contents.proofs.cells.push_unwritten.Goals as goal

pub loop-preserved : goal.loop-preserved
loop-preserved g c = record {
  items = rw (
    c.push_reserved.ensures.items,
    c.loop.invariant.items,
    ← replicate_more {X = Option g.row.T.Denot} c.loop.counter None,
  ) (append_assoc c.args.cells.now.items (replicate c.loop.counter None) (None ∷ []));
  len = grind (arith, common_steps);
  capacity = grind (arith, common_steps);
}
