use Rattle.std.proofs.Common.{ap, ◌∙◌}
use Rattle.iox2_slots.specs.SlotBook.{Book}
use Rattle.iox2_connections.specs.Counters.{with_counters}
use Rattle.iox2_connections.proofs.ReclaimSteps.{own-linked, below-step, below-skip}
use Rattle.iox2_connections.proofs.sender.reclaim_all.Goals as goal
use Rattle.iox2_connections.proofs.sender.reclaim_all.Goals.{in-Some, in_default}

pub reclaim_at-requires-clause-own : goal.reclaim_at-requires-clause-own
reclaim_at-requires-clause-own c = own-linked c.args.publisher c.loop-index.connections c.args.keys.now
    c.loop-index.index c.in-Some.key c.loop-index.invariant.below.linked c.in-Some.is

pub loop-index-preserved : goal.loop-index-preserved
loop-index-preserved c = elim c.match-keys-index.branch [
  | in-Some w ↦ rw (w.connections-is, w.book-is) (record {
    book = w.reclaim_at.ensures.book
        ∙ ap (λ (b : Book). with_counters b w.reclaim_at.new.book.holders) c.loop-index.invariant.book;
    below = below-step c.args.publisher c.args.keys.now _ _ w.reclaim_at.new.book.holders _ _
        w.reclaim_at.new.connections c.loop-index.index w.in-Some.key c.loop-index.invariant.below w.in-Some.is
        w.reclaim_at.ensures.reclaims w.reclaim_at.ensures.all;
  })
  | in_default w ↦ rw (w.connections-is, w.book-is) (record {
    book = c.loop-index.invariant.book;
    below = below-skip c.args.publisher c.args.keys.now _ _ _ _ c.loop-index.index c.loop-index.invariant.below
        w.in_default.is;
  })
]
