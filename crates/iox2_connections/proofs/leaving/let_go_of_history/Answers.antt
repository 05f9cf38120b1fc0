use Rattle.std.proofs.Common.{ap, sym, ◌∙◌, arith}
use Rattle.std.specs.Option.{option_copied}
use Rattle.iox2_slots.specs.SlotBook.{Book}
use Rattle.iox2_connections.specs.Counters.{one_holder_less, with_counters}
use Rattle.iox2_connections.proofs.Counts.{in_range}
use Rattle.iox2_connections.proofs.Histories.{stands-below}
use Rattle.iox2_connections.proofs.Leaves.{next-held, next-given}
use Rattle.iox2_connections.proofs.leaving.let_go_of_history.Goals as goal
use Rattle.iox2_connections.proofs.leaving.let_go_of_history.Goals.{in-Some, in_default}

pub release-requires : goal.release-requires
release-requires c =
    let in_use = next-held c.args.history.now.items c.args.book.now.holders c.loop-index.index c.in-Some.slot.now
    c.loop-index.book.holders c.loop-index.invariant.given
    (sym c.get.ensures ∙ ap option_copied c.in-Some.is) c.requires in
    record { in_bounds = in_range _ _ in_use; in_use = in_use }

pub loop-index-preserved : goal.loop-index-preserved
loop-index-preserved c = elim c.match-get.branch [
  | in-Some w ↦ rw (w.book-is, w.release.ensures.released) (record {
    book = ap (λ (b : Book). with_counters b (one_holder_less w.in-Some.slot.now c.loop-index.book.holders))
        c.loop-index.invariant.book;
    given = next-given c.args.history.now.items c.args.book.now.holders c.loop-index.index w.in-Some.slot.now
        c.loop-index.book.holders c.loop-index.invariant.given
        (sym c.get.ensures ∙ ap option_copied w.in-Some.is) c.requires;
  })
  | in_default w ↦ absurd (stands-below c.args.history.now.items c.loop-index.index (omega arith)
      (sym c.get.ensures ∙ ap option_copied w.in_default.is))
]
