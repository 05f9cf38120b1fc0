use Rattle.std.proofs.Common.{sym, ◌∙◌, ap, arith}
use Rattle.std.specs.Option.{option_copied}
use Rattle.iox2_connections.proofs.Histories.{next-in_use, next-fits, next-put, stands-below}
use Rattle.iox2_connections.proofs.sender.deliver_history.Goals as goal
use Rattle.iox2_connections.proofs.sender.deliver_history.Goals.{in-Some, in_default}

pub put_in_room-requires-clause-in_use : goal.put_in_room-requires-clause-in_use
put_in_room-requires-clause-in_use c =
    next-in_use c.args.history.now.items c.args.connection.now c.args.book.now c.loop-index.index c.in-Some.slot.now
    c.loop-index.connection c.loop-index.book c.loop-index.invariant
    (sym c.get.ensures ∙ ap option_copied c.in-Some.is) c.requires.in_use

pub put_in_room-requires-clause-fits : goal.put_in_room-requires-clause-fits
put_in_room-requires-clause-fits c =
    next-fits c.args.history.now.items c.args.connection.now c.args.book.now c.loop-index.index c.in-Some.slot.now
    c.loop-index.connection c.loop-index.book c.loop-index.invariant
    (sym c.get.ensures ∙ ap option_copied c.in-Some.is) c.requires.fits

pub loop-index-preserved : goal.loop-index-preserved
loop-index-preserved c = elim c.match-get.branch [
  | in-Some w ↦
      let at = sym c.get.ensures ∙ ap option_copied w.in-Some.is in
      let in_use = next-in_use c.args.history.now.items c.args.connection.now c.args.book.now c.loop-index.index
      w.in-Some.slot.now c.loop-index.connection c.loop-index.book c.loop-index.invariant at c.requires.in_use in
      rw (w.connection-is, w.book-is, w.put_in_room.ensures.connection, w.put_in_room.ensures.book)
      (next-put c.args.history.now.items c.args.connection.now c.args.book.now c.loop-index.index w.in-Some.slot.now
      c.loop-index.connection c.loop-index.book c.loop-index.invariant at in_use)
  | in_default w ↦ absurd (stands-below c.args.history.now.items c.loop-index.index (omega arith)
      (sym c.get.ensures ∙ ap option_copied w.in_default.is))
]
