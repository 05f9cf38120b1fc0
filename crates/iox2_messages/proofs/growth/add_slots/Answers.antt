use Rattle.std.proofs.Common.{arith}
use Rattle.std.proofs.lemmas.List.{length-append}
use Rattle.iox2_messages.proofs.ClearedSlots.{grows-contents}
use Rattle.iox2_messages.proofs.growth.add_slots.Goals as goal

pub clear_unused-requires : goal.clear_unused-requires
clear_unused-requires g c = rw ((c.in_ok-grow.ensures.grown).grown, length-append) (omega (arith, c.requires.shaped))

pub returns-clause-contents : goal.returns-clause-contents
returns-clause-contents g c =
    grows-contents {T = g.row.T.Denot} {U = g.row.U.Denot} c.args.book.now c.args.contents.now c.grow.new.self
    c.clear_unused.new.contents c.args.more c.args.room c.args.in_lists c.args.lists c.requires.shaped c.requires.lists
    c.in_ok-grow.ensures.grown c.clear_unused.ensures
