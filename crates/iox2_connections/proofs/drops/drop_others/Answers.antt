use Rattle.std.proofs.Common.{ap, ◌∙◌}
use Rattle.iox2_connections.specs.Link.{Link}
use Rattle.iox2_connections.proofs.Counts.{in_range}
use Rattle.iox2_connections.proofs.DropSteps.{loses-other, dropped-in_use, drops-next}
use Rattle.iox2_connections.proofs.drops.drop_others.Goals as goal

pub release-requires : goal.release-requires
release-requires c =
    let in_use = dropped-in_use c.loop-slot.book.holders c.in-Some.slot c.loop-slot.connection c.drop_other.new.self
    c.loop-slot.invariant.follows.held
    (loses-other c.in-Some.slot c.loop-slot.connection c.drop_other.new.self c.in-Some.ensures.drops) in
    record { in_bounds = in_range _ _ in_use; in_use = in_use }

pub loop-slot-preserved : goal.loop-slot-preserved
loop-slot-preserved c = rw c.release.ensures.released (record {
  follows = drops-next c.args.book.now c.loop-slot.book c.in-Some.slot c.args.connection.now c.loop-slot.connection
      c.drop_other.new.self
      c.loop-slot.invariant.follows
      (loses-other c.in-Some.slot c.loop-slot.connection c.drop_other.new.self c.in-Some.ensures.drops);
  kept = (c.in-Some.ensures.drops).1 ∙ ap (λ (l : Link).
      let k : Link = record l { others = (c.drop_other.new.self).others } in k) c.loop-slot.invariant.kept;
})
