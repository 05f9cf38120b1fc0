use Rattle.iox2_connections.specs.Reclaims.{ReclaimsFrom}
use Rattle.iox2_connections.proofs.Counts.{in_range}
use Rattle.iox2_connections.proofs.ReclaimSteps.{follows-more, reclaimed-in_use, reclaims-more, held-more}
use Rattle.iox2_connections.proofs.sender.reclaim_rest.Goals as goal

pub release-requires : goal.release-requires
release-requires c =
    let in_use = reclaimed-in_use c.loop-slot.book.holders c.in-Some.slot c.loop-slot.connection c.reclaim.new.self
    c.loop-slot.invariant.held c.in-Some.ensures.reclaims in
    record { in_bounds = in_range _ _ in_use; in_use = in_use }

pub loop-slot-preserved : goal.loop-slot-preserved
loop-slot-preserved c =
    rw c.release.ensures.released (follows-more ReclaimsFrom c.args.book.now c.loop-slot.book c.in-Some.slot
    c.args.connection.now c.loop-slot.connection c.reclaim.new.self c.loop-slot.invariant
    (held-more c.loop-slot.book.holders c.in-Some.slot c.loop-slot.connection c.reclaim.new.self
    c.loop-slot.invariant.held c.in-Some.ensures.reclaims)
    (reclaims-more c.args.book.now.holders c.loop-slot.book.holders c.in-Some.slot c.args.connection.now
    c.loop-slot.connection c.reclaim.new.self c.loop-slot.invariant.held c.loop-slot.invariant.went
    c.in-Some.ensures.reclaims))
