use Rattle.iox2_connections.specs.Counters.{one_holder_less}
use Rattle.iox2_connections.proofs.Counts.{in_range}
use Rattle.iox2_connections.proofs.ReclaimSteps.{ReclaimsFrom-trans, reclaimed-in_use, reclaims-one}
use Rattle.iox2_connections.proofs.sender.reclaim_from.Goals as goal

pub release-requires : goal.release-requires
release-requires c =
    let in_use = reclaimed-in_use c.args.book.now.holders c.in-Some.slot c.args.connection.now c.reclaim.new.self
    c.requires c.in-Some.ensures.reclaims in
    record { in_bounds = in_range _ _ in_use; in_use = in_use }

pub returns-then-has_returned-clause-reclaims : goal.returns-then-has_returned-clause-reclaims
returns-then-has_returned-clause-reclaims c =
    ReclaimsFrom-trans c.args.book.now.holders (one_holder_less c.in-Some.slot c.args.book.now.holders)
    c.reclaim_rest.new.book.holders c.args.connection.now c.reclaim.new.self c.reclaim_rest.new.connection
    (reclaims-one c.args.book.now.holders c.in-Some.slot c.args.connection.now c.reclaim.new.self c.requires
    c.in-Some.ensures.reclaims)
    (rw c.release.ensures.released at c.reclaim_rest.ensures.reclaims)
