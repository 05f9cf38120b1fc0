use Rattle.iox2_connections.proofs.receiver.release_if_last.Goals as goal

pub release-requires-clause-borrowed : goal.release-requires-clause-borrowed
release-requires-clause-borrowed c = let its = c.is_last_at.ensures.last c.if-not-is_last_at.false in
    rw its.stands its.borrowed

pub release-requires-clause-once : goal.release-requires-clause-once
release-requires-clause-once c = let its = c.is_last_at.ensures.last c.if-not-is_last_at.false in
    rw its.stands (c.requires.once its.link its.stands)

pub returns-clause-releases : goal.returns-clause-releases
returns-clause-releases c =
    let its = c.release.ensures in
    record {
      is_last = c.is_last_at.ensures.last c.if-not-is_last_at.false;
      releases = its.releases;
      returned = its.returned;
      homes = its.homes;
      others = its.others;
      stay = its.stands;
    }
