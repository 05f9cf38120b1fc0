use Rattle.iox2_machine.proofs.errors.texts.ReceiveErrorDisplay.fmt.Goals as goal

pub returns-in-ExceedsMaxBorrows-clause-writes : goal.returns-in-ExceedsMaxBorrows-clause-writes
returns-in-ExceedsMaxBorrows-clause-writes g c = rw c.in-ExceedsMaxBorrows.is c.write.ensures.writes

pub returns-in-ConnectionFailure-clause-writes : goal.returns-in-ConnectionFailure-clause-writes
returns-in-ConnectionFailure-clause-writes g c =
    rw (c.in-ConnectionFailure.is, ← c.name.ensures) c.write-in-ConnectionFailure.ensures.writes
