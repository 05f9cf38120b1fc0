use Rattle.iox2_machine.proofs.errors.texts.SendErrorDisplay.fmt.Goals as goal

pub returns-in-ConnectionBrokenSinceSenderNoLongerExists-clause-writes : goal.returns-in-ConnectionBrokenSinceSenderNoLongerExists-clause-writes
returns-in-ConnectionBrokenSinceSenderNoLongerExists-clause-writes g c =
    rw c.in-ConnectionBrokenSinceSenderNoLongerExists.is c.write.ensures.writes

pub returns-in-ConnectionCorrupted-clause-writes : goal.returns-in-ConnectionCorrupted-clause-writes
returns-in-ConnectionCorrupted-clause-writes g c =
    rw c.in-ConnectionCorrupted.is c.write-in-ConnectionCorrupted.ensures.writes

pub returns-in-LoanError-clause-writes : goal.returns-in-LoanError-clause-writes
returns-in-LoanError-clause-writes g c = rw (c.in-LoanError.is, ← c.name.ensures) c.write-in-LoanError.ensures.writes

pub returns-in-ConnectionError-clause-writes : goal.returns-in-ConnectionError-clause-writes
returns-in-ConnectionError-clause-writes g c =
    rw (c.in-ConnectionError.is, ← c.name-in-ConnectionError.ensures) c.write-in-ConnectionError.ensures.writes

pub returns-in-UnableToDeliver-clause-writes : goal.returns-in-UnableToDeliver-clause-writes
returns-in-UnableToDeliver-clause-writes g c = rw c.in-UnableToDeliver.is c.write-in-UnableToDeliver.ensures.writes

pub returns-in-InternalError-clause-writes : goal.returns-in-InternalError-clause-writes
returns-in-InternalError-clause-writes g c = rw c.in-InternalError.is c.write-in-InternalError.ensures.writes
