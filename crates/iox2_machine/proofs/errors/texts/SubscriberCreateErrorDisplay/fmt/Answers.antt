use Rattle.iox2_machine.proofs.errors.texts.SubscriberCreateErrorDisplay.fmt.Goals as goal

pub returns-clause-writes : goal.returns-clause-writes
returns-clause-writes g c = rw (← c.name.ensures) c.write.ensures.writes
