use Rattle.calling.proofs.inbox.warmest.Given as goal

abbrev pub decreases-loop-celsius : goal.decreases-loop-celsius
decreases-loop-celsius g l = l.inbox
