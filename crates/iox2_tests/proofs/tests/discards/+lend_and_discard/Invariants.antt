use Rattle.iox2_tests.proofs.tests.discards.+lend_and_discard.Given as goal

-- the rounds that are left
abbrev pub decreases-lend_and_discard : goal.decreases-lend_and_discard
decreases-lend_and_discard g l = l.rounds
