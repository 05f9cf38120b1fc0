use Rattle.thermometer.proofs.report.report_pair.Goals as goal

pub unwrap-first-requires : goal.unwrap-first-requires
unwrap-first-requires g c = c.loan_uninit.ensures.granted 1 1 c.requires.loans.loans c.requires.loans.numbers

pub unwrap-second-requires : goal.unwrap-second-requires
unwrap-second-requires g c =
    c.loan_uninit-2.ensures.granted 0 0 (c.loan_uninit.ensures.leaves.loans_left.loans 1 c.requires.loans.loans)
    (c.loan_uninit.ensures.leaves.loans_left.numbers 1 c.requires.loans.numbers)
