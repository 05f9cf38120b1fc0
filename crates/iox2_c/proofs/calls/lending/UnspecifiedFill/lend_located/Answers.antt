use Rattle.iox2_c.proofs.LoanSteps.{lent-told}
use Rattle.iox2_c.proofs.calls.lending.UnspecifiedFill.lend_located.Goals as goal

pub returns-clause-lends : goal.returns-clause-lends
returns-clause-lends c = lent-told (λ byte. Unit {0}) c.args.domain.now c.loan_unspecified_located.new.domain _ _
    c.loan_unspecified_located.result c.loan_unspecified_located.ensures.lends
