use Rattle.std.proofs.Common.{◌≡◌}
use Rattle.iox2_c.proofs.LoanSteps.{lent-told}
use Rattle.iox2_c.proofs.calls.lending.ZerosFill.lend_located.Goals as goal

pub returns-clause-lends : goal.returns-clause-lends
returns-clause-lends c = lent-told (λ byte. byte ≡ 0) c.args.domain.now c.loan_slice_located.new.domain _ _
    c.loan_slice_located.result c.loan_slice_located.ensures.lends
