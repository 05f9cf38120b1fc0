use Rattle.std.proofs.Common.{refl}
use Rattle.iox2_c.proofs.BecomesSteps.{becomes}
use Rattle.iox2_c.proofs.exports.loans.iox2ps_loan_discard.Goals as goal

pub returns-in-Some-clause-discards : goal.returns-in-Some-clause-discards
returns-in-Some-clause-discards c = λ ok. becomes _ _ _ c.in-Some.service.now c.discard.new.service
    c.in-Some.ensures.value refl (c.discard.ensures.discards ok)
