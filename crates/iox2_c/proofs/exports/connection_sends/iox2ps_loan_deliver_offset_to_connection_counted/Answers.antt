use Rattle.std.proofs.Common.{rules, refl}
use Rattle.iox2_c.proofs.BecomesSteps.{lifted, unlifted}
use Rattle.iox2_c.proofs.exports.connection_sends.iox2ps_loan_deliver_offset_to_connection_counted.Goals as goal

pub returns-in-Some : goal.returns-in-Some
returns-in-Some c =
    lifted _ _ _ _ c.in-Some.service.now c.send_to.new.service _ c.in-Some.ensures.value refl c.send_to.ensures

pub returns-in-None : goal.returns-in-None
returns-in-None c = unlifted _ _ _ _ _ (search rules) refl (search rules) (search rules)
