use Rattle.std.proofs.Common.{refl, inl, inr, arith}
use Rattle.iox2_c.proofs.BecomesSteps.{becomes}
use Rattle.iox2_c.proofs.exports.questions.iox2ps_subscriber_update_connections.Goals as goal

pub returns-in-Some-clause-updates : goal.returns-in-Some-clause-updates
returns-in-Some-clause-updates c = λ ended. let done = c.update_subscriber.ensures.updates
    (λ two. absurd (elim ended [ inl none ↦ omega (arith, two, none) | inr high ↦ omega (arith, two, high) ])) in (
      done.0,
      done.1,
      becomes _ _ _ c.in-Some.service.now c.update_subscriber.new.service c.in-Some.ensures.value refl done.2,
    )
