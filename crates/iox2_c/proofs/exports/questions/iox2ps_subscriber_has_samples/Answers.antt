use Rattle.std.proofs.Common.{refl, inl, inr, arith}
use Rattle.iox2_c.proofs.BecomesSteps.{becomes}
use Rattle.iox2_c.proofs.exports.questions.iox2ps_subscriber_has_samples.Goals as goal

pub returns-in-Some-clause-answers : goal.returns-in-Some-clause-answers
returns-in-Some-clause-answers c = λ ended. let done = c.has_samples.ensures.answers
    (λ two. absurd (elim ended [ inl none ↦ omega (arith, two, none) | inr high ↦ omega (arith, two, high) ])) in (
      done.0,
      done.1,
      done.2,
      becomes _ _ _ c.in-Some.service.now c.has_samples.new.service c.in-Some.ensures.value refl done.3,
    )
