use Rattle.std.proofs.Common.{refl, arith}
use Rattle.iox2_c.proofs.BecomesSteps.{turns}
use Rattle.iox2_c.proofs.exports.subscribers.iox2ps_subscriber_create_with.Goals as goal

pub returns-in-Some-clause-creates : goal.returns-in-Some-clause-creates
returns-in-Some-clause-creates c = λ ok. turns _ _ _ c.in-Some.service.now c.create_with.new.service
    c.in-Some.ensures.value refl (c.create_with.ensures.creates ok)

pub returns-in-Some-clause-errors : goal.returns-in-Some-clause-errors
returns-in-Some-clause-errors c = λ some valid. let failed = c.create_with.ensures.errors (omega (arith, some)) valid in (
  failed.0,
  failed.1,
  turns _ _ _ c.in-Some.service.now c.create_with.new.service c.in-Some.ensures.value refl failed.2,
)
