use Rattle.std.proofs.Common.{refl}
use Rattle.iox2_c.proofs.BecomesSteps.{becomes}
use Rattle.iox2_c.proofs.exports.subscribers.iox2ps_subscriber_receive_copy.Goals as goal

pub returns-in-Some-clause-copied : goal.returns-in-Some-clause-copied
returns-in-Some-clause-copied c = λ ok. let copied = c.receive_copy.ensures.copied ok in (
  copied.0,
  copied.1,
  copied.2,
  becomes _ _ _ c.in-Some.service.now c.receive_copy.new.service c.in-Some.ensures.value refl copied.3,
)

pub returns-in-Some-clause-kept : goal.returns-in-Some-clause-kept
returns-in-Some-clause-kept c = λ small. becomes _ _ _ c.in-Some.service.now c.receive_copy.new.service
    c.in-Some.ensures.value refl (c.receive_copy.ensures.kept small)

pub returns-in-Some-clause-nothing : goal.returns-in-Some-clause-nothing
returns-in-Some-clause-nothing c = λ none. becomes _ _ _ c.in-Some.service.now c.receive_copy.new.service
    c.in-Some.ensures.value refl (c.receive_copy.ensures.nothing none)

pub returns-in-Some-clause-errors : goal.returns-in-Some-clause-errors
returns-in-Some-clause-errors c = λ high other. let failed = c.receive_copy.ensures.errors high other in (
  failed.0,
  failed.1,
  becomes _ _ _ c.in-Some.service.now c.receive_copy.new.service c.in-Some.ensures.value refl failed.2,
)
