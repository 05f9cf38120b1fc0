use Rattle.std.proofs.Common.{ap, subst}
use Rattle.iox2_c.specs.Numbers.{wide}
use Rattle.iox2_c.specs.Serving.{KeptBytes, Serving}
use Rattle.iox2_c.specs.Steps.{Discards}
use Rattle.iox2_c.proofs.calls.loans.discard.Goals as goal

pub returns-clause-discards : goal.returns-clause-discards
returns-clause-discards c = λ ok.
    subst (λ (old : KeptBytes). Discards old c.discard.new.domain (wide c.args.numbers.now.number))
    (ap (λ (s : Serving). s.domain) c.service.view_is)
    (subst (Discards c.service.inside.domain c.discard.new.domain) c.in-Some.ensures.number c.discard.ensures.discarded)
