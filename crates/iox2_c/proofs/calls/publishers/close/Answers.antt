use Rattle.std.proofs.Common.{ap, subst}
use Rattle.iox2_c.specs.Numbers.{wide}
use Rattle.iox2_c.specs.Serving.{KeptBytes, Serving}
use Rattle.iox2_c.specs.Steps.{ClosesPublisher}
use Rattle.iox2_c.proofs.calls.publishers.close.Goals as goal

pub returns-in-Ok-clause-closed : goal.returns-in-Ok-clause-closed
returns-in-Ok-clause-closed c = λ ok.
    subst (λ (old : KeptBytes). ClosesPublisher old c.close.new.domain (wide c.args.numbers.now.id))
    (ap (λ (s : Serving). s.domain) c.service.view_is)
    (subst (ClosesPublisher c.service.inside.domain c.close.new.domain) c.in-Ok.ensures.id c.close.ensures.closed)
