use Rattle.std.proofs.Common.{ap, subst}
use Rattle.iox2_c.specs.Numbers.{wide}
use Rattle.iox2_c.specs.Serving.{KeptBytes, Serving}
use Rattle.iox2_c.specs.Steps.{ClosesSubscriber}
use Rattle.iox2_c.proofs.calls.subscribers.close.Goals as goal

pub returns-clause-closed : goal.returns-clause-closed
returns-clause-closed c = λ ok.
    subst (λ (old : KeptBytes). ClosesSubscriber old c.close-2.new.domain (wide c.args.numbers.now.id))
    (ap (λ (s : Serving). s.domain) c.service.view_is)
    (subst
    (ClosesSubscriber c.service.inside.domain c.close-2.new.domain) c.in-Some.ensures.id c.close-2.ensures.closed)
