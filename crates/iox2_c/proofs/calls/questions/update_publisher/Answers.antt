use Rattle.std.proofs.Common.{ap}
use Rattle.iox2_c.specs.Numbers.{wide}
use Rattle.iox2_c.specs.Serving.{Serving}
use Rattle.iox2_c.specs.Steps.{PublisherUpdates}
use Rattle.iox2_c.proofs.BecomesSteps.{told-update}
use Rattle.iox2_c.proofs.calls.questions.update_publisher.Goals as goal

pub returns-clause-updates : goal.returns-clause-updates
returns-clause-updates c = λ live.
    told-update PublisherUpdates c.update_connections-updated.result _ c.service.inside.domain c.args.service.now.domain
    c.update_connections-updated.new.domain _ (wide c.args.numbers.now.id)
    (ap (λ (s : Serving). s.domain) c.service.view_is) c.in-Ok.ensures.id c.tell_update.ensures
    c.update_connections-updated.ensures.updates
