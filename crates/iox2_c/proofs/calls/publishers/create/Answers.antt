use Rattle.std.proofs.Common.{ap}
use Rattle.iox2_c.specs.Calls.{publisher_made}
use Rattle.iox2_c.specs.Serving.{Serving}
use Rattle.iox2_c.specs.Settings.{plain_publisher_settings}
use Rattle.iox2_c.specs.Steps.{CreatesPublisher}
use Rattle.iox2_c.proofs.CreationSteps.{by-id, moved, publisher-creates, publisher-refused}
use Rattle.iox2_c.proofs.calls.publishers.create.Goals as goal

step : (c : goal.After-publisher) → CreatesPublisher c.args.service.now.domain c.create-made.new.domain
    (plain_publisher_settings c.args.service.now) (publisher_made c.create-made.result)
step c =
    moved c.service.inside.domain c.args.service.now.domain c.create-made.new.domain
    c.plain_factory-factory.result.settings (plain_publisher_settings c.args.service.now)
    (publisher_made c.create-made.result)
    (ap (λ (s : Serving). s.domain) c.service.view_is) c.plain_factory-factory.ensures
    (by-id c.service.inside.domain c.create-made.new.domain c.plain_factory-factory.result.settings c.create-made.result
    c.create-made.ensures.creates)

pub returns-clause-creates : goal.returns-clause-creates
returns-clause-creates c = λ ok.
    publisher-creates c.args.service.now.domain c.create-made.new.domain (plain_publisher_settings c.args.service.now)
    c.create-made.result c.tell-code.result c.tell-code.new.out (step c)
    c.tell-code.ensures.code c.tell-code.ensures.named ok

pub returns-clause-errors : goal.returns-clause-errors
returns-clause-errors c = λ some.
    publisher-refused c.args.service.now.domain c.create-made.new.domain (plain_publisher_settings c.args.service.now)
    c.create-made.result c.tell-code.result (step c) c.tell-code.ensures.code some
