use Rattle.std.proofs.Common.{ap}
use Rattle.iox2_machine.specs.machine.Records.{PublisherSettings}
use Rattle.iox2_pubsub.specs.Factories.{with_slots}
use Rattle.iox2_c.specs.Calls.{publisher_made}
use Rattle.iox2_c.specs.Codes.{slots_numbered}
use Rattle.iox2_c.specs.Serving.{Serving}
use Rattle.iox2_c.specs.Settings.{settings_of_options}
use Rattle.iox2_c.specs.Steps.{CreatesPublisher}
use Rattle.iox2_c.proofs.CreationSteps.{moved, publisher-creates, publisher-refused}
use Rattle.iox2_c.proofs.calls.publishers.create_with.Goals as goal

step : (c : goal.After-publisher)
    → CreatesPublisher c.args.service.now.domain c.create_by-made.new.domain
    (settings_of_options (c.args.service.now.domain).config c.args.options.now) (publisher_made c.create_by-made.result)
step c =
    moved c.service.inside.domain c.args.service.now.domain c.create_by-made.new.domain
    (with_slots c.factory_with-factory.result.settings (slots_numbered c.args.options.now.preallocated_samples))
    (settings_of_options (c.args.service.now.domain).config c.args.options.now) (publisher_made c.create_by-made.result)
    (ap (λ (s : Serving). s.domain) c.service.view_is)
    (ap (λ (g : PublisherSettings). with_slots g (slots_numbered c.args.options.now.preallocated_samples))
    c.factory_with-factory.ensures) c.create_by-made.ensures.creates

pub returns-clause-creates : goal.returns-clause-creates
returns-clause-creates c = λ ok.
    publisher-creates c.args.service.now.domain c.create_by-made.new.domain
    (settings_of_options (c.args.service.now.domain).config c.args.options.now) c.create_by-made.result
    c.tell-code.result c.tell-code.new.out
    (step c) c.tell-code.ensures.code c.tell-code.ensures.named ok

pub returns-clause-errors : goal.returns-clause-errors
returns-clause-errors c = λ some valid.
    publisher-refused c.args.service.now.domain c.create_by-made.new.domain
    (settings_of_options (c.args.service.now.domain).config c.args.options.now) c.create_by-made.result
    c.tell-code.result (step c)
    c.tell-code.ensures.code some
