use Rattle.std.proofs.Common.{ap, ◌∙◌}
use Rattle.iox2_pubsub.specs.Factories.{SubscriberFactory}
use Rattle.iox2_c.specs.Serving.{Serving}
use Rattle.iox2_c.specs.Settings.{plain_subscriber_settings}
use Rattle.iox2_pubsub.specs.declared.no_handler.NoHandler.{NoHandler}
use Rattle.iox2_c.proofs.CreationSteps.{ToldOf, subscriber-creates, subscriber-refused, told-moved}
use Rattle.iox2_c.proofs.calls.subscribers.create.Goals as goal

told : (c : goal.After-subscriber) → ToldOf c.args.service.now.domain c.create-made.new.domain
    (plain_subscriber_settings c.args.service.now) c.create-made.result
told c =
    told-moved c.service.inside.domain c.args.service.now.domain c.create-made.new.domain
    c.slice_subscriber_builder-factory.result.settings
    (plain_subscriber_settings c.args.service.now) c.create-made.result
    (ap (λ (s : Serving). s.domain) c.service.view_is)
    (ap (λ (f : SubscriberFactory NoHandler). f.settings) c.slice_subscriber_builder-factory.ensures
    ∙ ap plain_subscriber_settings c.service.view_is) c.create-made.ensures.creates

pub returns-clause-creates : goal.returns-clause-creates
returns-clause-creates c = λ ok.
    subscriber-creates c.args.service.now.domain c.create-made.new.domain (plain_subscriber_settings c.args.service.now)
    c.create-made.result c.tell-code.result c.tell-code.new.out (told c) c.tell-code.ensures.code
    c.tell-code.ensures.named c.tell-code.ensures.buffer ok

pub returns-clause-errors : goal.returns-clause-errors
returns-clause-errors c = λ some.
    subscriber-refused c.args.service.now.domain c.create-made.new.domain (plain_subscriber_settings c.args.service.now)
    c.create-made.result c.tell-code.result (told c) c.tell-code.ensures.code some
