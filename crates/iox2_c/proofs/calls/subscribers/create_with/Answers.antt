use Rattle.std.proofs.Common.{ap}
use Rattle.iox2_c.specs.Serving.{Serving}
use Rattle.iox2_c.specs.Settings.{subscriber_settings}
use Rattle.iox2_c.proofs.CreationSteps.{ToldOf, subscriber-creates, subscriber-refused, told-moved}
use Rattle.iox2_c.proofs.calls.subscribers.create_with.Goals as goal

told : (c : goal.After-subscriber) → ToldOf c.args.service.now.domain c.create-made.new.domain
    (subscriber_settings c.args.options.now) c.create-made.result
told c =
    told-moved c.service.inside.domain c.args.service.now.domain c.create-made.new.domain
    c.factory_with-factory.result.settings (subscriber_settings c.args.options.now) c.create-made.result
    (ap (λ (s : Serving). s.domain) c.service.view_is) c.factory_with-factory.ensures c.create-made.ensures.creates

pub returns-clause-creates : goal.returns-clause-creates
returns-clause-creates c = λ ok.
    subscriber-creates c.args.service.now.domain c.create-made.new.domain (subscriber_settings c.args.options.now)
    c.create-made.result c.tell-code.result c.tell-code.new.out (told c) c.tell-code.ensures.code
    c.tell-code.ensures.named c.tell-code.ensures.buffer ok

pub returns-clause-errors : goal.returns-clause-errors
returns-clause-errors c = λ some valid.
    subscriber-refused c.args.service.now.domain c.create-made.new.domain (subscriber_settings c.args.options.now)
    c.create-made.result c.tell-code.result (told c) c.tell-code.ensures.code some
