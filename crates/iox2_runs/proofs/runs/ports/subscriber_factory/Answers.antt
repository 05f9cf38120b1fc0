use Rattle.std.proofs.Common.{ℕ, sym, ap, ◌∙◌, Option}
use Rattle.iox2_machine.specs.machine.Limits.{buffer_limit}
use Rattle.iox2_machine.specs.machine.Records.{SubscriberSettings, Fixed}
use Rattle.iox2_pubsub.specs.Factories.{SubscriberFactory}
use Rattle.iox2_runs.specs.Services.{given_for}
use Rattle.iox2_runs.proofs.runs.ports.subscriber_factory.Goals as goal

pub returns-in-Some : goal.returns-in-Some
returns-in-Some g c =
    let settings : SubscriberFactory g.row.G.Denot → SubscriberSettings = λ factory. factory.settings in
    let begun = ap settings c.set_degradation_handler-factory.ensures
    ∙ ap (λ (factory : SubscriberFactory g.row.G.Denot).
    record (factory.settings) { degradation_handler = Fixed c.args.degradation }) c.subscriber_builder.ensures in
    ap settings c.buffer_size.ensures
    ∙ ap (λ (given : SubscriberSettings). record given { buffer_size = c.in-Some.size }) begun
    ∙ ap (λ (buffer : Option ℕ). given_for (buffer_limit c.args.domain.now.config) buffer c.args.degradation)
    (sym c.in-Some.is)

pub returns-in-None : goal.returns-in-None
returns-in-None g c =
    ap (λ (factory : SubscriberFactory g.row.G.Denot). factory.settings) c.set_degradation_handler-factory.ensures
    ∙ ap (λ (factory : SubscriberFactory g.row.G.Denot).
    record (factory.settings) { degradation_handler = Fixed c.args.degradation }) c.subscriber_builder.ensures
    ∙ ap (λ (buffer : Option ℕ). given_for (buffer_limit c.args.domain.now.config) buffer c.args.degradation)
    (sym c.in-None.is)
