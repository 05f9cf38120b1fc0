use Rattle.std.proofs.Common.{◌≡◌, ◌||◌, is_some, get_or, ap, sym, ◌∙◌, None, Some}
use Rattle.iox2_machine.specs.declared.service_config.ServiceConfig.{ServiceConfig}
use Rattle.iox2_domain.specs.Fields.{Fields}
use Rattle.iox2_domain.specs.Handlers.{may_fail, may_fail_update}
use Rattle.iox2_domain.specs.Ports.{PublisherFields}
use Rattle.iox2_domain.proofs.lemmas.fields.OpenPorts.{read-at}
use Rattle.iox2_pubsub.specs.Handlers.{may_wait}
use Rattle.iox2_pubsub.proofs.NeverWaiting.{undisturbed-else}
use Rattle.iox2_pubsub.proofs.publisher.never_waits.never_waits_at.Goals as goal

pub returns-else-config : goal.returns-else-config
returns-else-config g c = λ x at.
    let here : get_or c.state.inside.publishers.items c.args.place None ≡ Some x =
    ap (λ (f : Fields g.row.T.Denot g.row.U.Denot). get_or f.publishers c.args.place None) c.state.view_is ∙ at in
    let same = c.publisher.view_is ∙ read-at c.state.inside.publishers.items c.args.place c.index.result.now x
    c.in-Some.publisher here c.index.ensures c.in-Some.is in
    undisturbed-else c.args.state.now.config.enable_safe_overflow
    (is_some x.blocked) x.strategy x.backpressure_handler x.degradation_handler c.disturbs.result
    (ap (λ (y : PublisherFields). is_some y.blocked) (sym same) ∙ sym c.is_some.ensures ∙ c.if-is_some.false)
    (ap (λ (y : PublisherFields). may_fail_update y.degradation_handler) (sym same) ∙ sym c.fails_update.ensures
    ∙ c.if-fails_update.false)
    (ap (λ (s : ServiceConfig). s.enable_safe_overflow) (sym c.config.ensures) ∙ c.if-config.false)
    (c.disturbs.ensures ∙ ap
    (λ (y : PublisherFields). may_wait y.strategy y.backpressure_handler || may_fail y.backpressure_handler) same)
