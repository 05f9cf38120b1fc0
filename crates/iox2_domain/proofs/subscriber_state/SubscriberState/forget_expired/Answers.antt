use Rattle.std.proofs.Common.{rules, ◌∙◌, ap}
use Rattle.std.proofs.lemmas.Fn.{filter_same}
use Rattle.iox2_machine.specs.machine.Numbers.{without}
use Rattle.iox2_domain.specs.Ports.{SubscriberFields}
use Rattle.iox2_domain.proofs.subscriber_state.SubscriberState.forget_expired.Goals as goal

pub returns : goal.returns
returns c =
    let kept = filter_same _ _ _ (λ x b f' k. search rules) _ _ c.retain.ensures.filtered in
    (λ k. record (c.self.view_is k) { expired = kept k; expired_room = c.retain.ensures.capacity k })
    ∙ ap (λ (y : SubscriberFields). let z : SubscriberFields = record c.args.self.now
    { expired = without c.args.key y.expired; expired_room = y.expired_room } in z) c.self.view_is
