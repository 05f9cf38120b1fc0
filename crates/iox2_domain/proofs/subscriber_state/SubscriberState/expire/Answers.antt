use Rattle.std.proofs.Common.{◌<◌, ◌++◌, [], ◌∷◌, ◌∙◌, length, ap, sym, subst, None}
use Rattle.iox2_machine.specs.machine.Places.{set_place}
use Rattle.iox2_domain.specs.Ports.{SubscriberFields}
use Rattle.iox2_domain.proofs.lemmas.containers.ConnectionKeys.{set_place-within}
use Rattle.iox2_domain.proofs.subscriber_state.SubscriberState.expire.Goals as goal

pub returns : goal.returns
returns c =
    let low : c.args.place < length c.self.inside.keys.items =
    subst (λ (y : SubscriberFields). c.args.place < length y.keys) (sym c.self.view_is) c.requires.within in
    (λ k. record (c.self.view_is k) {
      keys = set_place-within c.self.inside.keys.items c.args.place None low k;
      expired = c.push_reserved.ensures.items k;
      expired_room = c.push_reserved.ensures.capacity k;
    })
    ∙ ap (λ (y : SubscriberFields). let z : SubscriberFields = record c.args.self.now {
      keys = set_place y.keys c.args.place None;
      expired = y.expired ++ c.args.key ∷ [];
      expired_room = y.expired_room;
    } in z) c.self.view_is
