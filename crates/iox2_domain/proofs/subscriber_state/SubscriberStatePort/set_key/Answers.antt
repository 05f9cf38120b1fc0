use Rattle.std.proofs.Common.{refl}
use Rattle.iox2_domain.proofs.lemmas.containers.ConnectionKeys.{placed-sets}
use Rattle.iox2_domain.proofs.subscriber_state.SubscriberStatePort.set_key.Goals as goal

pub returns : goal.returns
returns c = rw (
  ← c.self.view_is,
  c.put_at_place.ensures.items,
  c.put_at_place.ensures.capacity,
  placed-sets c.self.inside.keys.items c.args.place c.args.key,
) refl
