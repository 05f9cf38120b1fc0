use Rattle.std.proofs.Common.{◌≡◌, ◌∙◌, ℕ, List, Option, map, Some, ap, subst}
use Rattle.std.proofs.lemmas.List.{map-id}
use Rattle.iox2_domain.specs.Departures.{DropsUnshared, HasKey, KnowsKey}
use Rattle.iox2_domain.specs.Ports.{SubscriberFields}
use Rattle.iox2_steps.proofs.releases.Drops.{drops-both}
use Rattle.iox2_updates.proofs.departures.remove_unshared.Goals as goal

pub returns : goal.returns
returns c =
    let id : c.value-id.result ≡ c.args.subscriber.now.id =
    c.value-id.ensures ∙ ap (λ (y : SubscriberFields). y.id) c.subscriber.view_is in
    let places : map (λ (key : Option ℕ). key) c.deref.result.now ≡ c.args.subscriber.now.keys =
    map-id c.deref.result.now ∙ c.deref.ensures.value ∙ ap (λ (y : SubscriberFields). y.keys) c.subscriber.view_is in
    let expired : c.deref-2.result.now ≡ c.args.subscriber.now.expired =
    c.deref-2.ensures.value ∙ ap (λ (y : SubscriberFields). y.expired) c.subscriber.view_is in
    subst (λ (q : ℕ). DropsUnshared c.args.publishers.now q
    (KnowsKey c.args.subscriber.now) c.args.connections.now c.remove_at_keys-2.new.connections) id
    (drops-both c.args.publishers.now c.value-id.result (HasKey c.args.subscriber.now.keys)
    (HasKey (map Some c.args.subscriber.now.expired)) (KnowsKey c.args.subscriber.now)
    c.args.connections.now c.remove_at_keys.new.connections c.remove_at_keys-2.new.connections
    (subst (λ (keys : List (Option ℕ)). DropsUnshared c.args.publishers.now c.value-id.result
    (HasKey keys) c.args.connections.now c.remove_at_keys.new.connections) places c.remove_at_keys.ensures)
    (subst (λ (keys : List ℕ). DropsUnshared c.args.publishers.now c.value-id.result
    (HasKey (map Some keys)) c.remove_at_keys.new.connections c.remove_at_keys-2.new.connections) expired
    c.remove_at_keys-2.ensures)
    (λ k has. has))
