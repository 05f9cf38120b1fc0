use Rattle.std.proofs.Common.{◌≡◌, ◌∙◌, List, Option, ℕ, map, Some, inl, inr, ap, sym, subst}
use Rattle.std.proofs.lemmas.List.{map-id}
use Rattle.iox2_domain.specs.ChannelChanges.{ChangesLinks}
use Rattle.iox2_domain.specs.Departures.{HasKey, KnowsKey}
use Rattle.iox2_domain.specs.Ports.{SubscriberFields}
use Rattle.iox2_connections.specs.Finds.{HasConnections}
use Rattle.iox2_messages.specs.ChannelChanges.{changed_link}
use Rattle.iox2_messages.proofs.ChangedLinks.{both-changed, still-connected}
use Rattle.iox2_messages.proofs.changed_channels.change_known.Goals as goal

pub change_at_keys-requires : goal.change_at_keys-requires
change_at_keys-requires c =
    let places : map (λ (key : Option ℕ). key) c.deref.result.now ≡ c.args.subscriber.now.keys =
    map-id c.deref.result.now ∙ c.deref.ensures.value ∙ ap (λ (y : SubscriberFields). y.keys) c.subscriber.view_is in
    subst (HasConnections c.args.connections.now) (sym places) c.requires.places

pub change_at_keys-requires-2 : goal.change_at_keys-requires-2
change_at_keys-requires-2 c =
    let expired : c.deref-2.result.now ≡ c.args.subscriber.now.expired =
    c.deref-2.ensures.value ∙ ap (λ (y : SubscriberFields). y.expired) c.subscriber.view_is in
    subst (λ (keys : List ℕ). HasConnections c.change_at_keys.new.connections (map Some keys)) (sym expired)
    (still-connected c.args.change c.args.channel c.args.expected
    (HasKey (map (λ (key : Option ℕ). key) c.deref.result.now)) c.args.connections.now c.change_at_keys.new.connections
    c.change_at_keys.ensures
    (map Some c.args.subscriber.now.expired) c.requires.expired)

pub returns : goal.returns
returns c =
    let places : map (λ (key : Option ℕ). key) c.deref.result.now ≡ c.args.subscriber.now.keys =
    map-id c.deref.result.now ∙ c.deref.ensures.value ∙ ap (λ (y : SubscriberFields). y.keys) c.subscriber.view_is in
    let expired : c.deref-2.result.now ≡ c.args.subscriber.now.expired =
    c.deref-2.ensures.value ∙ ap (λ (y : SubscriberFields). y.expired) c.subscriber.view_is in
    both-changed c.args.change c.args.channel c.args.expected (HasKey c.args.subscriber.now.keys)
    (HasKey (map Some c.args.subscriber.now.expired)) (KnowsKey c.args.subscriber.now)
    c.args.connections.now c.change_at_keys.new.connections c.change_at_keys-2.new.connections
    (subst (λ (keys : List (Option ℕ)). ChangesLinks (changed_link c.args.change c.args.channel c.args.expected)
    (HasKey keys) c.args.connections.now c.change_at_keys.new.connections) places c.change_at_keys.ensures)
    (subst (λ (keys : List ℕ). ChangesLinks (changed_link c.args.change c.args.channel c.args.expected)
    (HasKey (map Some keys)) c.change_at_keys.new.connections c.change_at_keys-2.new.connections) expired
    c.change_at_keys-2.ensures)
    (λ k has. has) (λ k has. inl has) (λ k has. inr has)
