use Rattle.std.proofs.Common.{◌≡◌, ◌∙◌, ℕ, List, Option, map, Some, ap, subst}
use Rattle.std.proofs.lemmas.List.{map-id}
use Rattle.iox2_domain.specs.Departures.{BorrowsNothing, HasKey, KnowsKey}
use Rattle.iox2_domain.specs.Ports.{SubscriberFields}
use Rattle.iox2_steps.proofs.releases.Drops.{nothing-both}
use Rattle.iox2_updates.proofs.departures.has_borrowed.Goals as goal

pub returns-else-borrows_at_keys-clause-nothing : goal.returns-else-borrows_at_keys-clause-nothing
returns-else-borrows_at_keys-clause-nothing c = λ no.
    let id : c.value-id.result ≡ c.args.subscriber.now.id =
    c.value-id.ensures ∙ ap (λ (y : SubscriberFields). y.id) c.subscriber.view_is in
    let expired : c.deref.result.now ≡ c.args.subscriber.now.expired =
    c.deref.ensures.value ∙ ap (λ (y : SubscriberFields). y.expired) c.subscriber.view_is in
    let places : map (λ (key : Option ℕ). key) c.deref-else-borrows_at_keys.result.now ≡ c.args.subscriber.now.keys =
    map-id c.deref-else-borrows_at_keys.result.now ∙ c.deref-else-borrows_at_keys.ensures.value
    ∙ ap (λ (y : SubscriberFields). y.keys) c.subscriber.view_is in
    subst (λ (q : ℕ). BorrowsNothing c.args.connections.now q (KnowsKey c.args.subscriber.now)) id
    (nothing-both c.args.connections.now c.value-id.result (HasKey c.args.subscriber.now.keys)
    (HasKey (map Some c.args.subscriber.now.expired)) (KnowsKey c.args.subscriber.now)
    (subst (λ (keys : List (Option ℕ)). BorrowsNothing c.args.connections.now c.value-id.result (HasKey keys)) places
    (c.borrows_at_keys-else-borrows_at_keys.ensures.nothing no))
    (subst (λ (keys : List ℕ). BorrowsNothing c.args.connections.now c.value-id.result (HasKey (map Some keys))) expired
    (c.borrows_at_keys.ensures.nothing c.if-borrows_at_keys.false))
    (λ k has. has))
