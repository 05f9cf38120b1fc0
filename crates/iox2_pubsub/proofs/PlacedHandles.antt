-- Where the ports of live handles stand among a domain's fields.
use Rattle.std.proofs.Common.{◌≡◌, ℕ, zero, suc, List, [], ◌∷◌, map, get_or, true, Option, None, Some, refl, ap, sym}
use Rattle.std.proofs.Common.{subst, ◌∙◌}
use Rattle.std.proofs.lemmas.Bool.{eq-eqb}
use Rattle.std.specs.Option.{option_map}
use Rattle.std.specs.Prelude.{◌↔◌}
use Rattle.iox2_machine.specs.machine.SingleCalls.{HoldsPublisher, HoldsSubscriber}
use Rattle.iox2_domain.proofs.lemmas.fields.OpenPorts.{open-subscriber, present-publisher, subscriber-open}
use Rattle.std.proofs.lemmas.Option.{same_Some}
use Rattle.iox2_machine.specs.machine.Places.{occupant}
use Rattle.iox2_machine.specs.machine.Records.{Publisher, Subscriber}
use Rattle.iox2_machine.specs.machine.State.{State}
use Rattle.iox2_machine.specs.declared.key.Key.{Key}
use Rattle.iox2_domain.specs.Boxes.{DomainBoxes}
use Rattle.iox2_domain.specs.Fields.{Fields, kept_of, keeping, publisher_of, subscriber_of}
use Rattle.iox2_domain.specs.Invariant.{IsDomain}
use Rattle.iox2_domain.specs.Kept.{Kept, Named, ids, state_of}
use Rattle.iox2_domain.specs.Ports.{PublisherFields, SubscriberFields}
use Rattle.iox2_domain.proofs.lemmas.fields.ConnectionEnds.{publisher-stands, subscriber-stands}
use Rattle.iox2_pubsub.specs.Live.{IsLiveSubscriber, IsPlacedPublisher, IsPlacedSubscriber, IsPublisherKey}
use Rattle.iox2_pubsub.specs.Live.{IsReadyPublisher, IsSubscriberKey, publisher_key, subscriber_key}
use Rattle.iox2_pubsub.specs.declared.publisher.Publisher.{Publisher as PublisherHandle}
use Rattle.iox2_pubsub.specs.declared.subscriber.Subscriber.{Subscriber as SubscriberHandle}
use Rattle.iox2_pubsub.proofs.LiveParts.{placed-from, placed-parts, placed-subscriber-from, placed-subscriber-parts}
use Rattle.iox2_pubsub.proofs.LiveParts.{publisher-live, publisher-parts, subscriber-live, subscriber-parts}

module _ {A B : Type 0} (f : A → Named B) where
  -- whose record stands at a place has that place
  occupies : (xs : List (Option A)) (i : ℕ) (x : A) → get_or xs i None ≡ Some x
      → occupant (ids (map (option_map f) xs)) i ≡ Some (f x).id
  occupies [] zero x at = absurd cc
  occupies [] (suc i) x at = absurd cc
  occupies (None ∷ xs) zero x at = absurd cc
  occupies (Some y ∷ xs) zero x at = ap (option_map (λ (a : A). (f a).id)) at
  occupies (y ∷ xs) (suc i) x at = occupies xs i x at

  -- at a place that somebody has stands its record
  occupied : (xs : List (Option A)) (i p : ℕ) → occupant (ids (map (option_map f) xs)) i ≡ Some p
      → (x : A) × (get_or xs i None ≡ Some x) × ((f x).id ≡ p)
  occupied [] i p at = absurd cc
  occupied (None ∷ xs) zero p at = absurd cc
  occupied (Some y ∷ xs) zero p at = (y, refl, same_Some (f y).id p at)
  occupied (y ∷ xs) (suc i) p at = occupied xs i p at

-- the state that fields keep
abbrev shown : {T U : Type 0} → Fields T U → State T U
shown f = state_of (kept_of f)

-- The record of the handle's publisher stands at the handle's place.
abbrev pub StandsAtPlace : {T U : Type 0} → Fields T U → PublisherHandle → Type 0
StandsAtPlace f it = (x : PublisherFields) × (get_or f.publishers it.place None ≡ Some x) × (x.id ≡ it.id)

module _ {T U : Type 0} (f : Fields T U) (sound : IsDomain f) where
  -- a publisher whose record stands at a place is there, at that place
  pub publisher-at : (id place : ℕ) → (x : PublisherFields) × (get_or f.publishers place None ≡ Some x) × (x.id ≡ id)
      → (x : Publisher) × ((shown f).publishers id ≡ Some x) × (x.place ≡ place)
  publisher-at id place at =
      let port : Publisher = (publisher_of f.books f.connections at.0).port in
      let there : (shown f).publishers id ≡ Some port =
      ap (shown f).publishers (sym at.2) ∙ publisher-stands f sound.parts place at.0 at.1 in
      let known : option_map {T = Publisher} {U = ℕ} (λ x. x.place) ((shown f).publishers id) ≡ Some place =
      ((sound.well_formed).publisher_places).known id place
      (occupies (publisher_of f.books f.connections) f.publishers place at.0 at.1 ∙ ap Some at.2) in (
        port,
        there,
        same_Some port.place place (sym (ap (option_map {T = Publisher} {U = ℕ} (λ z. z.place)) there) ∙ known),
      )

module _ {T U F G : Type 0} (boxes : DomainBoxes F G) (f : Fields T U) (sound : IsDomain f) where
  -- a publisher whose record stands at its handle's place is where the handle says
  pub publisher-placed : (it : PublisherHandle) → StandsAtPlace f it → IsPlacedPublisher (keeping boxes f) it
  publisher-placed it at =
      let there = publisher-at f sound it.id it.place at in
      placed-from (keeping boxes f) it (
        ((sound.well_formed).publishers it.id there.0 there.1).is_known,
        λ x here. ap (λ (z : Publisher). z.place) (same_Some x there.0 (sym here ∙ there.1)) ∙ there.2,
      )

  -- and so with a subscriber
  pub subscriber-placed : (it : SubscriberHandle) → (y : SubscriberFields)
      × (get_or f.subscribers it.place None ≡ Some y) × (y.id ≡ it.id) → IsPlacedSubscriber (keeping boxes f) it
  subscriber-placed it at =
      let there : (shown f).subscribers it.id ≡ Some ((subscriber_of f.books f.connections at.0).port) =
      ap (shown f).subscribers (sym at.2) ∙ subscriber-stands f sound.parts it.place at.0 at.1 in
      let place : option_map {T = Subscriber} {U = ℕ} (λ y. y.place) ((shown f).subscribers it.id) ≡ Some it.place =
      ((sound.well_formed).subscriber_places).known it.id it.place
      (occupies (subscriber_of f.books f.connections) f.subscribers it.place at.0 at.1 ∙ ap Some at.2) in
      placed-subscriber-from (keeping boxes f) it (
        ((sound.well_formed).subscribers it.id _ there).is_known,
        λ y here.
            same_Some y.place it.place (sym (ap (option_map {T = Subscriber} {U = ℕ} (λ z. z.place)) here) ∙ place),
      )

module _ {T U F G : Type 0} {boxes : DomainBoxes F G} (f : Fields T U) (sound : IsDomain f) (kept : Kept T U F G)
    (view : keeping boxes f ≡ kept) where
  -- the record of a publisher that is there stands at its handle's place
  pub publisher-there : (it : PublisherHandle) → IsPublisherKey kept (publisher_key it) → IsPlacedPublisher kept it
      → StandsAtPlace f it
  publisher-there it there placed =
      let has = (publisher-parts (keeping boxes f) _
      (subst (λ (k : Kept T U F G). IsPublisherKey k (publisher_key it)) (sym view) there)).2 in
      let parts =
      placed-parts (keeping boxes f) it (subst (λ (k : Kept T U F G). IsPlacedPublisher k it) (sym view) placed) in
      let place : option_map {T = Publisher} {U = ℕ} (λ x. x.place) ((shown f).publishers it.id) ≡ Some it.place =
      ap (option_map {T = Publisher} {U = ℕ} (λ x. x.place)) has.1 ∙ ap Some (parts.1 has.0 has.1) in
      occupied (publisher_of f.books f.connections) f.publishers it.place it.id
      (((sound.well_formed).publisher_places).stands it.id it.place place)

  pub publisher-at-place : (it : PublisherHandle) → IsReadyPublisher kept it → StandsAtPlace f it
  publisher-at-place it ready = publisher-there it ready.there ready.placed

  -- and that of a live subscriber
  pub subscriber-at-place : (it : SubscriberHandle) → IsLiveSubscriber kept it
      → (y : SubscriberFields) × (get_or f.subscribers it.place None ≡ Some y) × (y.id ≡ it.id)
  subscriber-at-place it live =
      let has = (subscriber-parts (keeping boxes f) _
      (subst (λ (k : Kept T U F G). IsSubscriberKey k (subscriber_key it)) (sym view) live.there)).2 in
      let parts = placed-subscriber-parts (keeping boxes f) it
      (subst (λ (k : Kept T U F G). IsPlacedSubscriber k it) (sym view) live.placed) in
      let place : option_map {T = Subscriber} {U = ℕ} (λ y. y.place) ((shown f).subscribers it.id) ≡ Some it.place =
      ap (option_map {T = Subscriber} {U = ℕ} (λ y. y.place)) has.1 ∙ ap Some (parts.1 has.0 has.1) in
      occupied (subscriber_of f.books f.connections) f.subscribers it.place it.id
      (((sound.well_formed).subscriber_places).stands it.id it.place place)

  -- so one stands there
  pub subscriber-there : (it : SubscriberHandle) → IsLiveSubscriber kept it
      → (y : SubscriberFields) × (get_or f.subscribers it.place None ≡ Some y)
  subscriber-there it live = let at = subscriber-at-place it live in (at.0, at.1)

  -- ---- what a search tells

  -- who was found is named by its key, and who is named is found, in a domain of this service
  pub publisher-named : (key : Key) → key.message ≡ 0 → key.service_id ≡ (f.config).service_id
      → HoldsPublisher (shown f) key.port → IsPublisherKey kept key
  publisher-named key none service holds = subst (λ (k : Kept T U F G). IsPublisherKey k key) view
      (publisher-live (keeping boxes f) key (none, service, holds))

  pub publisher-among : (key : Key) → IsPublisherKey kept key
      → (key.message ≡ 0) × (key.service_id ≡ (f.config).service_id) × HoldsPublisher (shown f) key.port
  publisher-among key live =
      publisher-parts (keeping boxes f) key (subst (λ (k : Kept T U F G). IsPublisherKey k key) (sym view) live)

  pub subscriber-named : (key : Key) → key.message ≡ 0 → key.service_id ≡ (f.config).service_id
      → HoldsSubscriber (shown f) key.port → IsSubscriberKey kept key
  subscriber-named key none service holds = subst (λ (k : Kept T U F G). IsSubscriberKey k key) view
      (subscriber-live (keeping boxes f) key (none, service, holds))

  pub subscriber-among : (key : Key) → IsSubscriberKey kept key
      → (key.message ≡ 0) × (key.service_id ≡ (f.config).service_id) × HoldsSubscriber (shown f) key.port
  subscriber-among key live =
      subscriber-parts (keeping boxes f) key (subst (λ (k : Kept T U F G). IsSubscriberKey k key) (sym view) live)

  -- a handle with the place at which its port was found says where that stands
  pub publisher-found-placed : (it : PublisherHandle) → StandsAtPlace f it → IsPlacedPublisher kept it
  publisher-found-placed it found =
      subst (λ (k : Kept T U F G). IsPlacedPublisher k it) view (publisher-placed boxes f sound it found)

  pub subscriber-found-placed : (it : SubscriberHandle) → (y : SubscriberFields)
      × (get_or f.subscribers it.place None ≡ Some y) × (y.id ≡ it.id) → IsPlacedSubscriber kept it
  subscriber-found-placed it found =
      subst (λ (k : Kept T U F G). IsPlacedSubscriber k it) view (subscriber-placed boxes f sound it found)

  -- a handle of this service names a port of the domain where that was found at the handle's place, and only there
  pub publisher-in : (it : PublisherHandle) → it.service_id ≡ (f.config).service_id → HoldsPublisher (shown f) it.id
      → (i : ℕ) → (x : PublisherFields) × (get_or f.publishers i None ≡ Some x) × (x.id ≡ it.id)
      → (i ≡ it.place) ↔ (IsPublisherKey kept (publisher_key it) × IsPlacedPublisher kept it)
  publisher-in it service holds i found = (
    λ here. (
      publisher-named (publisher_key it) refl service holds,
      publisher-found-placed it (subst
          (λ (k : ℕ). (x : PublisherFields) × (get_or f.publishers k None ≡ Some x) × (x.id ≡ it.id)) here found),
    ),
    λ live.
        let there = publisher-there it live.0 live.1 in
        ((sound.parts).publisher_ids it.id).one i it.place found.0 there.0 found.1 there.1
        (eq-eqb found.0.id it.id found.2) (eq-eqb there.0.id it.id there.2),
  )

  -- and where its record stands there, and only there
  pub publisher-hinted : (it : PublisherHandle) → it.service_id ≡ (f.config).service_id
      → StandsAtPlace f it ↔ (IsPublisherKey kept (publisher_key it) × IsPlacedPublisher kept it)
  publisher-hinted it service = (
    λ at. (publisher-in it service (present-publisher f it.id sound it.place at.0 at.1 at.2) it.place at).0 refl,
    λ live. publisher-there it live.0 live.1,
  )

  pub subscriber-in : (it : SubscriberHandle) → it.service_id ≡ (f.config).service_id → HoldsSubscriber (shown f) it.id
      → (i : ℕ) → (y : SubscriberFields) × (get_or f.subscribers i None ≡ Some y) × (y.id ≡ it.id)
      → (i ≡ it.place) ↔ IsLiveSubscriber kept it
  subscriber-in it service holds i found = (
    λ here. record {
      there = subscriber-named (subscriber_key it) refl service holds;
      placed = subscriber-found-placed it (subst
          (λ (k : ℕ). (y : SubscriberFields) × (get_or f.subscribers k None ≡ Some y) × (y.id ≡ it.id)) here found);
    },
    λ live.
        let there = subscriber-at-place it live in
        ((sound.parts).subscriber_ids it.id).one i it.place found.0 there.0 found.1 there.1
        (eq-eqb found.0.id it.id found.2) (eq-eqb there.0.id it.id there.2),
  )

  -- a handle of this service is live where its subscriber stands open at its place, and only there
  pub subscriber-hinted : (it : SubscriberHandle) → it.service_id ≡ (f.config).service_id
      → ((y : SubscriberFields) × (get_or f.subscribers it.place None ≡ Some y) × (y.id ≡ it.id) × (y.is_open ≡ true))
      ↔ IsLiveSubscriber kept it
  subscriber-hinted it service = (
    λ at. (subscriber-in it service (open-subscriber f it.id sound it.place at.0 at.1 at.2 at.3) it.place
        (at.0, at.1, at.2)).0 refl,
    λ live.
        let there = subscriber-at-place it live in
        let has = (subscriber-parts (keeping boxes f) (subscriber_key it)
        (subst (λ (k : Kept T U F G). IsSubscriberKey k (subscriber_key it)) (sym view) live.there)).2 in
        (there.0, there.1, there.2, subscriber-open f it.id sound it.place there.0 there.1 there.2 has),
  )
