-- Laws that callers' proofs may cite: the publishers of a domain that has as many as it allows.
use Rattle.std.proofs.Common.{◌≡◌, ℕ, ◌≤◌, Bool, true, false, List, [], ◌∷◌, length, refl, sym, ap, subst, ◌∙◌, arith}
use Rattle.std.proofs.Common.{inl, inr, ⊎_elim, Some}
use Rattle.std.specs.Option.{option_map}
use Rattle.std.proofs.lemmas.Bool.{true≢false}
use Rattle.std.proofs.lemmas.Option.{same_Some}
use Rattle.iox2_machine.specs.machine.Numbers.{contains, IsOnce}
use Rattle.iox2_machine.specs.machine.Places.{occupants}
use Rattle.iox2_machine.specs.machine.Records.{Publisher}
use Rattle.iox2_machine.specs.machine.State.{State}
use Rattle.iox2_machine.specs.machine.WellFormed.{IsWellFormed}
use Rattle.iox2_machine.specs.declared.key.Key.{Key}
use Rattle.iox2_machine.specs.declared.service_config.ServiceConfig.{ServiceConfig}
use Rattle.iox2_laws.proofs.NumberLemmas.{absent_from, contains_in_cons, length_le}
use Rattle.iox2_laws.proofs.PlaceLemmas.{IsOnce-occupants, contains-occupants, length-occupants_le}
use Rattle.iox2_domain.specs.Kept.{Kept, state_of}
use Rattle.iox2_pubsub.specs.AllPublishers.{AreAllPublishers, AreDistinct, ArePublisherKeys, IsNoneOf, IsOneOf}
use Rattle.iox2_pubsub.specs.Live.{IsConsistent, IsPublisherKey, Stays, publisher_key}
use Rattle.iox2_pubsub.specs.declared.publisher.Publisher.{Publisher as Handle}
use Rattle.iox2_pubsub.proofs.ForCallers.{well}
use Rattle.iox2_pubsub.proofs.LiveParts.{publisher-parts}

abbrev ids_of : List Handle → List ℕ
ids_of [] = []
ids_of (publisher ∷ others) = publisher.id ∷ ids_of others

as-many : (publishers : List Handle) → length (ids_of publishers) ≡ length publishers
as-many [] = refl
as-many (publisher ∷ others) = let rest : length (ids_of others) ≡ length others = as-many others in omega (arith, rest)

nowhere : (id : ℕ) (publishers : List Handle) → IsNoneOf id publishers → contains (ids_of publishers) id ≡ true → ⊥
nowhere id [] away at = true≢false (sym at)
nowhere id (publisher ∷ others) away at = ⊎_elim (λ same. away.0 (sym same)) (λ later. nowhere id others away.1 later)
    (contains_in_cons publisher.id id (ids_of others) at)

ids-once : (publishers : List Handle) → AreDistinct publishers → IsOnce (ids_of publishers)
ids-once [] distinct = tt
ids-once (publisher ∷ others) distinct = (
  absent_from (ids_of others) publisher.id (λ at. nowhere publisher.id others distinct.0 at),
  ids-once others distinct.1,
)

is-one : (id : ℕ) (publishers : List Handle) → contains (ids_of publishers) id ≡ true → IsOneOf id publishers
is-one id [] at = absurd (true≢false (sym at))
is-one id (publisher ∷ others) at = ⊎_elim (λ same. inl (sym same)) (λ later. inr (is-one id others later))
    (contains_in_cons publisher.id id (ids_of others) at)

module _ {T U : Type 0} (s : State T U) (w : IsWellFormed s) where
  stands : (p : ℕ) (x : Publisher) → s.publishers p ≡ Some x → contains (occupants s.publisher_places) p ≡ true
  stands p x here = contains-occupants s.publisher_places p
      (x.place, (w.publisher_places).stands p x.place (ap (option_map {T = Publisher} {U = ℕ} (λ z. z.place)) here))

  places-once : IsOnce (occupants s.publisher_places)
  places-once = IsOnce-occupants s.publisher_places
      (λ i j id e f. same_Some i j (sym ((w.publisher_places).known id i e) ∙ (w.publisher_places).known id j f))

  -- no more are there than are allowed
  at-most : (ids : List ℕ) → IsOnce ids → ((p : ℕ) → contains ids p ≡ true
      → (x : Publisher) × (s.publishers p ≡ Some x)) → length ids ≤ (s.config).max_publishers
  at-most ids once there =
      let within : length ids ≤ length (occupants s.publisher_places) =
      length_le ids (occupants s.publisher_places) once places-once (λ p at. let x = there p at in stands p x.0 x.1) in
      let few : length (occupants s.publisher_places) ≤ length s.publisher_places =
      length-occupants_le s.publisher_places in
      let bound : length s.publisher_places ≤ (s.config).max_publishers = (w.publisher_places).bound in
      omega (arith, within, few, bound)

  no-other : (publishers : List Handle) → AreDistinct publishers → (s.config).max_publishers ≤ length publishers
      → ((p : ℕ) → contains (ids_of publishers) p ≡ true → (x : Publisher) × (s.publishers p ≡ Some x))
      → (p : ℕ) (x : Publisher) → s.publishers p ≡ Some x → contains (ids_of publishers) p ≡ true
  no-other publishers distinct full there p x here = by (contains (ids_of publishers) p) refl where
    one-more : contains (ids_of publishers) p ≡ false → ⊥
    one-more none =
        let many : length (p ∷ ids_of publishers) ≤ (s.config).max_publishers =
        at-most (p ∷ ids_of publishers) (none, ids-once publishers distinct) (λ r at.
        ⊎_elim (λ same. (x, ap s.publishers (sym same) ∙ here)) (λ later. there r later)
        (contains_in_cons p r (ids_of publishers) at)) in
        let same : length (ids_of publishers) ≡ length publishers = as-many publishers in
        omega (arith, many, same, full)

    by : (b : Bool) → contains (ids_of publishers) p ≡ b → contains (ids_of publishers) p ≡ true
    by true e = e
    by false e = absurd (one-more e)

module _ {T U F G : Type 0} (domain : Kept T U F G) where
  there : (publishers : List Handle) → ArePublisherKeys domain publishers → (p : ℕ)
      → contains (ids_of publishers) p ≡ true → (x : Publisher) × ((state_of domain).publishers p ≡ Some x)
  there [] live p at = absurd (true≢false (sym at))
  there (publisher ∷ others) live p at =
      ⊎_elim
      (λ same. let has = (publisher-parts domain (publisher_key publisher) live.0).2 in
      (has.0, ap (state_of domain).publishers (sym same) ∙ has.1))
      (λ later. there others live.1 p later)
      (contains_in_cons publisher.id p (ids_of others) at)

  -- it has no other
  pub no_other_publisher : IsConsistent domain → (publishers : List Handle) → AreAllPublishers domain publishers
      → (key : Key) → IsPublisherKey domain key → IsOneOf key.port publishers
  no_other_publisher consistent publishers all key live =
      let has = (publisher-parts domain key live).2 in
      is-one key.port publishers (no-other (state_of domain) (well domain consistent) publishers all.distinct all.full
      (there publishers all.live) key.port has.0 has.1)

-- nor has it one after a call that leaves all that is live
pub all_publishers_stay : {T U F G : Type 0} (old new : Kept T U F G) → Stays old new → (publishers : List Handle)
    → AreAllPublishers old publishers → AreAllPublishers new publishers
all_publishers_stay {T} {U} {F} {G} old new stays publishers all = record {
  live = each publishers all.live;
  distinct = all.distinct;
  full = subst (λ (c : ServiceConfig). c.max_publishers ≤ length publishers) (sym stays.settings) all.full;
}
  where
    each : (publishers : List Handle) → ArePublisherKeys old publishers → ArePublisherKeys new publishers
    each [] live = tt
    each (publisher ∷ others) live = (stays.publishers (publisher_key publisher) live.0 tt, each others live.1)
