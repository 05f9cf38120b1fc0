-- A domain that has as many subscribers as it allows has no other.
use Rattle.std.proofs.Common.{◌≡◌, ℕ, ◌≤◌, Bool, true, false, List, [], ◌∷◌, length, refl, sym, ap, ◌∙◌, arith, inl}
use Rattle.std.proofs.Common.{inr, ⊎_elim, Some}
use Rattle.std.specs.Option.{option_map}
use Rattle.std.proofs.lemmas.Bool.{true≢false}
use Rattle.std.proofs.lemmas.Option.{same_Some}
use Rattle.iox2_machine.specs.machine.Numbers.{contains, IsOnce}
use Rattle.iox2_machine.specs.machine.Places.{occupants}
use Rattle.iox2_machine.specs.machine.Records.{Subscriber}
use Rattle.iox2_machine.specs.machine.State.{State}
use Rattle.iox2_machine.specs.machine.WellFormed.{IsWellFormed}
use Rattle.iox2_laws.proofs.NumberLemmas.{absent_from, contains_in_cons, length_le}
use Rattle.iox2_laws.proofs.PlaceLemmas.{IsOnce-occupants, contains-occupants, length-occupants_le}
use Rattle.iox2_pubsub.specs.AllSubscribers.{AreDifferent, IsAmong, IsNotAmong}
use Rattle.iox2_pubsub.specs.declared.subscriber.Subscriber.{Subscriber as Handle}

abbrev pub ids_of : List Handle → List ℕ
ids_of [] = []
ids_of (subscriber ∷ others) = subscriber.id ∷ ids_of others

pub as-many : (subscribers : List Handle) → length (ids_of subscribers) ≡ length subscribers
as-many [] = refl
as-many (subscriber ∷ others) = let rest : length (ids_of others) ≡ length others = as-many others in
    omega (arith, rest)

not-contained : (id : ℕ) (subscribers : List Handle) → IsNotAmong id subscribers
    → contains (ids_of subscribers) id ≡ false
not-contained id subscribers away = absent_from (ids_of subscribers) id (λ at. nowhere subscribers away at) where
  nowhere : (subscribers : List Handle) → IsNotAmong id subscribers → contains (ids_of subscribers) id ≡ true → ⊥
  nowhere [] away at = true≢false (sym at)
  nowhere (subscriber ∷ others) away at = ⊎_elim (λ same. away.0 (sym same)) (λ later. nowhere others away.1 later)
      (contains_in_cons subscriber.id id (ids_of others) at)

pub ids-once : (subscribers : List Handle) → AreDifferent subscribers → IsOnce (ids_of subscribers)
ids-once [] different = tt
ids-once (subscriber ∷ others) different = (not-contained subscriber.id others different.0, ids-once others different.1)

pub is-among : (id : ℕ) (subscribers : List Handle) → contains (ids_of subscribers) id ≡ true → IsAmong id subscribers
is-among id [] at = true≢false (sym at)
is-among id (subscriber ∷ others) at = ⊎_elim (λ same. inl (sym same)) (λ later. inr (is-among id others later))
    (contains_in_cons subscriber.id id (ids_of others) at)

module _ {T U : Type 0} (s : State T U) (w : IsWellFormed s) where
  -- each subscriber stands at a place
  stands : (q : ℕ) (y : Subscriber) → s.subscribers q ≡ Some y → contains (occupants s.subscriber_places) q ≡ true
  stands q y here = contains-occupants s.subscriber_places q
      (y.place, (w.subscriber_places).stands q y.place (ap (option_map {T = Subscriber} {U = ℕ} (λ z. z.place)) here))

  places-once : IsOnce (occupants s.subscriber_places)
  places-once = IsOnce-occupants s.subscriber_places
      (λ i j id e f. same_Some i j (sym ((w.subscriber_places).known id i e) ∙ (w.subscriber_places).known id j f))

  -- so that no more are there than are allowed
  at-most : (ids : List ℕ) → IsOnce ids → ((q : ℕ) → contains ids q ≡ true
      → (y : Subscriber) × (s.subscribers q ≡ Some y)) → length ids ≤ (s.config).max_subscribers
  at-most ids once there =
      let within : length ids ≤ length (occupants s.subscriber_places) =
      length_le ids (occupants s.subscriber_places) once places-once (λ q at. let y = there q at in stands q y.0 y.1) in
      let few : length (occupants s.subscriber_places) ≤ length s.subscriber_places =
      length-occupants_le s.subscriber_places in
      let bound : length s.subscriber_places ≤ (s.config).max_subscribers = (w.subscriber_places).bound in
      omega (arith, within, few, bound)

  pub no-other : (subscribers : List Handle) → AreDifferent subscribers
      → (s.config).max_subscribers ≤ length subscribers
      → ((q : ℕ) → contains (ids_of subscribers) q ≡ true → (y : Subscriber) × (s.subscribers q ≡ Some y))
      → (q : ℕ) (y : Subscriber) → s.subscribers q ≡ Some y → contains (ids_of subscribers) q ≡ true
  no-other subscribers different full there q y here = by (contains (ids_of subscribers) q) refl where
    one-more : contains (ids_of subscribers) q ≡ false → ⊥
    one-more none =
        let many : length (q ∷ ids_of subscribers) ≤ (s.config).max_subscribers =
        at-most (q ∷ ids_of subscribers) (none, ids-once subscribers different) (λ r at.
        ⊎_elim (λ same. (y, ap s.subscribers (sym same) ∙ here)) (λ later. there r later)
        (contains_in_cons q r (ids_of subscribers) at)) in
        let same : length (ids_of subscribers) ≡ length subscribers = as-many subscribers in
        omega (arith, many, same, full)

    by : (b : Bool) → contains (ids_of subscribers) q ≡ b → contains (ids_of subscribers) q ≡ true
    by true e = e
    by false e = absurd (one-more e)
