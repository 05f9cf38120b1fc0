-- What the machine sees of a domain's ports, and which record it sees there.
use Rattle.std.proofs.Common.{◌≡◌, ℕ, zero, suc, List, [], ◌∷◌, map, length, get_or, ◌<◌, refl, ap, sym, ◌∙◌, arith}
use Rattle.std.proofs.lemmas.Bool.{eq-eqb, eqb-true}
use Rattle.std.proofs.lemmas.List.{length-map}
use Rattle.std.specs.declared.option.Option.{Option}
use Rattle.std.specs.declared.option.Option.TheVariants.{None, Some}
use Rattle.std.specs.Option.{option_map, option_and_then}
use Rattle.slab.specs.Slab.{Slab, get}
use Rattle.iox2_connections.specs.Link.{Link}
use Rattle.iox2_machine.specs.machine.Places.{occupant}
use Rattle.iox2_machine.specs.machine.Records.{Publisher, Subscriber}
use Rattle.iox2_machine.specs.machine.State.{State}
use Rattle.iox2_connections.specs.LookUp.{look_up, IsOnly}
use Rattle.iox2_connections.proofs.LookUps.{look_up-there, look_up-found}
use Rattle.iox2_domain.specs.Kept.{Named, state_of, is_named, port_named, ids}
use Rattle.iox2_domain.specs.Ports.{PublisherFields, SubscriberFields}
use Rattle.iox2_domain.specs.Fields.{Fields, kept_of, number_in_slot, publisher_of, subscriber_of}
use Rattle.iox2_domain.proofs.lemmas.containers.LookUps.{look_up-map, map-at}

module _ {T U : Type 0} (f : Fields T U) where
  -- The machine's state, of which these are the fields.
  abbrev pub seen : State T U
  seen = state_of (kept_of f)

  -- A publisher in it.
  abbrev pub seen_publisher : PublisherFields → Publisher
  seen_publisher x = (publisher_of f.books f.connections x).port

  -- A subscriber in it.
  abbrev pub seen_subscriber : SubscriberFields → Subscriber
  seen_subscriber y = (subscriber_of f.books f.connections y).port

  -- a publisher has as many loans there as slots that are lent
  pub as-many : (x : PublisherFields) → length (seen_publisher x).loans ≡ length x.loans
  as-many x = length-map x.loans (number_in_slot f.books x.id)

  -- where it may lend a slot more it may there
  pub few-numbers : (x : PublisherFields) → length x.loans < x.max_loaned_samples
      → length (seen_publisher x).loans < (seen_publisher x).max_loaned_samples
  few-numbers x few = let e = as-many x in omega (arith, e, few)

-- ---- ports by their ids

-- an id in a list of places is that of whoever stands there
pub occupant-ids : {A : Type 0} (ns : List (Option (Named A))) (i : ℕ)
    → occupant (ids ns) i ≡ option_map (λ (n : Named A). n.id) (get_or ns i None)
occupant-ids [] zero = refl
occupant-ids [] (suc i) = refl
occupant-ids (n ∷ ns) zero = refl
occupant-ids (n ∷ ns) (suc i) = occupant-ids ns i

module _ {A P : Type 0} (see : A → Named P) (id : ℕ) (xs : List (Option A)) where
  -- the port under an id is that of the record that is found
  named-is : port_named id (map (option_map see) xs) ≡ option_map (λ (x : A). (see x).port)
      (look_up (λ (x : A). is_named id (see x)) xs)
  named-is = ap (option_map (λ (n : Named P). n.port)) (look_up-map (is_named id) see xs)
      ∙ through (look_up (λ (x : A). is_named id (see x)) xs) where
        through : (o : Option A)
            → option_map (λ (n : Named P). n.port) (option_map see o) ≡ option_map (λ (x : A). (see x).port) o
        through None = refl
        through (Some x) = refl

  -- a record that stands somewhere is seen under its id
  pub named-stands : IsOnly (λ (x : A). is_named id (see x)) xs → (i : ℕ) (x : A) → get_or xs i None ≡ Some x
      → (see x).id ≡ id → port_named id (map (option_map see) xs) ≡ Some ((see x).port)
  named-stands only i x at is = named-is ∙ ap (option_map (λ (z : A). (see z).port))
      (look_up-found (λ (z : A). is_named id (see z)) xs i x only at (eq-eqb (see x).id id is))

  -- a port that is seen is a record that stands somewhere
  pub named-there : (y : P) → port_named id (map (option_map see) xs) ≡ Some y
      → (i : ℕ) × (x : A) × (get_or xs i None ≡ Some x) × ((see x).id ≡ id) × (y ≡ (see x).port)
  named-there y e = by (look_up (λ (x : A). is_named id (see x)) xs) refl (sym named-is ∙ e) where
    by : (o : Option A) → look_up (λ (x : A). is_named id (see x)) xs ≡ o
        → option_map (λ (x : A). (see x).port) o ≡ Some y
        → (i : ℕ) × (x : A) × (get_or xs i None ≡ Some x) × ((see x).id ≡ id) × (y ≡ (see x).port)
    by None is h = absurd cc
    by (Some x) is h =
        let there = look_up-there (λ (z : A). is_named id (see z)) xs x is in
        let same : Some ((see x).port) ≡ Some y = h in
        (there.0, x, there.1, eqb-true (see x).id id there.2, cc)

  -- none is seen where no record is found
  pub named-nowhere : look_up (λ (x : A). is_named id (see x)) xs ≡ None
      → port_named id (map (option_map see) xs) ≡ None
  named-nowhere none = named-is ∙ ap (option_map (λ (x : A). (see x).port)) none

  -- and no record has the id of a port that isn't seen
  pub named-unseen : port_named id (map (option_map see) xs) ≡ None → look_up (λ (x : A). is_named id (see x)) xs ≡ None
  named-unseen none = by (look_up (λ (x : A). is_named id (see x)) xs) (sym named-is ∙ none) where
    by : (o : Option A) → option_map (λ (x : A). (see x).port) o ≡ None → o ≡ None
    by None e = refl
    by (Some x) e = absurd cc

-- the id at a place is that of the record there
pub named-at : {A P : Type 0} (see : A → Named P) (xs : List (Option A)) (i : ℕ)
    → occupant (ids (map (option_map see) xs)) i ≡ option_map (λ (x : A). (see x).id) (get_or xs i None)
named-at {A} {P} see xs i = occupant-ids (map (option_map see) xs) i
    ∙ ap (option_map (λ (n : Named P). n.id)) (map-at see xs i) ∙ through (get_or xs i None) where
      through : (o : Option A)
          → option_map (λ (n : Named P). n.id) (option_map see o) ≡ option_map (λ (x : A). (see x).id) o
      through None = refl
      through (Some x) = refl

-- ---- ends by their keys

module _ (read : Link → ℕ) (connections : Slab Link) where
  -- whom a key leads to, by what is read of its connection
  abbrev pub led_by : Option ℕ → Option ℕ
  led_by key = option_map read (option_and_then (get connections) key)

  -- what the end at a place leads to, by the key there
  pub occupant-led : (keys : List (Option ℕ)) (i : ℕ) → occupant (map led_by keys) i ≡ led_by (get_or keys i None)
  occupant-led [] zero = refl
  occupant-led [] (suc i) = refl
  occupant-led (key ∷ keys) zero = refl
  occupant-led (key ∷ keys) (suc i) = occupant-led keys i

  -- an end leads through a connection
  pub end-leads-through : (keys : List (Option ℕ)) (i id : ℕ) → occupant (map led_by keys) i ≡ Some id
      → (key : ℕ) × (c : Link) × (get_or keys i None ≡ Some key) × (get connections key ≡ Some c) × (read c ≡ id)
  end-leads-through keys i id at = by (get_or keys i None) refl (sym (occupant-led keys i) ∙ at) where
    by : (o : Option ℕ) → get_or keys i None ≡ o → led_by o ≡ Some id
        → (key : ℕ) × (c : Link) × (get_or keys i None ≡ Some key) × (get connections key ≡ Some c) × (read c ≡ id)
    by None e h = absurd cc
    by (Some key) e h = through (get connections key) refl h where
      through : (o : Option Link) → get connections key ≡ o → option_map read o ≡ Some id
          → (k : ℕ) × (c : Link) × (get_or keys i None ≡ Some k) × (get connections k ≡ Some c) × (read c ≡ id)
      through None there g = absurd cc
      through (Some c) there g = (key, c, e, there, let is : Some (read c) ≡ Some id = g in cc)
