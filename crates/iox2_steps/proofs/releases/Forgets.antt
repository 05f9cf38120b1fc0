-- A subscriber forgets the connection at a key, or not, after it gave something back to a departed publisher.
use Rattle.std.proofs.Common.{◌≡◌, ℕ, zero, suc, get_or, slice_set, Option, None, Some, refl, ap, sym, subst, ◌∙◌}
use Rattle.std.proofs.lemmas.List.{get_or-set_same}
use Rattle.std.specs.Option.{option_map, IsSomeAnd}
use Rattle.slab.specs.Slab.{Slab, Updates, get}
use Rattle.iox2_connections.specs.Link.{Link, load}
use Rattle.iox2_connections.specs.declared.connection.Home.{Home}
use Rattle.iox2_machine.specs.machine.Releases.{subscriber_pruned, unborrowed}
use Rattle.iox2_machine.specs.machine.State.{State}
use Rattle.iox2_machine.specs.machine.WellFormed.{IsWellFormed}
use Rattle.iox2_connections.specs.LookUp.{look_up}
use Rattle.iox2_connections.proofs.MailboxChanges.{within_if_some}
use Rattle.iox2_domain.specs.Departures.{ForgetsConnection, key_forgotten}
use Rattle.iox2_domain.specs.Fields.{Fields}
use Rattle.iox2_domain.specs.Invariant.{is_publisher, HasParts}
use Rattle.iox2_domain.specs.Midway.{IsMidway}
use Rattle.iox2_domain.specs.Ports.{SubscriberFields}
use Rattle.iox2_domain.specs.Updates.{changed_at}
use Rattle.iox2_domain.proofs.lemmas.fields.Standing.{some_is}
use Rattle.iox2_steps.proofs.releases.Departed.{departed-midway, key-place, left-midway}

-- the subscriber of a connection stands at its place
abbrev pub ItsSubscriber : {T U : Type 0} → Fields T U → Home → Type 0
ItsSubscriber f home =
    (y : SubscriberFields) × (get_or f.subscribers home.subscriber_place None ≡ Some y) × (y.id ≡ home.subscriber)

-- what a step is midway comes to where the subscriber is pruned after it gave a message back
abbrev pub PrunesMidway : {T U : Type 0} → Fields T U → Home → Fields T U → Type 0
PrunesMidway {T} {U} f home new = (before : Fields T U) (s : State T U) (n book : ℕ) → IsWellFormed s
    → IsMidway before f (unborrowed s home.publisher home.subscriber n) book
    → IsMidway before new (subscriber_pruned (unborrowed s home.publisher home.subscriber n) home.subscriber) book

-- the fields without the connection at the key, which the subscriber at the place has key_forgotten
abbrev pub without_connection : {T U : Type 0} → Fields T U → (place key : ℕ) → Slab Link → Fields T U
without_connection f place key new =
    record f { subscribers = changed_at (key_forgotten key) f.subscribers place; connections = new }

module _ {T U : Type 0} (f : Fields T U) (parts : HasParts f) (key : ℕ) (home : Home)
    (there : IsSomeAnd (get f.connections key) (λ (c : Link). c.home ≡ home))
    (gone : look_up (is_publisher home.publisher) f.publishers ≡ None) (stands : ItsSubscriber f home) where
  own : (c : Link) × (get f.connections key ≡ Some c) × (c.home ≡ home)
  own = some_is (λ (c : Link). c.home ≡ home) (get f.connections key) there

  abbrev y : SubscriberFields
  y = stands.0

  mine : own.0.home.subscriber ≡ y.id
  mine = ap (λ (h : Home). h.subscriber) own.2 ∙ sym stands.2

  gone-there : look_up (is_publisher own.0.home.publisher) f.publishers ≡ None
  gone-there = ap (λ (h : Home). look_up (is_publisher h.publisher) f.publishers) own.2 ∙ gone

  -- what is shown of the connection's home is so of this one
  at-home : (new : Fields T U) → ((before : Fields T U) (s : State T U) (n book : ℕ) → IsWellFormed s
      → IsMidway before f (unborrowed s own.0.home.publisher y.id n) book
      → IsMidway before new (subscriber_pruned (unborrowed s own.0.home.publisher y.id n) y.id) book)
      → PrunesMidway f home new
  at-home new shown =
      subst (λ (h : Home). PrunesMidway f h new) own.2 (λ before s n book well.
      subst (λ (q : ℕ). IsMidway before f (unborrowed s own.0.home.publisher q n) book
      → IsMidway before new (subscriber_pruned (unborrowed s own.0.home.publisher q n) q) book) (sym mine)
      (shown before s n book well))

  -- no slot stands there
  pub forgets : ((c : Link) → get f.connections key ≡ Some c → load c ≡ 0) → (new : Slab Link)
      → Updates f.connections new key None → PrunesMidway f home (without_connection f home.subscriber_place key new)
  forgets empty new goes = at-home (without_connection f home.subscriber_place key new) (λ before s n book well midway.
      subst (λ (o : Option SubscriberFields). IsMidway before
      (record f {
        subscribers = slice_set f.subscribers home.subscriber_place (option_map (key_forgotten key) o);
        connections = new;
      })
      (subscriber_pruned (unborrowed s own.0.home.publisher y.id n) y.id) book) (sym stands.1)
      (departed-midway s well n f parts home.subscriber_place y stands.1 key own.0 own.1 mine
      (empty own.0 own.1) gone-there new goes midway.state before book midway))

  -- some slot does
  pub keeps : ((c : Link) → get f.connections key ≡ Some c → load c ≡ 0 → ⊥) → PrunesMidway f home f
  keeps full =
      at-home f (λ before s n book well midway. left-midway s well n f parts home.subscriber_place y stands.1 key own.0
      own.1 mine (full own.0 own.1) gone-there before book midway)

  -- the subscriber still stands there
  pub stands-still : (new : Slab Link) → ItsSubscriber (without_connection f home.subscriber_place key new) home
  stands-still new = (
    key_forgotten key y,
    get_or-set_same f.subscribers home.subscriber_place
        (option_map (key_forgotten key) (get_or f.subscribers home.subscriber_place None)) None
        (within_if_some f.subscribers home.subscriber_place y stands.1)
        ∙ ap (option_map (key_forgotten key)) stands.1,
    stands.2,
  )

  -- so it is forgotten if it is empty
  pub prunes : (new : Fields T U)
      → ((c : Link) → get f.connections key ≡ Some c → load c ≡ 0 → ForgetsConnection f home.subscriber_place key new)
      → ((c : Link) → get f.connections key ≡ Some c → (load c ≡ 0 → ⊥) → new ≡ f)
      → PrunesMidway f home new × ItsSubscriber new home
  prunes new empty full = by (load own.0) refl where
    is-own : (c : Link) → get f.connections key ≡ Some c → c ≡ own.0
    is-own c at = let one : Some c ≡ Some own.0 = sym at ∙ own.1 in cc

    by : (n : ℕ) → load own.0 ≡ n → PrunesMidway f home new × ItsSubscriber new home
    by zero e =
        let gone = empty own.0 own.1 e in (
          subst (PrunesMidway f home) (sym gone.fields)
              (forgets (λ c at. ap load (is-own c at) ∙ e) new.connections gone.removed),
          subst (λ (g : Fields T U). ItsSubscriber g home) (sym gone.fields) (stands-still new.connections),
        )
    by (suc n) e =
        let some : load own.0 ≡ 0 → ⊥ = λ none. (let no : suc n ≡ 0 = sym e ∙ none in absurd cc) in
        let same = full own.0 own.1 some in (
          subst (PrunesMidway f home) (sym same) (keeps (λ c at none. some (sym (ap load (is-own c at)) ∙ none))),
          subst (λ (g : Fields T U). ItsSubscriber g home) (sym same) stands,
        )

  -- its subscriber has its key at its publisher's place alone
  pub its-place : (z : SubscriberFields) → get_or f.subscribers home.subscriber_place None ≡ Some z → (i : ℕ)
      → get_or z.keys i None ≡ Some key → i ≡ home.publisher_place
  its-place z at i at_k =
      key-place f parts home.subscriber_place i key z own.0 at at_k own.1 ∙ ap (λ (h : Home). h.publisher_place) own.2
