-- Room for expired keys, where connections stay, change or are made.
use Rattle.std.proofs.Common.{◌≡◌, ◌≢◌, ◌<◌, ℕ, Bool, zero, suc, List, [], ◌∷◌, get_or, refl, ap, sym, ◌∙◌, inl, inr}
use Rattle.std.proofs.Common.{Option, None, Some, arith}
use Rattle.std.proofs.lemmas.Bool.{cases_eq, eq-eqb, ne_eqb}
use Rattle.std.proofs.lemmas.List.Sums.{sum_by-cons}
use Rattle.std.specs.List.{sum_by}
use Rattle.std.specs.Option.{option_map}
use Rattle.slab.specs.Slab.{Slab, Updates, get}
use Rattle.iox2_connections.specs.Link.{Link}
use Rattle.iox2_machine.specs.machine.Channel.{Channel}
use Rattle.iox2_connections.specs.declared.connection.Home.{Home}
use Rattle.iox2_connections.specs.Homes.{SameHomes, fixed_of}
use Rattle.iox2_domain.specs.Ports.{SubscriberFields}
use Rattle.iox2_domain.specs.Fields.{Fields}
use Rattle.iox2_domain.specs.Invariant.{IsDomain, HasExpiredRoom, connection_count, one_if_receivers}
use Rattle.iox2_domain.proofs.lemmas.fields.Standing.{one-subscriber}
use Rattle.iox2_domain.proofs.lemmas.containers.MadeConnections.{sum-updated}

-- two lists have the same sum where at each index stands what counts the same
sum-alike : {A : Type 0} (f : Option A → ℕ) → f None ≡ 0 → (xs ys : List (Option A))
    → ((k : ℕ) → f (get_or ys k None) ≡ f (get_or xs k None)) → sum_by f ys ≡ sum_by f xs
sum-alike f nothing [] [] same = refl
sum-alike f nothing [] (y ∷ ys) same =
    omega (arith, sum_by-cons f y ys, sum-alike f nothing [] ys (λ k. same (suc k)), same zero, nothing)
sum-alike f nothing (x ∷ xs) [] same =
    omega (arith, sum_by-cons f x xs, sum-alike f nothing xs [] (λ k. same (suc k)), same zero, nothing)
sum-alike f nothing (x ∷ xs) (y ∷ ys) same =
    omega (arith, sum_by-cons f x xs, sum_by-cons f y ys, sum-alike f nothing xs ys (λ k. same (suc k)), same zero)

-- connections that stay between their ports are as many for each subscriber
pub count-still : (old new : Slab Link) → SameHomes old new → (q : ℕ) → connection_count new q ≡ connection_count old q
count-still old new same q = sum-alike (one_if_receivers q) refl old.slots new.slots
    (λ key. by (get old key) (get new key) (same.same key)) where
      by : (o n : Option Link) → option_map fixed_of n ≡ option_map fixed_of o
          → one_if_receivers q n ≡ one_if_receivers q o
      by None None e = refl
      by None (Some d) e = absurd cc
      by (Some c) None e = absurd cc
      by (Some c) (Some d) e =
          let is : fixed_of d ≡ fixed_of c = cc in
          ap (λ (t : Home × ℕ × ℕ × Bool × List Channel). one_if_receivers q (Some (record c { home = t.0 }))) is

-- so the room suffices
pub room-still : (subscribers : List (Option SubscriberFields)) (old new : Slab Link) → SameHomes old new
    → HasExpiredRoom subscribers old → HasExpiredRoom subscribers new
room-still subscribers old new same room = record {
  at = λ i y here. let before = room.at i y here in omega (arith, before, count-still old new same y.id);
}

-- a subscriber of no connection has none
pub count-none : (connections : Slab Link) (q : ℕ)
    → ((key : ℕ) (c : Link) → get connections key ≡ Some c → c.home.subscriber ≢ q) → connection_count connections q ≡ 0
count-none connections q others =
    sum-alike (one_if_receivers q) refl [] connections.slots (λ key. by (get connections key) (others key)) where
      by : (o : Option Link) → ((c : Link) → o ≡ Some c → c.home.subscriber ≢ q) → one_if_receivers q o ≡ 0
      by None other = refl
      by (Some c) other = rw (ne_eqb c.home.subscriber q (other c refl)) refl

-- a connection that is made finds room where its subscriber had room for one key more
pub room-made : (subscribers : List (Option SubscriberFields)) (old new : Slab Link) (key : ℕ) (c : Link)
    → get old key ≡ None → Updates old new key (Some c)
    → ((i : ℕ) (y : SubscriberFields) → get_or subscribers i None ≡ Some y → y.id ≡ c.home.subscriber
    → connection_count old y.id < y.expired_room)
    → HasExpiredRoom subscribers old → HasExpiredRoom subscribers new
room-made subscribers old new key c was_free made more room = record {
  at = λ i y here.
      let sums = sum-updated (one_if_receivers y.id) refl old.slots new.slots key made.others in
      let then : one_if_receivers y.id (get old key) ≡ 0 = ap (one_if_receivers y.id) was_free in
      let now : one_if_receivers y.id (get new key) ≡ one_if_receivers y.id (Some c) =
      ap (one_if_receivers y.id) made.changed in
      elim (cases_eq y.id c.home.subscriber) [
        | inl its ↦
            let one : one_if_receivers y.id (Some c) ≡ 1 = rw (eq-eqb c.home.subscriber y.id (sym its)) refl in
            omega (arith, sums, then, now, one, more i y here its)
        | inr other ↦
            let none : one_if_receivers y.id (Some c) ≡ 0 =
            rw (ne_eqb c.home.subscriber y.id (λ e. other (sym e))) refl in
            omega (arith, sums, then, now, none, room.at i y here)
      ];
}

module _ {T U : Type 0} (f : Fields T U) (sound : IsDomain f) where
  -- no other subscriber has the id
  pub room-here : (j : ℕ) (y : SubscriberFields) → get_or f.subscribers j None ≡ Some y
      → connection_count f.connections y.id < y.expired_room
      → (k : ℕ) (z : SubscriberFields) → get_or f.subscribers k None ≡ Some z → z.id ≡ y.id
      → connection_count f.connections z.id < z.expired_room
  room-here j y at_y more k z at_z same =
      let place : k ≡ j = one-subscriber f sound.parts k j z y at_z at_y same in
      let one : Some z ≡ Some y = sym at_z ∙ ap (λ (n : ℕ). get_or f.subscribers n None) place ∙ at_y in
      let is : z ≡ y = cc in
      rw is more
