-- A subscriber has no more connections than keys: its own, its expired ones, and those of publishers at its place.
use Rattle.std.proofs.Common.{◌≡◌, ℕ, ◌+◌, ◌<◌, ◌≤◌, ◌++◌, List, [], ◌∷◌, map, length, true, false, Bool, cond, get_or}
use Rattle.std.proofs.Common.{refl, ap, sym, subst, ◌∙◌, ◌⊎◌, inl, inr, arith}
use Rattle.std.proofs.lemmas.Bool.{cases_eq, ne_eqb}
use Rattle.std.proofs.lemmas.List.{get_or_append_left, get_or-append-add, get_or-map, length-map, length-append}
use Rattle.std.specs.Prelude.{Contains, ◌==◌}
use Rattle.std.specs.declared.option.Option.{Option}
use Rattle.std.specs.declared.option.Option.TheVariants.{None, Some}
use Rattle.std.specs.Option.{option_and_then, option_map, is_some}
use Rattle.std.specs.List.{sum_by}
use Rattle.std.proofs.lemmas.List.Sums.{sum_by-cons}
use Rattle.slab.specs.Slab.{Slab, get, slab_len}
use Rattle.iox2_connections.specs.Link.{Link}
use Rattle.iox2_connections.proofs.Empties.{sum-keys}
use Rattle.iox2_connections.proofs.ListedNumbers.{contains-from}
use Rattle.iox2_connections.proofs.MailboxChanges.{within_if_some}
use Rattle.iox2_domain.specs.Ports.{PublisherFields, SubscriberFields}
use Rattle.iox2_domain.specs.Fields.{Fields}
use Rattle.iox2_domain.specs.Invariant.{HasParts, SenderHas, ReceiverHas, connection_count, details_of}
use Rattle.iox2_domain.specs.Invariant.{one_if_receivers}
use Rattle.iox2_domain.proofs.lemmas.containers.LookUps.{map-at}
use Rattle.iox2_steps.proofs.receivers.DepartedEnds.{among}

-- what stands in one of two lists stands in both together
stands-first : (xs ys : List (Option ℕ)) (i key : ℕ) → get_or xs i None ≡ Some key
    → (k : ℕ) × (get_or (xs ++ ys) k None ≡ Some key)
stands-first xs ys i key at = (i, get_or_append_left xs ys None i (within_if_some xs i key at) ∙ at)

stands-second : (xs ys : List (Option ℕ)) (i key : ℕ) → get_or ys i None ≡ Some key
    → (k : ℕ) × (get_or (xs ++ ys) k None ≡ Some key)
stands-second xs ys i key at = (length xs + i, get_or-append-add xs ys i None ∙ at)

-- a sum is no more than another where each part of it is no more
sum-under : {A : Type 0} (p q : A → ℕ) → ((x : A) → p x ≤ q x) → (xs : List A) → sum_by p xs ≤ sum_by q xs
sum-under p q under [] = omega arith
sum-under p q under (x ∷ xs) = omega (arith, sum_by-cons p x xs, sum_by-cons q x xs, under x, sum-under p q under xs)

one-at-most : (b : Bool) → cond {A = ℕ} b 1 0 ≤ 1
one-at-most true = omega arith
one-at-most false = omega arith

-- a connection counts once
counts-once : (q : ℕ) (o : Option Link) → one_if_receivers q o ≤ cond {A = ℕ} (is_some o) 1 0
counts-once q None = omega arith
counts-once q (Some c) = one-at-most (c.home.subscriber == q)

-- a subscriber has no more connections than there are
pub few-of-all : (connections : Slab Link) (q : ℕ) → connection_count connections q ≤ slab_len connections
few-of-all connections q = sum-under (one_if_receivers q) (λ o. cond (is_some o) 1 0) (counts-once q) connections.slots

module _ {T U : Type 0} (f : Fields T U) (parts : HasParts f) (j : ℕ) (y : SubscriberFields)
    (here : get_or f.subscribers j None ≡ Some y) where
  -- the key that a publisher has at the subscriber's place
  abbrev key_of : Option PublisherFields → Option ℕ
  key_of o = option_and_then (λ (x : PublisherFields). get_or x.keys j None) o

  abbrev keys : List (Option ℕ)
  keys = y.keys ++ (map Some y.expired ++ map key_of f.publishers)

  -- a connection of the subscriber knows its place
  place-is : (key : ℕ) (c : Link) → get f.connections key ≡ Some c → c.home.subscriber ≡ y.id
      → j ≡ c.home.subscriber_place
  place-is key c at its =
      (parts.linked.knows.at key j c (details_of y) at
      (map-at details_of f.subscribers j ∙ ap (option_map details_of) here) (sym its)).0

  sent : (key : ℕ) (c : Link) → get f.connections key ≡ Some c → c.home.subscriber ≡ y.id → SenderHas f.publishers key c
      → (k : ℕ) × (get_or keys k None ≡ Some key)
  sent key c at its has =
      let i : ℕ = c.home.publisher_place in
      let there : get_or (map key_of f.publishers) i None ≡ Some key =
      get_or-map key_of f.publishers i None None (within_if_some f.publishers i has.publisher has.stands)
      ∙ ap key_of has.stands
      ∙ ap (λ (n : ℕ). get_or has.publisher.keys n None) (place-is key c at its) ∙ has.has in
      let later = stands-second (map Some y.expired) (map key_of f.publishers) i key there in
      stands-second y.keys (map Some y.expired ++ map key_of f.publishers) later.0 key later.1

  received : (key : ℕ) (c : Link) → get f.connections key ≡ Some c → c.home.subscriber ≡ y.id
      → ReceiverHas f.subscribers key c → (k : ℕ) × (get_or keys k None ≡ Some key)
  received key c at its has = by has.has where
    is : has.subscriber ≡ y
    is = let same : Some has.subscriber ≡ Some y = sym has.stands
        ∙ ap (λ (n : ℕ). get_or f.subscribers n None) (sym (place-is key c at its)) ∙ here in cc

    by : (get_or has.subscriber.keys c.home.publisher_place None ≡ Some key) ⊎ Contains has.subscriber.expired key
        → (k : ℕ) × (get_or keys k None ≡ Some key)
    by (inl known) =
        stands-first y.keys (map Some y.expired ++ map key_of f.publishers) c.home.publisher_place key
        (ap (λ (z : SubscriberFields). get_or z.keys c.home.publisher_place None) (sym is) ∙ known)
    by (inr expired) =
        let there = among y.expired key
        (contains-from y.expired key (subst (λ (z : SubscriberFields). Contains z.expired key) is expired)) in
        let later = stands-first (map Some y.expired) (map key_of f.publishers) there.0 key there.1 in
        stands-second y.keys (map Some y.expired ++ map key_of f.publishers) later.0 key later.1

  few : (key : ℕ) → one_if_receivers y.id (get f.connections key) ≤ 1
  few key = omega (arith, counts-once y.id (get f.connections key), one-at-most (is_some (get f.connections key)))

  known : (key : ℕ) → 0 < one_if_receivers y.id (get f.connections key) → (k : ℕ) × (get_or keys k None ≡ Some key)
  known key some = by (get f.connections key) refl some where
    by : (o : Option Link) → get f.connections key ≡ o → 0 < one_if_receivers y.id o
        → (k : ℕ) × (get_or keys k None ≡ Some key)
    by None at one = absurd (omega arith)
    by (Some c) at one = elim (cases_eq c.home.subscriber y.id) [
      | inl its ↦ elim (parts.linked.ends key c at) [
        | inl has ↦ sent key c at its has
        | inr has ↦ received key c at its has
      ]
      | inr other ↦ absurd (let none : one_if_receivers y.id (Some c) ≡ 0 = rw
          (ne_eqb c.home.subscriber y.id other) refl in omega (arith, one, none))
    ]

  pub few-connections : connection_count f.connections y.id ≤ length y.keys + length y.expired + length f.publishers
  few-connections =
      let expired-many : length (map Some y.expired) ≡ length y.expired = length-map y.expired Some in
      let publishers-many : length (map key_of f.publishers) ≡ length f.publishers = length-map f.publishers key_of in
      omega (
        arith,
        sum-keys (one_if_receivers y.id) refl keys f.connections.slots few known,
        length-append y.keys (map Some y.expired ++ map key_of f.publishers),
        length-append (map Some y.expired) (map key_of f.publishers),
        expired-many,
        publishers-many,
      )
