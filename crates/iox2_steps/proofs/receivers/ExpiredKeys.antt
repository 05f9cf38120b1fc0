-- There is room for one expired key more, where one of a subscriber's connections isn't expired.
use Rattle.std.proofs.Common.{◌≡◌, ◌<◌, ◌≤◌, ℕ, zero, suc, List, [], ◌∷◌, length, map, true, false, get_or, slice_set}
use Rattle.std.proofs.Common.{refl, ap, sym, ◌∙◌, inl, inr, ◌⊎◌, arith}
use Rattle.std.proofs.lemmas.Bool.{eq-eqb}
use Rattle.std.proofs.lemmas.List.{get_or-set_other}
use Rattle.std.specs.List.{sum_by}
use Rattle.std.specs.declared.option.Option.{Option}
use Rattle.std.specs.declared.option.Option.TheVariants.{None, Some}
use Rattle.std.specs.Option.{option_map}
use Rattle.slab.specs.Slab.{Slab, get}
use Rattle.iox2_connections.specs.Link.{Link}
use Rattle.iox2_machine.specs.machine.Numbers.{contains, IsOnce}
use Rattle.iox2_machine.specs.machine.Places.{occupants}
use Rattle.iox2_laws.proofs.NumberLemmas.{contains_first, contains_later, contains_in_cons, false_from}
use Rattle.iox2_connections.specs.Finds.{IsReceivers}
use Rattle.iox2_connections.specs.Mailboxes.{receiver_ends, publisher_of_key}
use Rattle.iox2_domain.specs.Ports.{SubscriberFields}
use Rattle.iox2_domain.specs.Fields.{Fields}
use Rattle.iox2_domain.specs.Invariant.{IsDomain, one_if_receivers, connection_count}
use Rattle.iox2_domain.specs.ReceiverSteps.{HasDepartedEnd}
use Rattle.iox2_domain.proofs.lemmas.fields.Standing.{leads-among, receiver-link, some_is}
use Rattle.iox2_domain.proofs.lemmas.containers.MadeConnections.{sum-updated}
use Rattle.iox2_steps.proofs.receivers.DepartedEnds.{among}
use Rattle.iox2_steps.proofs.receivers.LeftChanges.{present}
use Rattle.iox2_steps.proofs.receivers.Retirements.{unexpired}

-- where nothing is set nothing stands
set-nothing : {A : Type 0} (xs : List (Option A)) (k : ℕ) → get_or (slice_set xs k None) k None ≡ None
set-nothing [] zero = refl
set-nothing [] (suc k) = refl
set-nothing (x ∷ xs) zero = refl
set-nothing (x ∷ xs) (suc k) = set-nothing xs k

-- a subscriber has at least as many connections as different keys of them
count-keys : (slots : List (Option Link)) (q : ℕ) (keys : List ℕ) → IsOnce keys
    → ((k : ℕ) → contains keys k ≡ true → one_if_receivers q (get_or slots k None) ≡ 1)
    → length keys ≤ sum_by (one_if_receivers q) slots
count-keys slots q [] once each = omega arith
count-keys slots q (k ∷ keys) once each =
    let fewer = sum-updated (one_if_receivers q) refl slots (slice_set slots k None) k
    (λ i away. get_or-set_other slots k i None None away) in
    let rest = count-keys (slice_set slots k None) q keys once.1 (λ i has.
    ap (one_if_receivers q) (get_or-set_other slots k i None None
    (λ same. let no : true ≡ false = sym has ∙ ap (contains keys) same ∙ once.0 in absurd cc))
    ∙ each i (contains_later k i keys has)) in
    omega (arith, fewer, rest, each k (contains_first k keys), ap (one_if_receivers q) (set-nothing slots k))

-- keys that lead to different publishers are different
once-keys : (connections : Slab Link) (keys : List ℕ)
    → ((k : ℕ) → contains keys k ≡ true → (c : Link) × (get connections k ≡ Some c))
    → IsOnce (occupants (receiver_ends connections (map Some keys))) → IsOnce keys
once-keys connections [] each once = tt
once-keys connections (k ∷ keys) each once =
    let c = each k (contains_first k keys) in
    let leads : publisher_of_key connections (Some k) ≡ Some c.0.home.publisher =
    ap (option_map (λ (d : Link). d.home.publisher)) c.1 in
    let both : IsOnce (c.0.home.publisher ∷ occupants (receiver_ends connections (map Some keys))) = rw leads at once in (
      false_from (contains keys k)
          (λ has. let no : true ≡ false = sym (leads-among connections keys k c.0 has c.1) ∙ both.0 in absurd cc),
      once-keys connections keys (λ i has. each i (contains_later k i keys has)) both.1,
    )

module _ {T U : Type 0} (f : Fields T U) (sound : IsDomain f) (j i : ℕ) (y : SubscriberFields) (key : ℕ) (c : Link)
    (end : HasDepartedEnd f j i y key c) where
  abbrev most : ℕ
  most = (f.config).subscriber_max_borrowed_samples

  -- an expired key has a connection of the subscriber
  pub expired-link : (k : ℕ) → contains y.expired k ≡ true
      → (d : Link) × (get f.connections k ≡ Some d) × IsReceivers y.id most d
  expired-link k has =
      let there = among y.expired k has in
      some_is (IsReceivers y.id most) (get f.connections k)
      ((sound.parts.linked.expired j y end.stands).at there.0 k there.1)

  once : IsOnce (key ∷ y.expired)
  once = (
    unexpired f sound j i y key c end,
    once-keys f.connections y.expired (λ k has. let d = expired-link k has in (d.0, d.1))
        (sound.well_formed.subscribers y.id _ (present f sound j y end.stands)).expired_once,
  )

  one-each : (k : ℕ) → contains (key ∷ y.expired) k ≡ true → one_if_receivers y.id (get f.connections k) ≡ 1
  one-each k has = by (contains_in_cons key k y.expired has) where
    one : (n : ℕ) (d : Link) → get f.connections n ≡ Some d → d.home.subscriber ≡ y.id
        → one_if_receivers y.id (get f.connections n) ≡ 1
    one n d at its = ap (one_if_receivers y.id) at ∙ (let same = eq-eqb d.home.subscriber y.id its in rw same refl)

    by : (key ≡ k) ⊎ (contains y.expired k ≡ true) → one_if_receivers y.id (get f.connections k) ≡ 1
    by (inl here) =
        let own = receiver-link f sound.parts j i key y end.stands end.has in
        ap (λ (n : ℕ). one_if_receivers y.id (get f.connections n)) (sym here) ∙ one key own.0 own.1 own.2.subscriber
    by (inr later) = let d = expired-link k later in one k d.0 d.1 d.2.subscriber

  -- so there is room
  pub room-to-expire : length y.expired < y.expired_room
  room-to-expire =
      let enough : connection_count f.connections y.id ≤ y.expired_room = sound.parts.expired_room.at j y end.stands in
      let many = count-keys f.connections.slots y.id (key ∷ y.expired) once one-each in
      omega (arith, enough, many)
