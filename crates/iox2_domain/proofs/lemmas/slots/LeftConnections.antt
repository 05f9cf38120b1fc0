-- In each connection of a publisher that is gone, something waits or is borrowed.
use Rattle.std.proofs.Common.{◌≡◌, ◌≢◌, ℕ, List, [], ◌∷◌, map, true, false, get_or, refl, ap, sym, subst, ◌∙◌, inl, inr}
use Rattle.std.proofs.Common.{◌⊎◌}
use Rattle.std.proofs.lemmas.Bool.{eq-eqb, ne_eqb}
use Rattle.std.specs.Prelude.{MatchOption}
use Rattle.std.specs.declared.option.Option.{Option}
use Rattle.std.specs.declared.option.Option.TheVariants.{None, Some}
use Rattle.std.specs.Option.{option_map}
use Rattle.slab.specs.Slab.{get}
use Rattle.iox2_connections.specs.Link.{Link}
use Rattle.iox2_machine.specs.machine.Mailbox.{Mailbox, has_numbers, numbers_in, ChannelNumber}
use Rattle.iox2_machine.specs.machine.Numbers.{contains}
use Rattle.iox2_machine.specs.machine.Places.{occupant}
use Rattle.iox2_machine.specs.machine.Records.{Publisher, Subscriber}
use Rattle.iox2_machine.specs.machine.WellFormed.{IsWellFormed, SubscriberIsWellFormed}
use Rattle.iox2_connections.specs.LookUp.{look_up}
use Rattle.iox2_connections.specs.Mailboxes.{receiver_ends, publisher_of_key}
use Rattle.iox2_connections.proofs.LookUps.{look_up-found, look_up-none, look_up-nothing}
use Rattle.iox2_laws.proofs.NumberLemmas.{contains_first}
use Rattle.iox2_laws.proofs.PlaceLemmas.{contains-occupants}
use Rattle.iox2_domain.specs.Ports.{PublisherFields, SubscriberFields}
use Rattle.iox2_domain.specs.Kept.{Named, state_of, is_named}
use Rattle.iox2_domain.specs.Fields.{Fields, kept_of, publisher_of, subscriber_of}
use Rattle.iox2_domain.specs.Invariant.{SenderHas, ReceiverHas, is_publisher, is_subscriber, HasParts}
use Rattle.iox2_domain.proofs.lemmas.containers.LookUps.{look_up-map}
use Rattle.iox2_domain.proofs.lemmas.fields.OwnKeys.{listed-at}
use Rattle.iox2_domain.proofs.lemmas.fields.Standing.{occupant-receiver_ends}

-- a mailbox of these parts
abbrev made : List ChannelNumber → (waiting borrowed : List ℕ) → Mailbox
made others waiting borrowed = record { waiting = waiting; borrowed = borrowed; others = others }

-- what has numbers has some number
pub some-number : (box : Mailbox) → has_numbers box ≡ true → (n : ℕ) × (contains (numbers_in box) n ≡ true)
some-number box some = by box.others box.waiting box.borrowed some where
  by : (others : List ChannelNumber) (waiting borrowed : List ℕ) → has_numbers (made others waiting borrowed) ≡ true
      → (n : ℕ) × (contains (numbers_in (made others waiting borrowed)) n ≡ true)
  by [] [] [] e = absurd cc
  by [] [] (n ∷ ns) e = (n, contains_first n ns)
  by [] (n ∷ ns) borrowed e = (n, contains_first n _)
  by (m ∷ ms) waiting borrowed e = (m.number, contains_first m.number _)

-- a publisher that isn't found stands nowhere
pub stands-nowhere : (publishers : List (Option PublisherFields)) (p : ℕ) → look_up (is_publisher p) publishers ≡ None
    → (i : ℕ) (x : PublisherFields) → get_or publishers i None ≡ Some x → x.id ≢ p
stands-nowhere publishers p none i x at same =
    let no : is_publisher p x ≡ false = look_up-none (is_publisher p) publishers none i x at in
    let yes : is_publisher p x ≡ true = eq-eqb x.id p same in
    let clash : false ≡ true = sym no ∙ yes in cc

module _ {T U : Type 0} (f : Fields T U) (p : ℕ)
    (gone : (i : ℕ) (x : PublisherFields) → get_or f.publishers i None ≡ Some x → x.id ≢ p) where
  -- the machine doesn't know it either
  pub unknown : (state_of (kept_of f)).publishers p ≡ None
  unknown = ap (option_map (λ (z : Named Publisher). z.port))
      (look_up-map (is_named p) (publisher_of f.books f.connections) f.publishers
      ∙ ap (option_map (publisher_of f.books f.connections)) nobody)
    where
      nobody : look_up (is_publisher p) f.publishers ≡ None
      nobody = look_up-nothing (is_publisher p) f.publishers (λ i x at. ne_eqb x.id p (gone i x at))

  -- its connections are its subscribers', which keep them for what is in them
  pub left-numbers : HasParts f → IsWellFormed (state_of (kept_of f)) → (key : ℕ) (c : Link)
      → get f.connections key ≡ Some c → c.home.publisher ≡ p
      → has_numbers ((state_of (kept_of f)).mailboxes p c.home.subscriber) ≡ true
  left-numbers parts well key c at mine = by (parts.linked.ends key c at) where
    leads : (keys : List (Option ℕ)) (i : ℕ) → get_or keys i None ≡ Some key
        → occupant (receiver_ends f.connections keys) i ≡ Some p
    leads keys i has =
        occupant-receiver_ends f.connections keys i
        ∙ ap (publisher_of_key f.connections) has
        ∙ ap (option_map (λ (d : Link). d.home.publisher)) at
        ∙ ap Some mine

    subscriber-shown : (i : ℕ) (y : SubscriberFields) → get_or f.subscribers i None ≡ Some y
        → (state_of (kept_of f)).subscribers y.id ≡ Some ((subscriber_of f.books f.connections y).port)
    subscriber-shown i y stands =
        ap (option_map (λ (z : Named Subscriber). z.port))
        (look_up-map (is_named y.id) (subscriber_of f.books f.connections) f.subscribers
        ∙ ap (option_map (subscriber_of f.books f.connections))
        (look_up-found (is_subscriber y.id) f.subscribers i y (parts.subscriber_ids y.id) stands
        (eq-eqb y.id y.id refl)))

    departed : (o : Option Publisher) → (P : Type 0) → (Q : Publisher → Type 0) → o ≡ None → MatchOption o P Q → P
    departed None P Q e h = h
    departed (Some x) P Q e h = absurd (let no : Some x ≡ None = e in cc)

    numbers : (has : ReceiverHas f.subscribers key c)
        → has_numbers ((state_of (kept_of f)).mailboxes p has.subscriber.id) ≡ true
    numbers has = elim has.has [
      | inl there ↦
          departed _ _ _ unknown (its.ends_stand c.home.publisher_place p (leads y.keys c.home.publisher_place there))
      | inr expired ↦
          let place = listed-at y.expired key expired in
          its.expired_kept p (contains-occupants _ p (place.0, leads (map Some y.expired) place.0 place.1))
    ] where
      y : SubscriberFields
      y = has.subscriber

      its : SubscriberIsWellFormed (state_of (kept_of f)) y.id ((subscriber_of f.books f.connections y).port)
      its = well.subscribers y.id _ (subscriber-shown c.home.subscriber_place y has.stands)

    by : SenderHas f.publishers key c ⊎ ReceiverHas f.subscribers key c
        → has_numbers ((state_of (kept_of f)).mailboxes p c.home.subscriber) ≡ true
    by (inl has) = absurd (gone c.home.publisher_place has.publisher has.stands (has.is_its ∙ mine))
    by (inr has) = subst (λ (q : ℕ). has_numbers ((state_of (kept_of f)).mailboxes p q) ≡ true) has.is_its (numbers has)
