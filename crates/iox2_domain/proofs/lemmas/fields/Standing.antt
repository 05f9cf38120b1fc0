-- Where ports stand, and to whom their connections lead, whichever ports were closed.
use Rattle.std.proofs.Common.{◌≡◌, ◌≢◌, ℕ, ◌<◌, List, [], ◌∷◌, map, length, true, false, Bool, cond, get_or, refl, ap}
use Rattle.std.proofs.Common.{sym, subst, ◌∙◌, ◌⊎◌, inl, inr, arith}
use Rattle.std.proofs.lemmas.Bool.{eq-eqb, eqb-true}
use Rattle.std.proofs.lemmas.List.{length-map}
use Rattle.std.proofs.lemmas.Option.{same_Some}
use Rattle.std.specs.Prelude.{Contains}
use Rattle.std.specs.declared.option.Option.{Option}
use Rattle.std.specs.declared.option.Option.TheVariants.{None, Some}
use Rattle.std.specs.Option.{option_map, IsSomeAnd}
use Rattle.slab.specs.Slab.{Slab, get}
use Rattle.iox2_connections.specs.Link.{Link}
use Rattle.iox2_machine.specs.machine.Numbers.{contains}
use Rattle.iox2_machine.specs.machine.Places.{occupant, occupants, is_port}
use Rattle.iox2_machine.specs.machine.Records.{Publisher, Subscriber}
use Rattle.iox2_machine.specs.machine.WellFormed.{IsWellFormed, publisher_place, subscriber_place}
use Rattle.iox2_connections.proofs.ListedNumbers.{contains-from}
use Rattle.iox2_laws.proofs.NumberLemmas.{contains_in_cons, contains_first, contains_later}
use Rattle.iox2_connections.specs.LookUp.{look_up}
use Rattle.iox2_connections.specs.Homes.{IsSenders}
use Rattle.iox2_connections.specs.Finds.{IsReceivers}
use Rattle.iox2_connections.specs.Mailboxes.{is_between, publisher_of_key, receiver_ends}
use Rattle.iox2_connections.proofs.LookUps.{look_up-nothing}
use Rattle.iox2_connections.proofs.MailboxChanges.{both-true}
use Rattle.iox2_domain.specs.Ports.{PublisherFields, SubscriberFields}
use Rattle.iox2_domain.specs.Kept.{Named, state_of}
use Rattle.iox2_domain.specs.Fields.{Fields, kept_of, publisher_of, subscriber_of}
use Rattle.iox2_domain.specs.Invariant.{HasParts, IsLinked, SenderHas, ReceiverHas, details_of}
use Rattle.iox2_domain.specs.Updates.{key_from}
use Rattle.iox2_domain.proofs.lemmas.containers.LookUps.{map-at}
use Rattle.iox2_domain.proofs.lemmas.fields.ConnectionEnds.{publisher-stands, subscriber-stands}
use Rattle.iox2_domain.proofs.lemmas.fields.NamedPorts.{named-at, occupant-led}
pub use Rattle.iox2_domain.proofs.lemmas.fields.NamedPorts.{occupant-ids}

-- where a connection leads for a subscriber
pub occupant-receiver_ends : (connections : _) (keys : List (Option ℕ)) (i : ℕ)
    → occupant (receiver_ends connections keys) i ≡ publisher_of_key connections (get_or keys i None)
occupant-receiver_ends = occupant-led (λ (c : Link). c.home.publisher)

-- a key that leads to a connection of the publisher
pub key-from : (connections : Slab Link) (p key : ℕ) (c : Link) → get connections key ≡ Some c → c.home.publisher ≡ p
    → key_from connections p (Some key) ≡ Some key
key-from connections p key c at its =
    ap (λ o. cond (is_port (option_map (λ (d : Link). d.home.publisher) o) p) (Some key) None) at
    ∙ ap (λ b. cond b (Some key) None) (eq-eqb c.home.publisher p its)

-- what holds of some value holds of the one that is there
pub some_is : {A : Type 0} (P : A → Type 0) (o : Option A) → IsSomeAnd o P → (x : A) × (o ≡ Some x) × P x
some_is P None h = absurd h
some_is P (Some x) h = (x, refl, h)

-- a publisher that has a key has its connection
pub key-sender : {T U : Type 0} (f : Fields T U) → IsLinked f → (i place key : ℕ) (x : PublisherFields) (c : Link)
    → get_or f.publishers i None ≡ Some x → get_or x.keys place None ≡ Some key
    → get f.connections key ≡ Some c → SenderHas f.publishers key c
key-sender f linked i place key x c at_x at_k at_c =
    let own : IsSenders x.id place c = rw at_c at ((linked.senders i x at_x).at place key at_k) in
    record {
      publisher = x;
      stands = ap (λ (n : ℕ). get_or f.publishers n None)
          (sym (linked.knows_publishers key i c x at_c at_x (sym own.publisher))) ∙ at_x;
      is_its = sym own.publisher;
      has = ap (λ (n : ℕ). get_or x.keys n None) own.place ∙ at_k;
    }

-- the machine has as many places
pub place-within : {T U : Type 0} (f : Fields T U) (j : ℕ) → j < length f.subscribers
    → j < length (state_of (kept_of f)).subscriber_places
place-within f j low =
    omega (
      arith,
      low,
      length-map (map (option_map (subscriber_of f.books f.connections)) f.subscribers)
          (option_map (λ (n : Named Subscriber). n.id)),
      length-map f.subscribers (option_map (subscriber_of f.books f.connections)),
    )

-- whom the keys lead to, among those that expired
pub leads-among : (connections : Slab Link) (keys : List ℕ) (key : ℕ) (c : Link) → contains keys key ≡ true
    → get connections key ≡ Some c
    → contains (occupants (receiver_ends connections (map Some keys))) c.home.publisher ≡ true
leads-among connections [] key c has at = absurd cc
leads-among connections (k ∷ keys) key c has at = elim (contains_in_cons k key keys has) [
  | inl here ↦
      let leads : publisher_of_key connections (Some k) ≡ Some c.home.publisher =
      ap (option_map (λ (d : Link). d.home.publisher)) (ap (get connections) here ∙ at) in
      ap (λ o. contains (occupants (o ∷ receiver_ends connections (map Some keys))) c.home.publisher) leads
      ∙ contains_first c.home.publisher (occupants (receiver_ends connections (map Some keys)))
  | inr later ↦ by (publisher_of_key connections (Some k)) (leads-among connections keys key c later at)
] where
  by : (o : Option ℕ) → contains (occupants (receiver_ends connections (map Some keys))) c.home.publisher ≡ true
      → contains (occupants (o ∷ receiver_ends connections (map Some keys))) c.home.publisher ≡ true
  by None h = h
  by (Some p) h = contains_later p c.home.publisher (occupants (receiver_ends connections (map Some keys))) h

module _ {T U : Type 0} (f : Fields T U) (parts : HasParts f) where
  -- a place is listed with the id of who stands there
  pub publisher-at : (i : ℕ) → occupant (state_of (kept_of f)).publisher_places i ≡ option_map
      (λ (x : PublisherFields). x.id) (get_or f.publishers i None)
  publisher-at = named-at (publisher_of f.books f.connections) f.publishers

  pub publisher-listed : (i : ℕ) (x : PublisherFields) → get_or f.publishers i None ≡ Some x
      → occupant (state_of (kept_of f)).publisher_places i ≡ Some x.id
  publisher-listed i x at = publisher-at i ∙ ap (option_map (λ (z : PublisherFields). z.id)) at

  pub subscriber-listed : (j : ℕ) (y : SubscriberFields) → get_or f.subscribers j None ≡ Some y
      → occupant (state_of (kept_of f)).subscriber_places j ≡ Some y.id
  subscriber-listed j y at = named-at (subscriber_of f.books f.connections) f.subscribers j
      ∙ ap (option_map (λ (z : SubscriberFields). z.id)) at

  -- of one id there is one port
  pub one-publisher : (j k : ℕ) (y z : PublisherFields) → get_or f.publishers j None ≡ Some y
      → get_or f.publishers k None ≡ Some z → y.id ≡ z.id → j ≡ k
  one-publisher j k y z at_y at_z same =
      (parts.publisher_ids z.id).one j k y z at_y at_z (eq-eqb y.id z.id same) (eq-eqb z.id z.id refl)

  pub one-subscriber : (j k : ℕ) (y z : SubscriberFields) → get_or f.subscribers j None ≡ Some y
      → get_or f.subscribers k None ≡ Some z → y.id ≡ z.id → j ≡ k
  one-subscriber j k y z at_y at_z same =
      (parts.subscriber_ids z.id).one j k y z at_y at_z (eq-eqb y.id z.id same) (eq-eqb z.id z.id refl)

  -- what a key at a subscriber's place leads to
  pub receiver-link : (j i key : ℕ) (y : SubscriberFields) → get_or f.subscribers j None ≡ Some y
      → get_or y.keys i None ≡ Some key
      → (c : Link) × (get f.connections key ≡ Some c) × IsReceivers y.id (f.config).subscriber_max_borrowed_samples c
  receiver-link j i key y at_y at = some_is (IsReceivers y.id (f.config).subscriber_max_borrowed_samples)
      (get f.connections key) ((parts.linked.receivers j y at_y).at i key at)

  module _ (well : IsWellFormed (state_of (kept_of f))) where
    pub publisher-place : (i : ℕ) (x : PublisherFields) → get_or f.publishers i None ≡ Some x → x.place ≡ i
    publisher-place i x at =
        let known : publisher_place (state_of (kept_of f)) x.id ≡ Some i =
        well.publisher_places.known x.id i (publisher-listed i x at) in
        same_Some x.place i
        (sym (ap (option_map (λ (z : Publisher). z.place)) (publisher-stands f parts i x at)) ∙ known)

    pub subscriber-place : (j : ℕ) (y : SubscriberFields) → get_or f.subscribers j None ≡ Some y → y.place ≡ j
    subscriber-place j y at =
        let known : subscriber_place (state_of (kept_of f)) y.id ≡ Some j =
        well.subscriber_places.known y.id j (subscriber-listed j y at) in
        same_Some y.place j
        (sym (ap (option_map (λ (z : Subscriber). z.place)) (subscriber-stands f parts j y at)) ∙ known)

    -- a subscriber has some room for messages
    pub some-buffer : (j : ℕ) (y : SubscriberFields) → get_or f.subscribers j None ≡ Some y → 0 < y.buffer
    some-buffer j y at_y = (well.subscribers y.id _ (subscriber-stands f parts j y at_y)).some_room

    -- a publisher with an expired connection is gone
    pub expired-gone : (j key i : ℕ) (y : SubscriberFields) (c : Link) (x : PublisherFields)
        → get_or f.subscribers j None ≡ Some y → Contains y.expired key → get f.connections key ≡ Some c
        → get_or f.publishers i None ≡ Some x → x.id ≢ c.home.publisher
    expired-gone j key i y c x at_y among at at_x same =
        let none : (state_of (kept_of f)).publishers c.home.publisher ≡ None =
        (well.subscribers y.id _ (subscriber-stands f parts j y at_y)).expired_gone c.home.publisher
        (leads-among f.connections y.expired key c (contains-from y.expired key among) at) in
        let some : (state_of (kept_of f)).publishers c.home.publisher ≡ Some
        ((publisher_of f.books f.connections x).port) =
        ap (state_of (kept_of f)).publishers (sym same) ∙ publisher-stands f parts i x at_x in
        let no : None ≡ Some ((publisher_of f.books f.connections x).port) = sym none ∙ some in
        absurd cc

  -- ---- the publisher x at the place i, and the subscriber y at the place j

  module _ (i j : ℕ) (x : PublisherFields) (y : SubscriberFields) (at_x : get_or f.publishers i None ≡ Some x)
      (at_y : get_or f.subscribers j None ≡ Some y) where
    -- between these two, and at these places
    pub record Joins (key : ℕ) (c : Link) : Type 0 where
      pub stands : get f.connections key ≡ Some c
      pub publisher : c.home.publisher ≡ x.id
      pub subscriber : c.home.subscriber ≡ y.id
      pub publisher_place : c.home.publisher_place ≡ i
      pub subscriber_place : c.home.subscriber_place ≡ j

    -- a connection between the two knows their places
    pub joins-both : (key : ℕ) (c : Link) → get f.connections key ≡ Some c → c.home.publisher ≡ x.id
        → c.home.subscriber ≡ y.id → Joins key c
    joins-both key c at p q = record {
      stands = at;
      publisher = p;
      subscriber = q;
      publisher_place = sym (parts.linked.knows_publishers key i c x at at_x (sym p));
      subscriber_place =
          sym (parts.linked.knows.at key j c (details_of y) at
          (map-at details_of f.subscribers j ∙ ap (option_map details_of) at_y) (sym q)).0;
    }

    -- the publisher's key at the subscriber's place, where it leads to the subscriber
    pub sender-joins : (key : ℕ) (c : Link) → get_or x.keys j None ≡ Some key → get f.connections key ≡ Some c
        → c.home.subscriber ≡ y.id → Joins key c
    sender-joins key c has at its =
        let own = some_is (IsSenders x.id j) (get f.connections key) ((parts.linked.senders i x at_x).at j key has) in
        let same : Some own.0 ≡ Some c = sym own.1 ∙ at in
        let is : own.0 ≡ c = cc in
        joins-both key c at (ap (λ (d : Link). d.home.publisher) (sym is) ∙ own.2.publisher) its

    -- the subscriber's key at the publisher's place, where it leads to the publisher
    pub receiver-joins : (key : ℕ) (c : Link) → get_or y.keys i None ≡ Some key → get f.connections key ≡ Some c
        → c.home.publisher ≡ x.id → Joins key c
    receiver-joins key c has at its =
        let own = receiver-link j i key y at_y has in
        let same : Some own.0 ≡ Some c = sym own.1 ∙ at in
        let is : own.0 ≡ c = cc in
        joins-both key c at its (ap (λ (d : Link). d.home.subscriber) (sym is) ∙ own.2.subscriber)

    -- where neither has a key that leads to the other there is no connection
    pub no-connection : IsWellFormed (state_of (kept_of f))
        → ((key : ℕ) (c : Link) → get_or x.keys j None ≡ Some key → get f.connections key ≡ Some c
        → c.home.subscriber ≢ y.id)
        → ((key : ℕ) (c : Link) → get_or y.keys i None ≡ Some key → get f.connections key ≡ Some c
        → c.home.publisher ≢ x.id)
        → look_up (is_between x.id y.id) f.connections.slots ≡ None
    no-connection well none_x none_y = look_up-nothing (is_between x.id y.id) f.connections.slots
        (λ key c at. by key c at (is_between x.id y.id c) refl) where
          same-publisher : (k : ℕ) (z : PublisherFields) → get_or f.publishers k None ≡ Some z → k ≡ i → z ≡ x
          same-publisher k z at_z here =
              let e : Some z ≡ Some x = sym at_z ∙ ap (λ (n : ℕ). get_or f.publishers n None) here ∙ at_x in cc

          same-subscriber : (k : ℕ) (z : SubscriberFields) → get_or f.subscribers k None ≡ Some z → k ≡ j → z ≡ y
          same-subscriber k z at_z here =
              let e : Some z ≡ Some y = sym at_z ∙ ap (λ (n : ℕ). get_or f.subscribers n None) here ∙ at_y in cc

          ends : (key : ℕ) (c : Link) → Joins key c → SenderHas f.publishers key c ⊎ ReceiverHas f.subscribers key c → ⊥
          ends key c joins (inl has) =
              let is : has.publisher ≡ x =
              same-publisher c.home.publisher_place has.publisher has.stands joins.publisher_place in
              none_x key c
              (ap (λ (z : PublisherFields). get_or z.keys j None) (sym is)
              ∙ ap (λ (n : ℕ). get_or has.publisher.keys n None) (sym joins.subscriber_place) ∙ has.has)
              joins.stands joins.subscriber
          ends key c joins (inr has) = kept has.has where
            is : has.subscriber ≡ y
            is = same-subscriber c.home.subscriber_place has.subscriber has.stands joins.subscriber_place

            kept : (get_or has.subscriber.keys c.home.publisher_place None ≡ Some key)
                ⊎ Contains has.subscriber.expired key
                → ⊥
            kept (inl here) =
                none_y key c
                (ap (λ (z : SubscriberFields). get_or z.keys i None) (sym is)
                ∙ ap (λ (n : ℕ). get_or has.subscriber.keys n None) (sym joins.publisher_place) ∙ here)
                joins.stands joins.publisher
            kept (inr among) = expired-gone well c.home.subscriber_place key i has.subscriber c x has.stands among
                joins.stands at_x (sym joins.publisher)

          by : (key : ℕ) (c : Link) → get f.connections key ≡ Some c → (b : Bool) → is_between x.id y.id c ≡ b
              → b ≡ false
          by key c at true e =
              let both = both-true _ _ e in
              absurd (ends key c (joins-both key c at (eqb-true c.home.publisher x.id both.0)
              (eqb-true c.home.subscriber y.id both.1)) (parts.linked.ends key c at))
          by key c at false e = refl

    -- the ports of a connection that one of them has have room for its key
    pub sender-room : (key : ℕ) (c : Link) → Joins key c → j < x.key_room
    sender-room key c joins = subst (λ (n : ℕ). n < x.key_room) joins.subscriber_place
        (parts.linked.sender_rooms key i c x joins.stands at_x (sym joins.publisher))

    pub receiver-room : (key : ℕ) (c : Link) → Joins key c → i < y.key_room
    receiver-room key c joins = subst (λ (n : ℕ). n < y.key_room) joins.publisher_place
        (parts.linked.receiver_rooms key j c y joins.stands at_y (sym joins.subscriber))
