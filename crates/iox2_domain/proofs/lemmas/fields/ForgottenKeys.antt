-- Ports forget connections, and connections that no port has any more go: what holds still.
use Rattle.std.proofs.Common.{◌≡◌, ℕ, ◌+◌, ◌<◌, ◌≤◌, List, [], map, true, cond, eqb, get_or, refl, ap, sym, subst, ◌∙◌}
use Rattle.std.proofs.Common.{inl, inr, ◌⊎◌, arith}
use Rattle.std.specs.Prelude.{Contains, IsSomeAnd}
use Rattle.std.specs.declared.option.Option.{Option}
use Rattle.std.specs.declared.option.Option.TheVariants.{None, Some}
use Rattle.std.specs.Option.{option_map, option_map_or}
use Rattle.slab.specs.Slab.{Slab, get}
use Rattle.iox2_connections.specs.Link.{Link}
use Rattle.iox2_connections.specs.LookUp.{look_up, IsOnly}
use Rattle.iox2_connections.specs.Homes.{IsSenders}
use Rattle.iox2_connections.specs.Finds.{IsReceivers}
use Rattle.iox2_connections.specs.Counters.{times}
use Rattle.iox2_connections.specs.declared.sender.ReceiverDetails.{ReceiverDetails}
use Rattle.iox2_connections.proofs.LookUps.{look_up-there, look_up-none, look_up-found, look_up-nothing}
use Rattle.iox2_domain.specs.Ports.{PublisherFields, SubscriberFields}
use Rattle.iox2_domain.specs.Fields.{Fields, is_book_of}
use Rattle.iox2_domain.specs.Invariant.{HasParts, IsLinked, IsOwned, IsGone, HasBook, HasBooks, IsCounted}
use Rattle.iox2_domain.specs.Invariant.{HasPublisherRoom, IsPlain, HasExpiredRoom, SenderHas, ReceiverHas, is_publisher}
use Rattle.iox2_domain.specs.Invariant.{is_subscriber, own_holders, is_loan_in, details_of, connection_count}
use Rattle.iox2_domain.specs.Invariant.{IsBetweenOpen, one_if_receivers}
use Rattle.iox2_domain.proofs.lemmas.containers.LookUps.{map-at, viewed, only-before}
use Rattle.iox2_domain.proofs.lemmas.fields.LostConnections.{IsEmptyLink, LosesEmpty, lost-apart, lost-sums}
use Rattle.iox2_domain.proofs.lemmas.fields.LostConnections.{fewer-connections}
use Rattle.iox2_domain.proofs.lemmas.fields.OwnKeys.{listed-at, listed-has}
use Rattle.iox2_domain.proofs.lemmas.fields.Standing.{some_is}
use Rattle.iox2_domain.proofs.lemmas.slots.OpenLoans.{open-published}

-- the publisher has no keys but those that it had, at their places
pub record ForgetsSenderKeys (x x' : PublisherFields) : Type 0 where
  pub fields : x' ≡ record x { keys = x'.keys; is_due = x'.is_due }
  pub keys : (i key : ℕ) → get_or x'.keys i None ≡ Some key → get_or x.keys i None ≡ Some key

-- the subscriber has no keys but those that it had, at their places; only such a key, or one that was, is expired
pub record ForgetsReceiverKeys (y y' : SubscriberFields) : Type 0 where
  pub fields : y' ≡ record y { is_open = y'.is_open; keys = y'.keys; expired = y'.expired; is_due = y'.is_due }
  pub keys : (i key : ℕ) → get_or y'.keys i None ≡ Some key → get_or y.keys i None ≡ Some key
  pub expired : (key : ℕ) → Contains y'.expired key
      → Contains y.expired key ⊎ ((i : ℕ) × (get_or y.keys i None ≡ Some key))

-- no port has the connection at the key, and no slot stands in it
pub record IsForgotten (publishers : List (Option PublisherFields)) (subscribers : List (Option SubscriberFields))
    (key : ℕ) (c : Link) : Type 0 where
  pub no_sender : SenderHas publishers key c → ⊥
  pub no_receiver : ReceiverHas subscribers key c → ⊥
  pub empty : IsEmptyLink c

-- Publishers forget connections and stay; subscribers forget connections, or go; connections that no port has go.
pub record Forgets {T U : Type 0} (f : Fields T U) (publishers : List (Option PublisherFields))
    (subscribers : List (Option SubscriberFields)) (connections : Slab Link) : Type 0 where
  pub senders : (i : ℕ) (x' : PublisherFields) → get_or publishers i None ≡ Some x'
      → (x : PublisherFields) × (get_or f.publishers i None ≡ Some x) × ForgetsSenderKeys x x'
  pub senders_stay : (i : ℕ) (x : PublisherFields) → get_or f.publishers i None ≡ Some x
      → (x' : PublisherFields) × (get_or publishers i None ≡ Some x') × ForgetsSenderKeys x x'
  pub receivers : (i : ℕ) (y' : SubscriberFields) → get_or subscribers i None ≡ Some y'
      → (y : SubscriberFields) × (get_or f.subscribers i None ≡ Some y) × ForgetsReceiverKeys y y'
  pub fewer : (key : ℕ) (c : Link) → get connections key ≡ Some c → get f.connections key ≡ Some c
  pub gone : (key : ℕ) (c : Link) → get f.connections key ≡ Some c → get connections key ≡ None
      → IsForgotten publishers subscribers key c
  pub ends : (key : ℕ) (c : Link) → get connections key ≡ Some c
      → SenderHas publishers key c ⊎ ReceiverHas subscribers key c
  pub returned : (key : ℕ) (c : Link) → get connections key ≡ Some c → SenderHas publishers key c ⊎ (c.returned ≡ [])
  pub marked : (key : ℕ) (c : Link) → get connections key ≡ Some c → c.is_open ≡ true
      → IsBetweenOpen publishers subscribers key c

module _ {T U : Type 0} (f : Fields T U) (parts : HasParts f) (publishers : List (Option PublisherFields))
    (subscribers : List (Option SubscriberFields)) (connections : Slab Link)
    (g : Forgets f publishers subscribers connections) where
  -- the fields with these ports and connections
  abbrev pub forgotten : Fields T U
  forgotten = record f { publishers = publishers; subscribers = subscribers; connections = connections }

  abbrev most : ℕ
  most = (f.config).subscriber_max_borrowed_samples

  -- ---- what stays

  pub loses : LosesEmpty f.connections connections
  loses = record { fewer = g.fewer; gone = λ key c at none. (g.gone key c at none).empty }

  -- a connection that some port has stays
  pub stays : (key : ℕ) (c : Link) → get f.connections key ≡ Some c
      → SenderHas publishers key c ⊎ ReceiverHas subscribers key c → get connections key ≡ Some c
  stays key c at has = by (get connections key) refl where
    by : (o : Option Link) → get connections key ≡ o → get connections key ≡ Some c
    by None none =
        absurd (elim has [
          | inl sender ↦ (g.gone key c at none).no_sender sender
          | inr receiver ↦
              (g.gone key c at none).no_receiver receiver
        ])
    by (Some d) there = there ∙ sym (g.fewer key d there) ∙ at

  -- a publisher's key leads where it led
  pub sender-key : (i place key : ℕ) (x' : PublisherFields) → get_or publishers i None ≡ Some x'
      → get_or x'.keys place None ≡ Some key
      → (c : Link) × (get f.connections key ≡ Some c) × (get connections key ≡ Some c) × IsSenders x'.id place c
  sender-key i place key x' at at_key =
      let was = g.senders i x' at in
      let own = some_is (IsSenders (was.0).id place) (get f.connections key)
      ((parts.linked.senders i was.0 was.1).at place key (was.2.keys place key at_key)) in
      let c = own.0 in
      let id : x'.id ≡ (was.0).id = ap (λ (x : PublisherFields). x.id) was.2.fields in
      let here : i ≡ c.home.publisher_place =
      parts.linked.knows_publishers key i c was.0 own.1 was.1 (sym own.2.publisher) in
      let has : SenderHas publishers key c = record {
        publisher = x';
        stands = ap (λ (n : ℕ). get_or publishers n None) (sym here) ∙ at;
        is_its = id ∙ sym own.2.publisher;
        has = ap (λ (n : ℕ). get_or x'.keys n None) own.2.place ∙ at_key;
      } in
      (c, own.1, stays key c own.1 (inl has), record { publisher = own.2.publisher ∙ sym id; place = own.2.place })

  -- the details of a subscriber that stands somewhere
  details-at : (i : ℕ) (y : SubscriberFields) → get_or f.subscribers i None ≡ Some y
      → get_or (map (option_map details_of) f.subscribers) i None ≡ Some (details_of y)
  details-at i y at = map-at details_of f.subscribers i ∙ ap (option_map details_of) at

  -- a subscriber stands at the place that its connections name
  receiver-place : (i key : ℕ) (y : SubscriberFields) (c : Link) → get_or f.subscribers i None ≡ Some y
      → get f.connections key ≡ Some c → c.home.subscriber ≡ y.id → i ≡ c.home.subscriber_place
  receiver-place i key y c at at_c mine =
      (parts.linked.knows.at key i c (details_of y) at_c (details-at i y at) (sym mine)).0

  -- a subscriber's key leads where it led
  pub receiver-key : (i place key : ℕ) (y' : SubscriberFields) → get_or subscribers i None ≡ Some y'
      → get_or y'.keys place None ≡ Some key
      → (c : Link) × (get f.connections key ≡ Some c) × (get connections key ≡ Some c) × IsReceivers y'.id most c
  receiver-key i place key y' at at_key =
      let was = g.receivers i y' at in
      let old = was.2.keys place key at_key in
      let own = some_is (IsReceivers (was.0).id most) (get f.connections key)
      ((parts.linked.receivers i was.0 was.1).at place key old) in
      let c = own.0 in
      let id : y'.id ≡ (was.0).id = ap (λ (y : SubscriberFields). y.id) was.2.fields in
      let here : i ≡ c.home.subscriber_place = receiver-place i key was.0 c was.1 own.1 own.2.subscriber in
      let has : ReceiverHas subscribers key c = record {
        subscriber = y';
        stands = ap (λ (n : ℕ). get_or subscribers n None) (sym here) ∙ at;
        is_its = id ∙ sym own.2.subscriber;
        has = inl (ap (λ (n : ℕ). get_or y'.keys n None)
            (parts.linked.receiver_places i place key was.0 c was.1 old own.1) ∙ at_key);
      } in
      (c, own.1, stays key c own.1 (inr has), record { subscriber = own.2.subscriber ∙ sym id; limit = own.2.limit })

  -- so does the key of an expired connection
  pub expired-key : (i key : ℕ) (y' : SubscriberFields) → get_or subscribers i None ≡ Some y' → Contains y'.expired key
      → (c : Link) × (get f.connections key ≡ Some c) × (get connections key ≡ Some c) × IsReceivers y'.id most c
  expired-key i key y' at among =
      let was = g.receivers i y' at in
      let y = was.0 in
      let linked : IsSomeAnd (get f.connections key) (IsReceivers y.id most) = elim (was.2.expired key among) [
        | inl expired ↦ let there = listed-at y.expired key expired in
            (parts.linked.expired i y was.1).at there.0 key there.1
        | inr placed ↦ (parts.linked.receivers i y was.1).at placed.0 key placed.1
      ] in
      let own = some_is (IsReceivers y.id most) (get f.connections key) linked in
      let c = own.0 in
      let id : y'.id ≡ y.id = ap (λ (z : SubscriberFields). z.id) was.2.fields in
      let here : i ≡ c.home.subscriber_place = receiver-place i key y c was.1 own.1 own.2.subscriber in
      let has : ReceiverHas subscribers key c = record {
        subscriber = y';
        stands = ap (λ (n : ℕ). get_or subscribers n None) (sym here) ∙ at;
        is_its = id ∙ sym own.2.subscriber;
        has = inr among;
      } in
      (c, own.1, stays key c own.1 (inr has), record { subscriber = own.2.subscriber ∙ sym id; limit = own.2.limit })

  -- ---- the parts

  only_publishers : (p : ℕ) → IsOnly (is_publisher p) publishers
  only_publishers p = only-before (is_publisher p) f.publishers publishers (parts.publisher_ids p)
      (λ i x at. let a = g.senders i x at in (a.0, a.1, sym (ap (λ (w : PublisherFields). eqb w.id p) a.2.fields)))

  only_subscribers : (q : ℕ) → IsOnly (is_subscriber q) subscribers
  only_subscribers q = only-before (is_subscriber q) f.subscribers subscribers (parts.subscriber_ids q)
      (λ i y at. let a = g.receivers i y at in (a.0, a.1, sym (ap (λ (w : SubscriberFields). eqb w.id q) a.2.fields)))

  linked : IsLinked forgotten
  linked = record {
    senders = λ i x at. record {
      at = λ place key at_key. let to = sender-key i place key x at at_key in
          subst (λ o. IsSomeAnd o (IsSenders x.id place)) (sym to.2) to.3;
    };
    receivers = λ i y at. record {
      at = λ place key at_key. let to = receiver-key i place key y at at_key in
          subst (λ o. IsSomeAnd o (IsReceivers y.id most)) (sym to.2) to.3;
    };
    expired = λ i y at. record {
      at = λ place key at_key. let to = expired-key i key y at (listed-has y.expired place key at_key) in
          subst (λ o. IsSomeAnd o (IsReceivers y.id most)) (sym to.2) to.3;
    };
    ends = g.ends;
    receiver_places = λ i place key y c at at_key at_c. let was = g.receivers i y at in
        parts.linked.receiver_places i place key was.0 c was.1 (was.2.keys place key at_key) (g.fewer key c at_c);
    knows =
        record { at = λ key i c d at_c at_d same. knows key i c d at_c (viewed details_of subscribers i d at_d) same };
    knows_publishers = λ key i c x at_c at same. let was = g.senders i x at in
        parts.linked.knows_publishers key i c was.0 (g.fewer key c at_c) was.1
        (sym (ap (λ (z : PublisherFields). z.id) was.2.fields) ∙ same);
    sender_rooms = λ key i c x at_c at same. let was = g.senders i x at in
        subst (λ (n : ℕ). c.home.subscriber_place < n) (sym (ap (λ (z : PublisherFields). z.key_room) was.2.fields))
        (parts.linked.sender_rooms key i c was.0 (g.fewer key c at_c) was.1
        (sym (ap (λ (z : PublisherFields). z.id) was.2.fields) ∙ same));
    receiver_rooms = λ key i c y at_c at same. let was = g.receivers i y at in
        subst (λ (n : ℕ). c.home.publisher_place < n) (sym (ap (λ (z : SubscriberFields). z.key_room) was.2.fields))
        (parts.linked.receiver_rooms key i c was.0 (g.fewer key c at_c) was.1
        (sym (ap (λ (z : SubscriberFields). z.id) was.2.fields) ∙ same));
    limits = λ key c at. parts.linked.limits key c (g.fewer key c at);
    channel_counts = λ key c at. parts.linked.channel_counts key c (g.fewer key c at);
    returned = g.returned;
    marked = g.marked;
  } where
    knows : (key i : ℕ) (c : Link) (d : ReceiverDetails) → get connections key ≡ Some c
        → (y : SubscriberFields) × (get_or subscribers i None ≡ Some y) × (d ≡ details_of y)
        → d.port_id ≡ c.home.subscriber → (i ≡ c.home.subscriber_place) × (c.buffer ≡ d.buffer_size)
    knows key i c d at_c there same =
        let was = g.receivers i there.0 there.1 in
        let id : (was.0).id ≡ c.home.subscriber = sym (ap (λ (z : SubscriberFields). z.id) was.2.fields)
        ∙ sym (ap (λ (e : ReceiverDetails). e.port_id) there.2) ∙ same in
        let known =
        parts.linked.knows.at key i c (details_of was.0) (g.fewer key c at_c) (details-at i was.0 was.1) id in (
          known.0,
          known.1 ∙ sym (ap (λ (z : SubscriberFields). z.buffer) was.2.fields)
              ∙ sym (ap (λ (e : ReceiverDetails). e.buffer_size) there.2),
        )

  -- no subscriber has more connections
  room : HasExpiredRoom subscribers connections
  room = record {
    at = λ i y at.
        let was = g.receivers i y at in
        let enough : connection_count f.connections (was.0).id ≤ (was.0).expired_room =
        parts.expired_room.at i was.0 was.1 in
        subst (λ (z : SubscriberFields). connection_count connections z.id ≤ z.expired_room) (sym was.2.fields)
        (let less = fewer-connections f.connections connections (λ q key d at_d.
        ap (one_if_receivers q) (sym (loses.fewer key d at_d))) (was.0).id in omega (arith, enough, less));
  }

  books : HasBooks forgotten
  books = record {
    one_each = parts.books.one_each;
    books = parts.books.books;
    publishers = λ i x at. let was = g.senders i x at in let has = parts.books.publishers i was.0 was.1 in
        subst (λ (z : PublisherFields). HasBook forgotten z) (sym was.2.fields)
        (record {
          book = has.book;
          stands = has.stands;
          is_its = has.is_its;
          node = has.node;
          slots = has.slots;
          room = has.room;
        });
    no_others = parts.books.no_others;
  }

  -- what the publisher itself has of the slot, or what is out of one that is gone
  abbrev own : (p slot : ℕ) → Option PublisherFields → ℕ
  own p slot o =
      option_map_or (λ (x : PublisherFields). times slot x.loans + times slot (x.history).items) o
      (option_map_or (λ b. cond (is_loan_in b slot) 1 0) (look_up (is_book_of p) f.books.slots) 0)

  own-same : (p slot : ℕ) → own_holders f p slot ≡ own_holders forgotten p slot
  own-same p slot = by (look_up (is_publisher p) f.publishers) refl where
    by : (o : Option PublisherFields) → look_up (is_publisher p) f.publishers ≡ o
        → own p slot (look_up (is_publisher p) f.publishers) ≡ own p slot (look_up (is_publisher p) publishers)
    by None e = ap (own p slot) e ∙ sym (ap (own p slot) (look_up-nothing (is_publisher p) publishers (λ i x at.
        let was = g.senders i x at in
        ap (λ (z : PublisherFields). eqb z.id p) was.2.fields
        ∙ look_up-none (is_publisher p) f.publishers e i was.0 was.1)))
    by (Some x) e =
        let there = look_up-there (is_publisher p) f.publishers x e in
        let now = g.senders_stay there.0 x there.1 in
        ap (own p slot) e
        ∙ sym (ap (λ (z : PublisherFields). times slot z.loans + times slot (z.history).items) now.2.fields)
        ∙ sym (ap (own p slot) (look_up-found (is_publisher p) publishers there.0 now.0 (only_publishers p) now.1
        (ap (λ (z : PublisherFields). eqb z.id p) now.2.fields ∙ there.2)))

  counted : IsCounted forgotten
  counted = record {
    at = λ p slot. let before = parts.counted.at p slot in
        before ∙ (λ i. own-same p slot i + sym (lost-sums f.connections connections loses p slot) i);
  }

  -- a publisher stands with its book still, or is gone still
  pub owned-still : (key p : ℕ) → IsOwned f.publishers key p → IsOwned publishers key p
  owned-still key p has = let now = g.senders_stay has.place has.publisher has.stands in record {
    place = has.place;
    publisher = now.0;
    stands = now.1;
    is_its = ap (λ (z : PublisherFields). z.id) now.2.fields ∙ has.is_its;
    has = ap (λ (z : PublisherFields). z.book) now.2.fields ∙ has.has;
  }

  pub gone-still : (p : ℕ) → IsGone f.next_port f.publishers p → IsGone f.next_port publishers p
  gone-still p gone = record {
    known = gone.known;
    absent = λ i x at_x same. let was = g.senders i x at_x in
        gone.absent i was.0 was.1 (sym (ap (λ (z : PublisherFields). z.id) was.2.fields) ∙ same);
  }

  -- the fields agree with one another
  pub forgotten-parts : HasParts forgotten
  forgotten-parts = record {
    publisher_ids = only_publishers;
    subscriber_ids = only_subscribers;
    apart = lost-apart f.connections connections loses parts.apart;
    linked = linked;
    expired_room = room;
    books = books;
    names = record { at = λ key c at. parts.names.at key c (g.fewer key c at) };
    counted = counted;
    numbered = parts.numbered;
    publisher_room = λ i x at. let was = g.senders i x at in let has = parts.publisher_room i was.0 was.1 in
        subst (λ (z : PublisherFields). HasPublisherRoom f.config z) (sym was.2.fields)
        (record { loans = has.loans; history = has.history; size = has.size });
    warning_room = parts.warning_room;
    shapes = record { at = parts.shapes.at };
    forms = parts.forms;
    open_loans = open-published f.publishers publishers f.books f.contents (record {
      at = λ i x at. let was = g.senders i x at in (
        i,
        was.0,
        was.1,
        ap (λ (z : PublisherFields). z.book) was.2.fields,
        λ slot. subst (λ (z : PublisherFields). 0 < times slot (was.0).loans → 0 < times slot z.loans)
            (sym was.2.fields) (λ out. out),
        ap (λ (z : PublisherFields). z.max_loaned_samples) was.2.fields,
      );
    }) parts.open_loans;
    plain = λ i x at. let was = g.senders i x at in let has = parts.plain i was.0 was.1 in
        subst IsPlain (sym was.2.fields)
        (record {
          lent = has.lent;
          segment = record {
            static = has.segment.static;
            first = has.segment.first;
            longest = has.segment.longest;
            some = has.segment.some;
          };
        });
  }
