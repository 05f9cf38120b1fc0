-- Connections change, and none is made, goes or moves, whatever is marked: the ends of all ports stay.
use Rattle.std.proofs.Common.{◌<◌, ◌≡◌, ℕ, length, map, get_or, refl, ap, sym, subst, ◌∙◌, inl, inr, ◌⊎◌, Option, None}
use Rattle.std.proofs.Common.{Some, true}
use Rattle.std.specs.Prelude.{IsSomeAnd, Contains, []}
use Rattle.std.specs.Option.{option_map}
use Rattle.slab.specs.Slab.{Slab, get}
use Rattle.iox2_connections.specs.Link.{Link}
use Rattle.iox2_machine.specs.machine.Limits.{channel_count}
use Rattle.iox2_machine.specs.machine.Places.{occupants}
use Rattle.iox2_connections.specs.declared.connection.Home.{Home}
use Rattle.iox2_connections.specs.Homes.{IsSenders}
use Rattle.iox2_connections.specs.Finds.{IsReceivers}
use Rattle.iox2_connections.specs.Mailboxes.{subscriber_of_key, publisher_of_key}
use Rattle.iox2_domain.specs.Fields.{Fields, publisher_of, subscriber_of, number_in_slot, blocked_send}
use Rattle.iox2_domain.specs.Invariant.{IsLinked, IsBetweenOpen, SenderHas, ReceiverHas, HasOpenReceiver}
use mathlib.Core.Path.{fun_ext}
use Rattle.iox2_domain.proofs.lemmas.fields.NamedPorts.{led_by}

-- where a connection stands, how many slots may wait, and how many may be borrowed
abbrev pub seat_of : Link → Home × ℕ × ℕ
seat_of c = (c.home, c.buffer, c.limit)

-- No connection is made, none goes, and none moves. Marks may change.
pub record SameSeats (old new : Slab Link) : Type 0 where
  pub same : (key : ℕ) → option_map seat_of (get new key) ≡ option_map seat_of (get old key)

module _ (old new : Slab Link) (same : SameSeats old new) where
  -- what stands at a key is read through what never changes
  fixed-at : {A : Type 0} (g : Home × ℕ × ℕ → A) (key : ℕ)
      → option_map (λ c. g (seat_of c)) (get new key) ≡ option_map (λ c. g (seat_of c)) (get old key)
  fixed-at {A} g key = through (get new key) ∙ ap (option_map g) (same.same key) ∙ sym (through (get old key)) where
    through : (o : Option Link) → option_map (λ c. g (seat_of c)) o ≡ option_map g (option_map seat_of o)
    through None = refl
    through (Some c) = refl

  -- each key leads to the same port
  seated-led : (g : Home × ℕ × ℕ → ℕ)
      → led_by (λ (c : Link). g (seat_of c)) new ≡ led_by (λ (c : Link). g (seat_of c)) old
  seated-led g = fun_ext by where
    by : (key : Option ℕ) → led_by (λ (c : Link). g (seat_of c)) new key ≡ led_by (λ (c : Link). g (seat_of c)) old key
    by None = refl
    by (Some key) = fixed-at g key

  pub seated-publisher_of_key : publisher_of_key new ≡ publisher_of_key old
  seated-publisher_of_key = seated-led (λ t. t.0.publisher)

  pub seated-subscriber_of_key : subscriber_of_key new ≡ subscriber_of_key old
  seated-subscriber_of_key = seated-led (λ t. t.0.subscriber)

  -- a connection that stands stood before, between the same ports
  pub seat-was : (key : ℕ) (d : Link) → get new key ≡ Some d
      → (c : Link) × (get old key ≡ Some c) × (seat_of c ≡ seat_of d)
  seat-was key d at = by (get old key) refl (rw at at (same.same key)) where
    by : (o : Option Link) → get old key ≡ o → Some (seat_of d) ≡ option_map seat_of o
        → (c : Link) × (get old key ≡ Some c) × (seat_of c ≡ seat_of d)
    by None e h = absurd cc
    by (Some c) e h = (c, e, let g : seat_of c ≡ seat_of d = cc in g)

module _ {T U : Type 0} (f : Fields T U) (new : Slab Link) (same : SameSeats f.connections new) where
  abbrev with_connections : Fields T U
  with_connections = record f { connections = new }

  -- each publisher is to the machine what it was
  pub senders-seated : publisher_of f.books new ≡ publisher_of f.books f.connections
  senders-seated = λ i x. record (publisher_of f.books f.connections x) {
    port = record (publisher_of f.books f.connections x).port {
      ends = map (seated-subscriber_of_key f.connections new same i) x.keys;
      blocked = option_map (blocked_send (number_in_slot f.books x.id)
          (map (seated-subscriber_of_key f.connections new same i) x.keys)) x.blocked;
    };
  }

  -- and so is each subscriber
  pub receivers-seated : subscriber_of f.books new ≡ subscriber_of f.books f.connections
  receivers-seated = λ i y. record (subscriber_of f.books f.connections y) {
    port = record (subscriber_of f.books f.connections y).port {
      ends = map (seated-publisher_of_key f.connections new same i) y.keys;
      expired = occupants (map (seated-publisher_of_key f.connections new same i) (map Some y.expired));
    };
  }

  pub sender-seated : (key : ℕ) (c d : Link) → seat_of c ≡ seat_of d → SenderHas f.publishers key c
      → SenderHas f.publishers key d
  sender-seated key c d fixed has =
      let home : c.home ≡ d.home = ap (λ (t : Home × ℕ × ℕ). t.0) fixed in
      record {
        publisher = has.publisher;
        stands = subst (λ (h : Home). get_or f.publishers h.publisher_place None ≡ Some has.publisher) home has.stands;
        is_its = subst (λ (h : Home). has.publisher.id ≡ h.publisher) home has.is_its;
        has = subst (λ (h : Home). get_or has.publisher.keys h.subscriber_place None ≡ Some key) home has.has;
      }

  receiver-seated : (key : ℕ) (c d : Link) → seat_of c ≡ seat_of d → ReceiverHas f.subscribers key c
      → ReceiverHas f.subscribers key d
  receiver-seated key c d fixed has =
      let home : c.home ≡ d.home = ap (λ (t : Home × ℕ × ℕ). t.0) fixed in
      record {
        subscriber = has.subscriber;
        stands =
            subst (λ (h : Home). get_or f.subscribers h.subscriber_place None ≡ Some has.subscriber) home has.stands;
        is_its = subst (λ (h : Home). has.subscriber.id ≡ h.subscriber) home has.is_its;
        has = subst (λ (h : Home). (get_or has.subscriber.keys h.publisher_place None ≡ Some key)
            ⊎ Contains has.subscriber.expired key) home has.has;
      }

  pub open-seated : (c d : Link) → seat_of c ≡ seat_of d → HasOpenReceiver f.subscribers c
      → HasOpenReceiver f.subscribers d
  open-seated c d fixed has =
      let home : c.home ≡ d.home = ap (λ (t : Home × ℕ × ℕ). t.0) fixed in
      record {
        subscriber = has.subscriber;
        stands =
            subst (λ (h : Home). get_or f.subscribers h.subscriber_place None ≡ Some has.subscriber) home has.stands;
        is_its = subst (λ (h : Home). has.subscriber.id ≡ h.subscriber) home has.is_its;
        is_open = has.is_open;
      }

  -- ports and connections still know of each other, where each connection has as many channels as before, each slot
  -- that was given back has its publisher, and marks say what is so
  pub linked-seated : IsLinked f
      → ((key : ℕ) (c : Link) → get new key ≡ Some c → length c.channels ≡ channel_count f.config)
      → ((key : ℕ) (c : Link) → get new key ≡ Some c → SenderHas f.publishers key c ⊎ (c.returned ≡ []))
      → ((key : ℕ) (c : Link) → get new key ≡ Some c → c.is_open ≡ true
      → IsBetweenOpen f.publishers f.subscribers key c) → IsLinked with_connections
  linked-seated linked counts returned marked = record {
    senders = λ i x at.
        record { at = λ place key at_key. sender x.id place key ((linked.senders i x at).at place key at_key) };
    receivers =
        λ i y at. record { at = λ place key at_key. receiver y.id key ((linked.receivers i y at).at place key at_key) };
    expired =
        λ i y at. record { at = λ place key at_key. receiver y.id key ((linked.expired i y at).at place key at_key) };
    ends = λ key c at. let b = before key c at in by key b.0 c b.2 (linked.ends key b.0 b.1);
    receiver_places = λ i place key y c at_y at_key at_c. let b = before key c at_c in
        sym (ap (λ (t : Home × ℕ × ℕ). t.0.publisher_place) b.2)
        ∙ linked.receiver_places i place key y b.0 at_y at_key b.1;
    knows = record {
      at = λ key i c y at_c at_y is. let b = before key c at_c in
          let known = linked.knows.at key i b.0 y b.1 at_y (is ∙ sym (ap (λ (t : Home × ℕ × ℕ). t.0.subscriber) b.2)) in (
            known.0 ∙ ap (λ (t : Home × ℕ × ℕ). t.0.subscriber_place) b.2,
            sym (ap (λ (t : Home × ℕ × ℕ). t.1) b.2) ∙ known.1,
          );
    };
    knows_publishers = λ key i c x at_c at_x is. let b = before key c at_c in
        linked.knows_publishers key i b.0 x b.1 at_x (is ∙ sym (ap (λ (t : Home × ℕ × ℕ). t.0.publisher) b.2))
        ∙ ap (λ (t : Home × ℕ × ℕ). t.0.publisher_place) b.2;
    sender_rooms = λ key i c x at_c at_x is. let b = before key c at_c in
        subst (λ (n : ℕ). n < x.key_room) (ap (λ (t : Home × ℕ × ℕ). t.0.subscriber_place) b.2)
        (linked.sender_rooms key i b.0 x b.1 at_x (is ∙ sym (ap (λ (t : Home × ℕ × ℕ). t.0.publisher) b.2)));
    receiver_rooms = λ key i c y at_c at_y is. let b = before key c at_c in
        subst (λ (n : ℕ). n < y.key_room) (ap (λ (t : Home × ℕ × ℕ). t.0.publisher_place) b.2)
        (linked.receiver_rooms key i b.0 y b.1 at_y (is ∙ sym (ap (λ (t : Home × ℕ × ℕ). t.0.subscriber) b.2)));
    limits = λ key c at. let b = before key c at in
        sym (ap (λ (t : Home × ℕ × ℕ). t.2) b.2) ∙ linked.limits key b.0 b.1;
    channel_counts = counts;
    returned = returned;
    marked = marked;
  } where
    before : (key : ℕ) (d : Link) → get new key ≡ Some d
        → (c : Link) × (get f.connections key ≡ Some c) × (seat_of c ≡ seat_of d)
    before key d at = seat-was f.connections new same key d at

    sender : (p place key : ℕ) → IsSomeAnd (get f.connections key) (IsSenders p place)
        → IsSomeAnd (get new key) (IsSenders p place)
    sender p place key h = by (get f.connections key) (get new key) (same.same key) h where
      by : (o n : Option Link) → option_map seat_of n ≡ option_map seat_of o → IsSomeAnd o (IsSenders p place)
          → IsSomeAnd n (IsSenders p place)
      by None n e h = absurd h
      by (Some c) None e h = absurd cc
      by (Some c) (Some d) e h = let is : seat_of d ≡ seat_of c = cc in record {
        publisher = ap (λ (t : Home × ℕ × ℕ). t.0.publisher) is ∙ h.publisher;
        place = ap (λ (t : Home × ℕ × ℕ). t.0.subscriber_place) is ∙ h.place;
      }

    receiver : (q key : ℕ)
        → IsSomeAnd (get f.connections key) (IsReceivers q (f.config).subscriber_max_borrowed_samples)
        → IsSomeAnd (get new key) (IsReceivers q (f.config).subscriber_max_borrowed_samples)
    receiver q key h = by (get f.connections key) (get new key) (same.same key) h where
      by : (o n : Option Link) → option_map seat_of n ≡ option_map seat_of o
          → IsSomeAnd o (IsReceivers q (f.config).subscriber_max_borrowed_samples)
          → IsSomeAnd n (IsReceivers q (f.config).subscriber_max_borrowed_samples)
      by None n e h = absurd h
      by (Some c) None e h = absurd cc
      by (Some c) (Some d) e h = let is : seat_of d ≡ seat_of c = cc in record {
        subscriber = ap (λ (t : Home × ℕ × ℕ). t.0.subscriber) is ∙ h.subscriber;
        limit = ap (λ (t : Home × ℕ × ℕ). t.2) is ∙ h.limit;
      }

    by : (key : ℕ) (c d : Link) → seat_of c ≡ seat_of d → SenderHas f.publishers key c ⊎ ReceiverHas f.subscribers key c
        → SenderHas f.publishers key d ⊎ ReceiverHas f.subscribers key d
    by key c d fixed (inl has) = inl (sender-seated key c d fixed has)
    by key c d fixed (inr has) = inr (receiver-seated key c d fixed has)
