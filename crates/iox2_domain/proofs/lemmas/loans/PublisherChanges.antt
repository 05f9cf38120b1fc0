-- The record of one publisher changes at its place.
use Rattle.std.proofs.Common.{◌≡◌, ◌≢◌, ℕ, zero, suc, le_refl, ◌+◌, ◌≤◌, ◌<◌, List, [], ◌∷◌, map, Bool, true, false}
use Rattle.std.proofs.Common.{cond, eqb, get_or, slice_set, refl, ap, sym, subst, ◌∙◌, inl, inr, ◌⊎◌, arith}
use Rattle.std.proofs.lemmas.Bool.{cases_eq, eqb-true}
use Rattle.std.specs.declared.option.Option.{Option}
use Rattle.std.specs.declared.option.Option.TheVariants.{None, Some}
use Rattle.std.specs.Option.{option_map, option_map_or}
use Rattle.slab.specs.Slab.{Slab, get}
use Rattle.circular_buffer.specs.Buffer.{Buffer, buffer}
use Rattle.iox2_connections.specs.Link.{Link}
use Rattle.iox2_slots.specs.SlotBook.{Book}
use Rattle.iox2_machine.specs.machine.Numbers.{put_at}
use Rattle.iox2_machine.specs.machine.Records.{Publisher}
use Rattle.iox2_connections.specs.LookUp.{look_up, IsOnly}
use Rattle.iox2_connections.specs.Counters.{times}
use Rattle.iox2_connections.specs.Homes.{IsSenderLinked}
use Rattle.std.proofs.lemmas.List.{get_or-set_same, get_or-set_other}
use Rattle.iox2_connections.proofs.MailboxChanges.{within_if_some}
use Rattle.iox2_connections.proofs.LookUps.{look_up-changed, look_up-found}
use Rattle.iox2_domain.specs.declared.publisher_state.BlockedDelivery.{BlockedDelivery}
use Rattle.iox2_domain.specs.Ports.{PublisherFields}
use Rattle.iox2_domain.specs.Kept.{Named, state_of, port_named, ids, is_named}
use Rattle.iox2_domain.specs.Fields.{Fields, kept_of, publisher_of, is_book_of, number_in_slot}
use Rattle.iox2_domain.specs.Invariant.{IsLinked, HasBook, HasBooks, KeepsBooks, HasPublisherRoom, HasSegment, IsPlain}
use Rattle.iox2_domain.specs.Invariant.{SenderHas, ReceiverHas, is_publisher, own_holders, is_loan_in, LendsBlocked}
use Rattle.iox2_domain.specs.Shows.{KeepsEntries}
use Rattle.iox2_domain.proofs.lemmas.containers.LookUps.{look_up-map}
use Rattle.iox2_domain.proofs.lemmas.fields.KeptBooks.{StayWithBooks, StoodOrEnters, kept-publishers}
use Rattle.iox2_domain.proofs.lemmas.fields.Views.{KeepsHeld, held-before}
use mathlib.Core.Path.{fun_ext}

-- the fields with this publisher at the place
abbrev pub with_publisher : {T U : Type 0} → Fields T U → (i : ℕ) → PublisherFields → Fields T U
with_publisher f i x = record f { publishers = slice_set f.publishers i (Some x) }

-- the publisher keeps what it was made with, and has no less room
pub record KeepsSettings (x y : PublisherFields) : Type 0 where
  pub id : y.id ≡ x.id
  pub book : y.book ≡ x.book
  pub max_loaned_samples : y.max_loaned_samples ≡ x.max_loaned_samples
  pub slots : y.slots ≡ x.slots
  pub strategy : y.strategy ≡ x.strategy
  pub backpressure_handler : y.backpressure_handler ≡ x.backpressure_handler
  pub degradation_handler : y.degradation_handler ≡ x.degradation_handler
  pub allocation : y.allocation ≡ x.allocation
  pub segment_start : y.segment_start ≡ x.segment_start
  pub segment_length : y.segment_length ≡ x.segment_length
  pub segment : HasSegment x → HasSegment y
  pub loan_room : x.loan_room ≤ y.loan_room
  pub history_room : (y.history).capacity ≡ (x.history).capacity
  pub key_room : x.key_room ≤ y.key_room

-- other slots of its own change no setting of a publisher
pub other_slots : (x : PublisherFields) (loans items : List ℕ) (blocked : Option BlockedDelivery)
    → KeepsSettings x (record x { loans = loans; history = buffer items (x.history).capacity; blocked = blocked })
other_slots x loans items blocked = assumption (le_refl x.loan_room, le_refl x.key_room)

-- ---- lists with a record at each place

module _ {A : Type 0} where
  -- a view that doesn't tell the new record from the old one stays
  pub map-set : {B : Type 0} (g : A → B) (xs : List (Option A)) (i : ℕ) (x y : A) → get_or xs i None ≡ Some x
      → g y ≡ g x
      → map (option_map g) (slice_set xs i (Some y)) ≡ map (option_map g) xs
  map-set g [] i x y at same = refl
  map-set g (z ∷ zs) zero x y at same = ap (λ o. o ∷ map (option_map g) zs) (ap Some same ∙ sym (ap (option_map g) at))
  map-set g (z ∷ zs) (suc i) x y at same = ap (λ ys. option_map g z ∷ ys) (map-set g zs i x y at same)

module _ {T U : Type 0} (f : Fields T U) (i : ℕ) (x y : PublisherFields) (at : get_or f.publishers i None ≡ Some x)
    (id : y.id ≡ x.id) where
  -- ---- who stands where

  -- the new record stands at the place
  pub changed-here : get_or (slice_set f.publishers i (Some y)) i None ≡ Some y
  changed-here = get_or-set_same f.publishers i (Some y) None (within_if_some f.publishers i x at)

  -- nobody else moves
  pub changed-others : (k : ℕ) → k ≢ i → get_or (slice_set f.publishers i (Some y)) k None ≡ get_or f.publishers k None
  changed-others k away = get_or-set_other f.publishers i k (Some y) None away

  -- who stands at a place is the changed one, or stood there before
  pub changed-was : (k : ℕ) (z : PublisherFields) → get_or (slice_set f.publishers i (Some y)) k None ≡ Some z
      → ((k ≡ i) × (z ≡ y)) ⊎ ((k ≢ i) × (get_or f.publishers k None ≡ Some z))
  changed-was k z here = elim (cases_eq k i) [
    | inl same ↦
        let at_place : get_or (slice_set f.publishers i (Some y)) i None ≡ Some z =
        subst (λ (n : ℕ). get_or (slice_set f.publishers i (Some y)) n None ≡ Some z) same here in
        let is : Some y ≡ Some z = sym changed-here ∙ at_place in
        inl (same, cc)
    | inr away ↦ inr (away, sym (changed-others k away) ∙ here)
  ]

  -- who stood at a place still does, or is the changed one
  pub changed-still : (k : ℕ) (z : PublisherFields) → get_or f.publishers k None ≡ Some z
      → ((k ≡ i) × (z ≡ x)) ⊎ ((k ≢ i) × (get_or (slice_set f.publishers i (Some y)) k None ≡ Some z))
  changed-still k z there = elim (cases_eq k i) [
    | inl same ↦
        let at_place : get_or f.publishers i None ≡ Some z =
        subst (λ (n : ℕ). get_or f.publishers n None ≡ Some z) same there in
        let is : Some x ≡ Some z = sym at ∙ at_place in
        inl (same, cc)
    | inr away ↦ inr (away, changed-others k away ∙ there)
  ]

  test-same : (p : ℕ) → is_publisher p y ≡ is_publisher p x
  test-same p = ap (λ n. eqb n p) id

  -- ids stay apart
  pub changed-ids_apart : ((p : ℕ) → IsOnly (is_publisher p) f.publishers) → (p : ℕ)
      → IsOnly (is_publisher p) (slice_set f.publishers i (Some y))
  changed-ids_apart only p = record {
    one = λ j k v w at_j at_k is_v is_w.
        let a = before j v at_j is_v in
        let b = before k w at_k is_w in
        (only p).one j k a.0 b.0 a.1 b.1 a.2 b.2;
  } where
    before : (k : ℕ) (z : PublisherFields) → get_or (slice_set f.publishers i (Some y)) k None ≡ Some z
        → is_publisher p z ≡ true
        → (w : PublisherFields) × (get_or f.publishers k None ≡ Some w) × (is_publisher p w ≡ true)
    before k z here is = elim (changed-was k z here) [
      | inl same ↦ (x, rw same.0 at, sym (test-same p) ∙ sym (ap (is_publisher p) same.1) ∙ is)
      | inr away ↦ (z, away.1, is)
    ]

  -- the publisher with an id
  pub look_up-publisher : ((q : ℕ) → IsOnly (is_publisher q) f.publishers) → (p : ℕ)
      → look_up (is_publisher p) (slice_set f.publishers i (Some y)) ≡ cond (eqb x.id p) (Some y)
      (look_up (is_publisher p) f.publishers)
  look_up-publisher only p =
      look_up-changed (is_publisher p) f.publishers (slice_set f.publishers i (Some y)) i x y (only p)
      (changed-ids_apart only p) at changed-here changed-others (test-same p)
      ∙ ap (λ b. cond b (Some y) (look_up (is_publisher p) f.publishers)) (test-same p)

  -- ---- the state

  abbrev shown : PublisherFields → Named Publisher
  shown z = publisher_of f.books f.connections z

  abbrev port : Option (Named Publisher) → Option Publisher
  port o = option_map (λ (z : Named Publisher). z.port) o

  named-changed : ((q : ℕ) → IsOnly (is_publisher q) f.publishers) → (p : ℕ)
      → port_named p (map (option_map (publisher_of f.books f.connections)) (slice_set f.publishers i (Some y)))
      ≡ put_at (state_of (kept_of f)).publishers x.id (Some ((publisher_of f.books f.connections y).port)) p
  named-changed only p =
      ap port (look_up-map (is_named p) shown (slice_set f.publishers i (Some y)))
      ∙ ap (λ o. port (option_map shown o)) (look_up-publisher only p)
      ∙ by (eqb x.id p) (eqb p x.id) (symmetric x.id p) (look_up (is_publisher p) f.publishers)
      ∙ ap (λ o. cond (eqb p x.id) (Some ((publisher_of f.books f.connections y).port)) (port o))
      (sym (look_up-map (is_named p) shown f.publishers))
    where
      symmetric : (a b : ℕ) → eqb a b ≡ eqb b a
      symmetric a b = grind arith

      by : (a b : Bool) → a ≡ b → (o : Option PublisherFields)
          → port (option_map shown (cond a (Some y) o)) ≡ cond b (Some ((publisher_of f.books f.connections y).port))
          (port (option_map shown o))
      by true b e o = rw (sym e) refl
      by false b e o = rw (sym e) refl

  -- the machine's state with the changed publisher
  pub changed-is : ((q : ℕ) → IsOnly (is_publisher q) f.publishers)
      → state_of (kept_of (with_publisher f i y)) ≡ record (state_of (kept_of f)) {
        publishers = put_at (state_of (kept_of f)).publishers x.id (Some ((publisher_of f.books f.connections y).port));
      }
  changed-is only = λ t. record (state_of (kept_of f)) { publishers = all t; publisher_places = places t } where
    all : (state_of (kept_of (with_publisher f i y))).publishers ≡ put_at (state_of (kept_of f)).publishers x.id
        (Some ((publisher_of f.books f.connections y).port))
    all = fun_ext (named-changed only)

    ids-are : (zs : List (Option PublisherFields)) → ids
        (map (option_map (publisher_of f.books f.connections)) zs) ≡ map (option_map (λ (z : PublisherFields). z.id)) zs
    ids-are [] = refl
    ids-are (None ∷ zs) = ap (λ ns. None ∷ ns) (ids-are zs)
    ids-are (Some z ∷ zs) = ap (λ ns. Some z.id ∷ ns) (ids-are zs)

    places : (state_of (kept_of (with_publisher f i y))).publisher_places ≡ (state_of (kept_of f)).publisher_places
    places =
        ids-are (slice_set f.publishers i (Some y))
        ∙ map-set (λ (z : PublisherFields). z.id) f.publishers i x y at id
        ∙ sym (ids-are f.publishers)

  -- ---- what holds still, part by part

  -- its connections still know it, where the new places have those keys of the old ones that lead to connections of its
  -- own
  pub changed-linked : IsLinked f → x.key_room ≤ y.key_room → IsSenderLinked y.id f.connections y.keys
      → ((key : ℕ) (c : Link) → get f.connections key ≡ Some c → c.home.publisher ≡ x.id
      → get_or x.keys c.home.subscriber_place None ≡ Some key
      → get_or y.keys c.home.subscriber_place None ≡ Some key)
      → IsLinked (with_publisher f i y)
  changed-linked linked room sender still = record {
    senders =
        λ k z here. elim (changed-was k z here) [ inl is ↦ rw is.1 sender | inr away ↦ linked.senders k z away.1 ];
    receivers = linked.receivers;
    expired = linked.expired;
    ends = λ key c at_c. by key c at_c (linked.ends key c at_c);
    receiver_places = linked.receiver_places;
    knows = linked.knows;
    knows_publishers = λ key k c z at_c at_z same. elim (changed-was k z at_z) [
      | inl is ↦ linked.knows_publishers key k c x at_c (rw is.0 at)
          (sym id ∙ sym (ap (λ (w : PublisherFields). w.id) is.1) ∙ same)
      | inr away ↦ linked.knows_publishers key k c z at_c away.1 same
    ];
    sender_rooms = λ key k c z at_c at_z same. elim (changed-was k z at_z) [
      | inl is ↦
          let low : c.home.subscriber_place < x.key_room =
          linked.sender_rooms key k c x at_c (rw is.0 at)
          (sym id ∙ sym (ap (λ (w : PublisherFields). w.id) is.1) ∙ same) in
          rw is.1 (omega arith)
      | inr away ↦ linked.sender_rooms key k c z at_c away.1 same
    ];
    receiver_rooms = linked.receiver_rooms;
    limits = linked.limits;
    channel_counts = linked.channel_counts;
    returned = λ key c at_c. reclaims key c at_c (linked.returned key c at_c);
    marked = λ key c at_c is. let both = linked.marked key c at_c is in
        record { sender = moved key c at_c both.sender; receiver = both.receiver };
  } where
    moved : (key : ℕ) (c : Link) → get f.connections key ≡ Some c → SenderHas f.publishers key c
        → SenderHas (slice_set f.publishers i (Some y)) key c
    moved key c at_c has = elim (changed-still c.home.publisher_place has.publisher has.stands) [
      | inl is ↦
          let its : c.home.publisher ≡ x.id = sym has.is_its ∙ ap (λ (w : PublisherFields). w.id) is.1 in
          record {
            publisher = y;
            stands = rw is.0 changed-here;
            is_its = id ∙ sym its;
            has = still key c at_c its
                (ap (λ (w : PublisherFields). get_or w.keys c.home.subscriber_place None) (sym is.1) ∙ has.has);
          }
      | inr away ↦ record { publisher = has.publisher; stands = away.1; is_its = has.is_its; has = has.has }
    ]

    by : (key : ℕ) (c : Link) → get f.connections key ≡ Some c
        → SenderHas f.publishers key c ⊎ ReceiverHas f.subscribers key c
        → SenderHas (slice_set f.publishers i (Some y)) key c ⊎ ReceiverHas f.subscribers key c
    by key c at_c (inl has) = inl (moved key c at_c has)
    by key c at_c (inr has) = inr has

    reclaims : (key : ℕ) (c : Link) → get f.connections key ≡ Some c → SenderHas f.publishers key c ⊎ (c.returned ≡ [])
        → SenderHas (slice_set f.publishers i (Some y)) key c ⊎ (c.returned ≡ [])
    reclaims key c at_c (inl has) = inl (moved key c at_c has)
    reclaims key c at_c (inr none) = inr none

  -- with its old places it is linked as before
  pub changed-linked_same : IsLinked f → x.key_room ≤ y.key_room → y.keys ≡ x.keys → IsLinked (with_publisher f i y)
  changed-linked_same linked room same =
      changed-linked linked room (rw (id, same) (linked.senders i x at))
      (λ key c at_c its has. ap (λ (ps : List (Option ℕ)). get_or ps c.home.subscriber_place None) same ∙ has)

  -- it has its book
  pub changed-books : HasBooks f → KeepsSettings x y → HasBooks (with_publisher f i y)
  changed-books books keeps = record {
    one_each = books.one_each;
    books = books.books;
    publishers = λ k z here. elim (changed-was k z here) [
      | inl is ↦ rw is.1 (mine (books.publishers i x at))
      | inr away ↦
          let has = books.publishers k z away.1 in
          record {
            book = has.book;
            stands = has.stands;
            is_its = has.is_its;
            node = has.node;
            slots = has.slots;
            room = has.room;
          }
    ];
    no_others = books.no_others;
  } where
    mine : HasBook f x → HasBook (with_publisher f i y) y
    mine has = record {
      book = has.book;
      stands = rw keeps.book has.stands;
      is_its = has.is_its ∙ sym id;
      node = has.node;
      slots = rw (keeps.segment_start, keeps.slots) has.slots;
      room = rw (keeps.book, keeps.segment_start, keeps.segment_length) has.room;
    }

  -- it has room
  pub changed-room : ((k : ℕ) (z : PublisherFields) → get_or f.publishers k None ≡ Some z → HasPublisherRoom f.config z)
      → KeepsSettings x y
      → (k : ℕ) (z : PublisherFields) → get_or (slice_set f.publishers i (Some y)) k None ≡ Some z
      → HasPublisherRoom f.config z
  changed-room rooms keeps k z here =
      elim (changed-was k z here) [ inl is ↦ rw is.1 (mine (rooms i x at)) | inr away ↦ rooms k z away.1 ] where
        mine : HasPublisherRoom f.config x → HasPublisherRoom f.config y
        mine has = record {
          loans = let most = keeps.max_loaned_samples in let room = keeps.loan_room in let enough = has.loans in
              omega arith;
          history = keeps.history_room ∙ has.history;
          size = rw (keeps.slots, keeps.segment_length) has.size;
        }

  -- it is still plain
  pub changed-plain : ((k : ℕ) (z : PublisherFields) → get_or f.publishers k None ≡ Some z → IsPlain z)
      → KeepsSettings x y → (LendsBlocked x → LendsBlocked y)
      → (k : ℕ) (z : PublisherFields) → get_or (slice_set f.publishers i (Some y)) k None ≡ Some z → IsPlain z
  changed-plain plain keeps lends k z here = elim (changed-was k z here) [
    | inl is ↦
        let has = plain i x at in
        rw is.1 (record {
          lent = lends has.lent;
          segment = keeps.segment has.segment;
        })
    | inr away ↦ plain k z away.1
  ]

  -- each book is somebody's still, or left
  pub changed-kept_books : (books : Slab Book) → y.book ≡ x.book → KeepsBooks f.next_port f.publishers books
      → KeepsBooks f.next_port (slice_set f.publishers i (Some y)) books
  changed-kept_books books book = kept-publishers f.next_port f.next_port f.publishers
      (slice_set f.publishers i (Some y)) (omega arith) stay stood books where
        stay : StayWithBooks f.publishers (slice_set f.publishers i (Some y))
        stay k z there = elim (changed-still k z there) [
          | inl is ↦ (
            y,
            rw is.0 changed-here,
            id ∙ sym (ap (λ (w : PublisherFields). w.id) is.1),
            book ∙ sym (ap (λ (w : PublisherFields). w.book) is.1),
          )
          | inr away ↦ (z, away.1, refl, refl)
        ]

        stood : StoodOrEnters f.next_port f.publishers (slice_set f.publishers i (Some y))
        stood k z here = elim (changed-was k z here) [
          | inl is ↦ inl (x, rw is.0 at, ap (λ (w : PublisherFields). w.id) is.1 ∙ id)
          | inr away ↦ inl (z, away.1, refl)
        ]

  -- what the publisher itself has of the slot, or what is out of one that is gone
  abbrev own : (p slot : ℕ) → Option PublisherFields → ℕ
  own p slot o =
      option_map_or (λ (z : PublisherFields). times slot z.loans + times slot (z.history).items) o
      (option_map_or (λ b. cond (is_loan_in b slot) 1 0) (look_up (is_book_of p) f.books.slots) 0)

  -- it has other slots itself
  pub changed-own : ((q : ℕ) → IsOnly (is_publisher q) f.publishers) → (p slot : ℕ)
      → own_holders (with_publisher f i y) p slot ≡ cond (eqb x.id p)
      (times slot y.loans + times slot (y.history).items) (own_holders f p slot)
  changed-own only p slot =
      ap (own p slot) (look_up-publisher only p) ∙ by (eqb x.id p) (look_up (is_publisher p) f.publishers) where
        by : (b : Bool) (o : Option PublisherFields)
            → own p slot (cond b (Some y) o) ≡ cond b (times slot y.loans + times slot (y.history).items) (own p slot o)
        by true o = refl
        by false o = refl

  -- with its old history and its old blocked delivery it holds what it held
  pub changed-entries : ((q : ℕ) → IsOnly (is_publisher q) f.publishers) → KeepsEntries (kept_of f)
      → y.history ≡ x.history
      → ((publisher_of f.books f.connections x).port).blocked ≡ ((publisher_of f.books f.connections y).port).blocked
      → KeepsEntries (kept_of (with_publisher f i y))
  changed-entries only entries history blocked = λ p n held. entries p n
      (held-before (state_of (kept_of f)) (state_of (kept_of (with_publisher f i y))) p n (λ q. refl)
      (λ z here. was p z (eqb p x.id) refl (sym (named-changed only p) ∙ here)) held) where
        there : (p : ℕ) → p ≡ x.id
            → (state_of (kept_of f)).publishers p ≡ Some ((publisher_of f.books f.connections x).port)
        there p e = ap port (look_up-map (is_named p) shown f.publishers
            ∙ ap (option_map shown) (look_up-found (is_publisher p) f.publishers i x (only p) at (rw e (grind arith))))

        was : (p : ℕ) (z : Publisher) (b : Bool) → eqb p x.id ≡ b
            → cond b (Some ((publisher_of f.books f.connections y).port)) ((state_of (kept_of f)).publishers p) ≡ Some z
            → (w : Publisher) × ((state_of (kept_of f)).publishers p ≡ Some w) × KeepsHeld w z
        was p z true e here =
            let same : Some ((publisher_of f.books f.connections y).port) ≡ Some z = here in
            let is : (publisher_of f.books f.connections y).port ≡ z = cc in (
              (publisher_of f.books f.connections x).port,
              there p (eqb-true p x.id e),
              record {
                history = history_same ∙ ap (λ (w : Publisher). w.history) is;
                blocked = blocked ∙ ap (λ (w : Publisher). w.blocked) is;
              },
            )
          where
            history_same : ((publisher_of f.books f.connections x).port).history
                ≡ ((publisher_of f.books f.connections y).port).history
            history_same = ap (λ (n : ℕ). map (number_in_slot f.books n) x.history.items) (sym id)
                ∙ ap (λ (h : Buffer ℕ). map (number_in_slot f.books y.id) h.items) (sym history)
        was p z false e here = (z, here, record { history = refl; blocked = refl })
