-- The fields after a publisher left: what holds of them.
use Rattle.std.proofs.Common.{◌≡◌, ◌≢◌, ℕ, Bool, ◌+◌, ◌<◌, ◌≤◌, true, cond, List, [], length, map, get_or, refl, ap}
use Rattle.std.proofs.Common.{sym, subst, ◌∙◌, inl, inr, ◌⊎◌, arith, slice_set}
use Rattle.std.proofs.lemmas.Bool.{cases_eq, eq-eqb, ne_eqb}
use Rattle.std.proofs.lemmas.List.{get_or-set_other}
use Rattle.std.specs.Prelude.{IsSomeAnd, Contains}
use Rattle.std.specs.declared.option.Option.{Option}
use Rattle.std.specs.declared.option.Option.TheVariants.{None, Some}
use Rattle.std.specs.Option.{option_map, option_map_or}
use Rattle.std.specs.List.{sum_by}
use Rattle.slab.specs.Slab.{Slab, get, with_value}
use Rattle.iox2_connections.specs.Link.{Link}
use Rattle.iox2_machine.specs.machine.Channel.{Channel}
use Rattle.iox2_slots.specs.SlotBook.{Book, IsAligned, holders_at}
use Rattle.iox2_machine.specs.machine.WellFormed.{IsWellFormed}
use Rattle.iox2_connections.specs.declared.connection.Home.{Home}
use Rattle.iox2_connections.specs.LookUp.{look_up, IsOnly}
use Rattle.iox2_connections.specs.Homes.{IsSenders, fixed_of}
use Rattle.iox2_connections.specs.Finds.{IsReceivers, IsReceiverLinked}
use Rattle.iox2_connections.specs.Counters.{times, stands, with_counters}
use Rattle.iox2_connections.specs.declared.sender.ReceiverDetails.{ReceiverDetails}
use Rattle.iox2_connections.proofs.LookUps.{look_up-found, look_up-nothing}
use Rattle.iox2_connections.specs.Leaves.{holds_slots, left_link}
use Rattle.iox2_domain.specs.Ports.{PublisherFields, SubscriberFields}
use Rattle.iox2_domain.specs.Kept.{KeptMessage, state_of}
use Rattle.iox2_domain.specs.Fields.{Fields, kept_of, message_in, contents_at, is_book_of}
use Rattle.iox2_domain.specs.Shows.{KeepsEntries}
use Rattle.iox2_domain.specs.Invariant.{IsLinked, HasExpiredRoom, NamesBooks, HasBooks, IsCounted, IsNumbered}
use Rattle.iox2_domain.specs.Invariant.{HasNumber, HasBook, HasShapes, SenderHas, ReceiverHas, IsPlain, is_publisher}
use Rattle.iox2_domain.specs.Invariant.{is_subscriber, own_holders, holders_of, is_loan_in, details_of}
use Rattle.iox2_domain.specs.Invariant.{connection_count, IsBookOf, IsDomain, IsDomainBut, IsGone, IsOwned, IsLeft}
use Rattle.iox2_domain.specs.Invariant.{IsBetweenOpen, HasParts}
use Rattle.iox2_domain.proofs.lemmas.containers.LookUps.{map-at, viewed, look_up-removed}
use Rattle.iox2_domain.proofs.lemmas.fields.NamedBooks.{names-books}
use Rattle.iox2_domain.proofs.lemmas.fields.Standing.{some_is, one-publisher}
use Rattle.iox2_domain.proofs.lemmas.slots.BookChanges.{with_book, book-after, KeepsSlots, book-here, book-others}
use Rattle.iox2_domain.proofs.lemmas.slots.BookChanges.{book-was, holders-here, other-book, books-changed}
use Rattle.iox2_domain.proofs.lemmas.slots.LoneLoans.{lone-counters}
use Rattle.iox2_domain.proofs.lemmas.slots.OpenLoans.{open-published, open-rebooked}
use Rattle.iox2_domain.proofs.lemmas.slots.Messages.{message_in-parts, message_in-from, lies_at, message_at-book}
use Rattle.iox2_domain.proofs.lemmas.slots.Messages.{message_at-slot}
use Rattle.iox2_domain.specs.Closes.{LeavesConnections, left_subscriber, is_awaited}
use Rattle.iox2_steps.proofs.closes.LeftConnections.{only-fewer, left-was, left-before, left-others, left-apart}
use Rattle.iox2_steps.proofs.closes.LeftConnections.{left-sums, left-receivers}
use Rattle.iox2_steps.proofs.closes.LeftKeys.{set-none, keys_left-was, keys_left-still, held-joined, key-leads}
use Rattle.iox2_steps.proofs.closes.LeftKeys.{expired-still}
use Rattle.iox2_steps.proofs.closes.LoansLeft.{left-counters, left-fewer, left-loans, LeavesSlots}
use Rattle.iox2_domain.proofs.lemmas.fields.ConnectionEnds.{publisher-stands}
use Rattle.iox2_domain.proofs.lemmas.fields.LostConnections.{fewer-connections}
use Rattle.iox2_domain.proofs.lemmas.slots.PublisherBooks.{book-own}
use Rattle.iox2_domain.specs.OpenMarks.{IsUnmarkedSender}

-- The fields after the publisher with this book left the place i, with these connections and these counters.
abbrev pub left_fields : {T U : Type 0} → Fields T U → (i key : ℕ) → Book → (holders : List ℕ) → Slab Link → Fields T U
left_fields f i key b holders connections = record f {
  publishers = slice_set f.publishers i None;
  subscribers = map (option_map (left_subscriber connections i)) f.subscribers;
  connections = connections;
  books = with_value f.books key (with_counters b holders);
}

module _ {T U : Type 0} (f : Fields T U) (sound : IsDomain f) (i : ℕ) (x : PublisherFields)
    (here : get_or f.publishers i None ≡ Some x)
    (b : Book) (at : get f.books x.book ≡ Some b) (new : Slab Link)
    (left : LeavesConnections x.id f.subscribers f.connections new) (holders : List ℕ)
    (slots : LeavesSlots x b.holders f.connections.slots holders new.slots) where
  -- the fields after the publisher left
  abbrev pub after : Fields T U
  after = left_fields f i x.book b holders new

  abbrev pub counted_book : Book
  counted_book = with_counters b holders

  pub keeps_slots : KeepsSlots b counted_book
  keeps_slots = record { publisher = refl; node = refl; numbers = refl; slots = slots.slots }

  -- ---- publishers

  -- who stands there is another publisher, and stood there before
  pub publisher-was : (k : ℕ) (y : PublisherFields) → get_or after.publishers k None ≡ Some y
      → (k ≢ i) × (get_or f.publishers k None ≡ Some y) × (y.id ≢ x.id)
  publisher-was k y at_y = elim (cases_eq k i) [
    | inl same ↦ absurd (let no : None ≡ Some y = sym (set-none f.publishers i)
        ∙ ap (λ (n : ℕ). get_or after.publishers n None) (sym same) ∙ at_y in cc)
    | inr away ↦
        let stood : get_or f.publishers k None ≡ Some y =
        sym (get_or-set_other f.publishers i k None None away) ∙ at_y in
        (away, stood, λ same. away (one-publisher f sound.parts k i y x stood here same))
  ]

  -- another publisher still stands
  pub publisher-still : (k : ℕ) (y : PublisherFields) → get_or f.publishers k None ≡ Some y → y.id ≢ x.id
      → get_or after.publishers k None ≡ Some y
  publisher-still k y at_y differs = elim (cases_eq k i) [
    | inl same ↦
        let is : Some y ≡ Some x = sym at_y ∙ ap (λ (n : ℕ). get_or f.publishers n None) same ∙ here in
        let one : y ≡ x = cc in
        absurd (differs (ap (λ (z : PublisherFields). z.id) one))
    | inr away ↦ get_or-set_other f.publishers i k None None away ∙ at_y
  ]

  pub publishers-apart : (p : ℕ) → IsOnly (is_publisher p) after.publishers
  publishers-apart p = only-fewer (is_publisher p) f.publishers after.publishers
      (λ k y at_y. (y, (publisher-was k y at_y).1, refl)) (sound.parts.publisher_ids p)

  -- nobody has its id
  pub publisher-gone : look_up (is_publisher x.id) after.publishers ≡ None
  publisher-gone =
      look_up-nothing (is_publisher x.id) after.publishers (λ k y at_y. ne_eqb y.id x.id (publisher-was k y at_y).2)

  -- ---- subscribers

  -- who stands there stood there before
  pub subscriber-was : (k : ℕ) (y : SubscriberFields) → get_or after.subscribers k None ≡ Some y
      → (z : SubscriberFields) × (get_or f.subscribers k None ≡ Some z) × (y ≡ left_subscriber new i z)
  subscriber-was k y at_y = viewed (left_subscriber new i) f.subscribers k y at_y

  subscriber-still : (k : ℕ) (y : SubscriberFields) → get_or f.subscribers k None ≡ Some y
      → get_or after.subscribers k None ≡ Some (left_subscriber new i y)
  subscriber-still k y at_y =
      map-at (left_subscriber new i) f.subscribers k ∙ ap (option_map (left_subscriber new i)) at_y

  pub subscribers-apart : (q : ℕ) → IsOnly (is_subscriber q) after.subscribers
  subscribers-apart q = only-fewer (is_subscriber q) f.subscribers after.subscribers
      (λ k y at_y. let was = subscriber-was k y at_y in (was.0, was.1, ap (is_subscriber q) (sym was.2)))
      (sound.parts.subscriber_ids q)

  -- ---- ports and connections

  before : (key : ℕ) (d : Link) → get new key ≡ Some d
      → (c : Link) × (get f.connections key ≡ Some c) × (fixed_of c ≡ fixed_of d)
  before key d at_d = left-before x.id f.subscribers f.connections new left key d at_d

  others : (key : ℕ) (c : Link) → get f.connections key ≡ Some c → c.home.publisher ≢ x.id → get new key ≡ Some c
  others key c at_c away = left-others x.id f.subscribers f.connections new left key c at_c away

  -- a connection of the subscriber is one still
  receivers-still : (q key : ℕ) (d : Link) → get new key ≡ Some d
      → IsSomeAnd (get f.connections key) (IsReceivers q (f.config).subscriber_max_borrowed_samples)
      → IsSomeAnd (get new key) (IsReceivers q (f.config).subscriber_max_borrowed_samples)
  receivers-still q key d at_d h =
      let was = before key d at_d in
      let own : IsReceivers q (f.config).subscriber_max_borrowed_samples was.0 =
      subst (λ o. IsSomeAnd o (IsReceivers q (f.config).subscriber_max_borrowed_samples)) was.1 h in
      subst (λ o. IsSomeAnd o (IsReceivers q (f.config).subscriber_max_borrowed_samples)) (sym at_d) (record {
        subscriber = sym (ap (λ (t : Home × ℕ × ℕ × Bool × List Channel). t.0.subscriber) was.2) ∙ own.subscriber;
        limit = sym (ap (λ (t : Home × ℕ × ℕ × Bool × List Channel). t.2) was.2) ∙ own.limit;
      })

  -- another publisher that has a connection has it still
  sender-still : (key : ℕ) (c : Link) → c.home.publisher ≢ x.id → SenderHas f.publishers key c
      → SenderHas after.publishers key c
  sender-still key c away has = record {
    publisher = has.publisher;
    stands = publisher-still c.home.publisher_place has.publisher has.stands (λ same. away (sym has.is_its ∙ same));
    is_its = has.is_its;
    has = has.has;
  }

  -- a subscriber that has a connection that is left has it still
  receiver-still : (key : ℕ) (c d : Link) → get new key ≡ Some d → fixed_of c ≡ fixed_of d
      → ReceiverHas f.subscribers key c → ReceiverHas after.subscribers key d
  receiver-still key c d at_d fixed has =
      let home : c.home ≡ d.home = ap (λ (t : Home × ℕ × ℕ × Bool × List Channel). t.0) fixed in
      subst (λ (h : Home). ReceiverHas after.subscribers key (record d { home = h })) home (record {
        subscriber = left_subscriber new i has.subscriber;
        stands = subscriber-still c.home.subscriber_place has.subscriber has.stands;
        is_its = has.is_its;
        has = by has.has;
      })
    where
      by : (get_or (has.subscriber).keys c.home.publisher_place None ≡ Some key) ⊎ Contains (has.subscriber).expired key
          → (get_or (left_subscriber new i has.subscriber).keys c.home.publisher_place None ≡ Some key)
          ⊎ Contains (has.subscriber).expired key
      by (inl there) = inl (keys_left-still new i (has.subscriber).keys c.home.publisher_place key d there at_d)
      by (inr among) = inr among

  linked : IsUnmarkedSender f.connections i → IsLinked after
  linked unmarked = record {
    senders = λ k y at_y. record {
      at = λ place key at_key.
          let was = publisher-was k y at_y in
          let own = some_is (IsSenders y.id place) (get f.connections key)
          ((sound.parts.linked.senders k y was.1).at place key at_key) in
          subst (λ o. IsSomeAnd o (IsSenders y.id place))
          (sym (others key own.0 own.1 (λ same. was.2 (sym own.2.publisher ∙ same)))) own.2;
    };
    receivers = λ k y at_y. let was = subscriber-was k y at_y in
        subst (λ (z : SubscriberFields). IsReceiverLinked z.id (f.config).subscriber_max_borrowed_samples new z.keys)
        (sym was.2) (receivers-of k was.0 was.1);
    expired = λ k y at_y. let was = subscriber-was k y at_y in
        subst (λ (z : SubscriberFields). IsReceiverLinked z.id (f.config).subscriber_max_borrowed_samples new
        (map Some z.expired)) (sym was.2) (expired-of k was.0 was.1);
    ends = λ key d at_d. ends-of key d at_d (left-was x.id f.subscribers f.connections new left key d at_d);
    receiver_places = λ k place key y d at_y at_key at_d.
        let was = subscriber-was k y at_y in
        let then = before key d at_d in
        let had : get_or (was.0).keys place None ≡ Some key =
        keys_left-was new i (was.0).keys place key
        (ap (λ (z : SubscriberFields). get_or z.keys place None) (sym was.2) ∙ at_key) in
        sym (ap (λ (t : Home × ℕ × ℕ × Bool × List Channel). t.0.publisher_place) then.2)
        ∙ sound.parts.linked.receiver_places k place key was.0 then.0 was.1 had then.1;
    knows = record {
      at = λ key k d r at_d at_r same.
          knows-of key k d r at_d (viewed details_of after.subscribers k r at_r) same;
    };
    knows_publishers = λ key k d y at_d at_y same.
        let then = before key d at_d in
        sound.parts.linked.knows_publishers key k then.0 y then.1 (publisher-was k y at_y).1
        (same ∙ sym (ap (λ (t : Home × ℕ × ℕ × Bool × List Channel). t.0.publisher) then.2))
        ∙ ap (λ (t : Home × ℕ × ℕ × Bool × List Channel). t.0.publisher_place) then.2;
    sender_rooms = λ key k d y at_d at_y same.
        let then = before key d at_d in
        subst (λ (n : ℕ). n < y.key_room) (ap (λ (t : Home × ℕ × ℕ × Bool × List Channel). t.0.subscriber_place) then.2)
        (sound.parts.linked.sender_rooms key k then.0 y then.1 (publisher-was k y at_y).1
        (same ∙ sym (ap (λ (t : Home × ℕ × ℕ × Bool × List Channel). t.0.publisher) then.2)));
    receiver_rooms = λ key k d y at_d at_y same.
        let then = before key d at_d in
        let was = subscriber-was k y at_y in
        subst (λ (z : SubscriberFields). d.home.publisher_place < z.key_room) (sym was.2)
        (subst (λ (n : ℕ). n < (was.0).key_room)
        (ap (λ (t : Home × ℕ × ℕ × Bool × List Channel). t.0.publisher_place) then.2)
        (sound.parts.linked.receiver_rooms key k then.0 was.0 then.1 was.1
        (sym (ap (λ (z : SubscriberFields). z.id) was.2) ∙ same
        ∙ sym (ap (λ (t : Home × ℕ × ℕ × Bool × List Channel). t.0.subscriber) then.2))));
    limits = λ key d at_d. let then = before key d at_d in
        sym (ap (λ (t : Home × ℕ × ℕ × Bool × List Channel). t.2) then.2) ∙ sound.parts.linked.limits key then.0 then.1;
    channel_counts = λ key d at_d. let then = before key d at_d in
        sym (ap (λ (t : Home × ℕ × ℕ × Bool × List Channel). length t.4) then.2)
        ∙ sound.parts.linked.channel_counts key then.0 then.1;
    returned = λ key d at_d. returned-of key d (left-was x.id f.subscribers f.connections new left key d at_d);
    marked = λ key d at_d is. let then = before key d at_d in
        let both = sound.parts.linked.marked key then.0 then.1
        (ap (λ (t : Home × ℕ × ℕ × Bool × List Channel). t.3) then.2 ∙ is) in
        marked-of key d at_d then.0 then.1 then.2 both
        (unmarked.at key then.0 then.1 (ap (λ (t : Home × ℕ × ℕ × Bool × List Channel). t.3) then.2 ∙ is));
  } where
    receivers-of : (k : ℕ) (z : SubscriberFields) → get_or f.subscribers k None ≡ Some z
        → IsReceiverLinked z.id (f.config).subscriber_max_borrowed_samples new (left_subscriber new i z).keys
    receivers-of k z at_z = record {
      at = λ place key at_key.
          let leads = key-leads f sound i x here new left k place key z at_z at_key in
          receivers-still z.id key leads.0 leads.1
          ((sound.parts.linked.receivers k z at_z).at place key (keys_left-was new i z.keys place key at_key));
    }

    expired-of : (k : ℕ) (z : SubscriberFields) → get_or f.subscribers k None ≡ Some z
        → IsReceiverLinked z.id (f.config).subscriber_max_borrowed_samples new (map Some z.expired)
    expired-of k z at_z = record {
      at = λ place key at_key.
          let own = some_is (IsReceivers z.id (f.config).subscriber_max_borrowed_samples) (get f.connections key)
          ((sound.parts.linked.expired k z at_z).at place key at_key) in
          receivers-still z.id key own.0 (expired-still f sound i x here new left k place key z own.0 at_z at_key own.1)
          ((sound.parts.linked.expired k z at_z).at place key at_key);
    }

    ends-of : (key : ℕ) (d : Link) → get new key ≡ Some d
        → (c : Link) × (get f.connections key ≡ Some c)
        × (((c.home.publisher ≢ x.id) × (d ≡ c))
        ⊎ ((c.home.publisher ≡ x.id) × (d ≡ left_link (is_awaited f.subscribers key c) c) × (holds_slots d ≡ true)))
        → SenderHas after.publishers key d ⊎ ReceiverHas after.subscribers key d
    ends-of key d at_d was = elim was.2 [
      | inl other ↦ elim (sound.parts.linked.ends key was.0 was.1) [
        | inl has ↦ inl (subst (SenderHas after.publishers key) (sym other.1) (sender-still key was.0 other.0 has))
        | inr has ↦ inr (receiver-still key was.0 d at_d (ap fixed_of (sym other.1)) has)
      ]
      | inr mine ↦
          let joined = held-joined f sound i x here key was.0 was.1 mine.0 (sym (ap holds_slots mine.1) ∙ mine.2) in
          inr (receiver-still key was.0 d at_d (ap fixed_of (sym mine.1))
          (record { subscriber = joined.0; stands = joined.1; is_its = joined.2; has = inl joined.3 }))
    ]

    knows-of : (key k : ℕ) (d : Link) (r : ReceiverDetails) → get new key ≡ Some d
        → (y : SubscriberFields) × (get_or after.subscribers k None ≡ Some y) × (r ≡ details_of y)
        → r.port_id ≡ d.home.subscriber → (k ≡ d.home.subscriber_place) × (d.buffer ≡ r.buffer_size)
    knows-of key k d r at_d there same =
        let then = before key d at_d in
        let was = subscriber-was k there.0 there.1 in
        let known = sound.parts.linked.knows.at key k then.0 r then.1
        (map-at details_of f.subscribers k ∙ ap (option_map details_of) was.1
        ∙ ap Some (sym (there.2 ∙ ap details_of was.2)))
        (same ∙ sym (ap (λ (t : Home × ℕ × ℕ × Bool × List Channel). t.0.subscriber) then.2)) in (
          known.0 ∙ ap (λ (t : Home × ℕ × ℕ × Bool × List Channel). t.0.subscriber_place) then.2,
          sym (ap (λ (t : Home × ℕ × ℕ × Bool × List Channel). t.1) then.2) ∙ known.1,
        )

    -- a connection at another publisher's place is as open as it was
    marked-of : (key : ℕ) (d : Link) → get new key ≡ Some d → (c : Link) → get f.connections key ≡ Some c
        → fixed_of c ≡ fixed_of d → IsBetweenOpen f.publishers f.subscribers key c
        → c.home.publisher_place ≢ i → IsBetweenOpen after.publishers after.subscribers key d
    marked-of key d at_d c at_c fixed both away =
        let home : c.home ≡ d.home = ap (λ (t : Home × ℕ × ℕ × Bool × List Channel). t.0) fixed in
        subst (λ (h : Home). IsBetweenOpen after.publishers after.subscribers key (record d { home = h })) home
        (record {
          sender = record {
            publisher = both.sender.publisher;
            stands = get_or-set_other f.publishers i c.home.publisher_place None None away ∙ both.sender.stands;
            is_its = both.sender.is_its;
            has = both.sender.has;
          };
          receiver = record {
            subscriber = left_subscriber new i both.receiver.subscriber;
            stands = subscriber-still c.home.subscriber_place both.receiver.subscriber both.receiver.stands;
            is_its = both.receiver.is_its;
            is_open = both.receiver.is_open;
          };
        })

    returned-of : (key : ℕ) (d : Link)
        → (c : Link) × (get f.connections key ≡ Some c)
        × (((c.home.publisher ≢ x.id) × (d ≡ c))
        ⊎ ((c.home.publisher ≡ x.id) × (d ≡ left_link (is_awaited f.subscribers key c) c) × (holds_slots d ≡ true)))
        → SenderHas after.publishers key d ⊎ (d.returned ≡ [])
    returned-of key d was = elim was.2 [
      | inl other ↦ subst (λ (e : Link). SenderHas after.publishers key e ⊎ (e.returned ≡ [])) (sym other.1)
          (elim (sound.parts.linked.returned key was.0 was.1) [
            | inl has ↦ inl (sender-still key was.0 other.0 has)
            | inr none ↦ inr none
          ])
      | inr mine ↦ inr (ap (λ (e : Link). e.returned) mine.1)
    ]

  room : HasExpiredRoom after.subscribers new
  room = record {
    at = λ k y at_y.
        let was = subscriber-was k y at_y in
        let fewer =
        fewer-connections f.connections new (left-receivers x.id f.subscribers f.connections new left) (was.0).id in
        let enough = sound.parts.expired_room.at k was.0 was.1 in
        subst (λ (z : SubscriberFields). connection_count new z.id ≤ z.expired_room) (sym was.2)
        (omega (arith, fewer, enough));
  }

  -- ---- books

  -- the fields without the changed book
  abbrev pub between : Fields T U
  between = record f { publishers = after.publishers; subscribers = after.subscribers; connections = new }

  books-between : HasBooks between
  books-between = record {
    one_each = sound.parts.books.one_each;
    books = sound.parts.books.books;
    publishers = λ k y at_y. let has = sound.parts.books.publishers k y (publisher-was k y at_y).1 in
        record {
          book = has.book;
          stands = has.stands;
          is_its = has.is_its;
          node = has.node;
          slots = has.slots;
          room = has.room;
        };
    no_others = sound.parts.books.no_others;
  }

  aligned : IsAligned counted_book
  aligned =
      let old : IsAligned b = (sound.parts.books.books x.book b at).aligned in
      record {
        numbers = old.numbers ∙ sym slots.slots;
        headers = old.headers ∙ sym slots.slots;
        marks = old.marks ∙ sym slots.slots;
      }

  left-books : HasBooks after
  left-books =
      let has : HasBooks (with_book between x.book counted_book) =
      books-changed between x.book b counted_book at keeps_slots books-between aligned in
      record {
        one_each = has.one_each;
        books = has.books;
        publishers = λ k y at_y. its_of y (has.publishers k y at_y);
        no_others = has.no_others;
      }
    where
      its_of : (y : PublisherFields) → HasBook (with_book between x.book counted_book) y → HasBook after y
      its_of y has = record {
        book = has.book;
        stands = has.stands;
        is_its = has.is_its;
        node = has.node;
        slots = has.slots;
        room = has.room;
      }

  names : NamesBooks after.books new
  names = names-books f.books _ new (book-after between x.book b counted_book at keeps_slots) (record {
    at = λ key d at_d.
        let then = before key d at_d in
        subst (λ (h : Home). IsBookOf f.books h.publisher h.book)
        (ap (λ (t : Home × ℕ × ℕ × Bool × List Channel). t.0) then.2) (sound.parts.names.at key then.0 then.1);
  })

  fewer : (slot : ℕ) → holders_at counted_book slot ≤ holders_at b slot
  fewer slot = left-fewer f sound i x here b at new left holders slots slot

  -- a slot in use was so before, with its number
  pub number-back : (k slot n : ℕ) → HasNumber after.books k slot n → HasNumber f.books k slot n
  number-back k slot n has = elim (book-was between x.book b counted_book at keeps_slots k has.book has.stands) [
    | inl is ↦
        let some : 0 < holders_at counted_book slot = subst (λ (c : Book). 0 < holders_at c slot) is.1 has.in_use in
        record {
          book = b;
          stands = ap (get f.books) is.0 ∙ at;
          in_use = omega (arith, some, fewer slot);
          number = ap (λ (c : Book). get_or c.numbers slot 0) (sym is.1) ∙ has.number;
        }
    | inr away ↦ record { book = has.book; stands = away.1; in_use = has.in_use; number = has.number }
  ]

  pub numbered : IsNumbered after.next_message after.books
  numbered = record {
    one = λ k k' slot slot' n one two.
        sound.parts.numbered.one k k' slot slot' n (number-back k slot n one) (number-back k' slot' n two);
    below = λ k slot n has. sound.parts.numbered.below k slot n (number-back k slot n has);
  }

  -- a publisher that stands is plain
  pub plain : (k : ℕ) (y : PublisherFields) → get_or after.publishers k None ≡ Some y → IsPlain y
  plain k y at_y = sound.parts.plain k y (publisher-was k y at_y).1

  -- ---- counters

  abbrev own : (slot : ℕ) → Option PublisherFields → Option Book → ℕ
  own slot o book =
      option_map_or (λ (y : PublisherFields). times slot y.loans + times slot (y.history).items) o
      (option_map_or (λ c. cond (is_loan_in c slot) 1 0) book 0)

  pub counted : x.blocked ≡ None → IsCounted after
  counted free = record {
    at = λ q slot.
        elim (cases_eq q x.id) [ inl same ↦ rw same (its slot) | inr away ↦ of_others q slot away ];
  } where
    its : (slot : ℕ)
        → holders_of after.books x.id slot ≡ own_holders after x.id slot + sum_by (stands x.id slot) new.slots
    its slot =
        let now : holders_of after.books x.id slot ≡ holders_at counted_book slot =
        holders-here between x.book b counted_book at keeps_slots sound.parts.books.one_each x.id slot
        (book-own f sound.parts i x here b at) in
        let book : look_up (is_book_of x.id) after.books.slots ≡ Some counted_book =
        look_up-found (is_book_of x.id) after.books.slots x.book counted_book (left-books.one_each x.id)
        (book-here between x.book b counted_book at keeps_slots)
        (eq-eqb b.publisher x.id (book-own f sound.parts i x here b at)) in
        let mine : own_holders after x.id slot ≡ cond (is_loan_in counted_book slot) 1 0 =
        ap (λ o. own slot o (look_up (is_book_of x.id) after.books.slots)) publisher-gone ∙ ap (own slot None) book in
        omega (
          arith,
          now,
          mine,
          left-counters f sound i x here b at new left holders slots slot,
          left-loans f sound i x here b at new left holders slots free slot,
        )

    look_up-others : (q : ℕ) → q ≢ x.id
        → look_up (is_publisher q) after.publishers ≡ look_up (is_publisher q) f.publishers
    look_up-others q away = look_up-removed (is_publisher q) f.publishers after.publishers i x
        (sound.parts.publisher_ids q) (publishers-apart q) here (set-none f.publishers i)
        (λ k differs. get_or-set_other f.publishers i k None None differs)
        ∙ ap (λ t. cond t None (look_up (is_publisher q) f.publishers)) (ne_eqb x.id q (λ same. away (sym same)))

    of_others : (q slot : ℕ) → q ≢ x.id
        → holders_of after.books q slot ≡ own_holders after q slot + sum_by (stands q slot) new.slots
    of_others q slot away =
        let book : look_up (is_book_of q) after.books.slots ≡ look_up (is_book_of q) f.books.slots =
        other-book between x.book b counted_book at keeps_slots sound.parts.books.one_each q
        (ne_eqb b.publisher q (λ same. away (sym same ∙ book-own f sound.parts i x here b at))) in
        let now : holders_of after.books q slot ≡ holders_of f.books q slot =
        ap (λ o. option_map_or (λ (c : Book). holders_at c slot) o 0) book in
        let same : own_holders after q slot ≡ own_holders f q slot =
        ap (own slot (look_up (is_publisher q) after.publishers)) book
        ∙ ap (λ o. own slot o (look_up (is_book_of q) f.books.slots)) (look_up-others q away) in
        omega (
          arith,
          now,
          same,
          sound.parts.counted.at q slot,
          left-sums x.id f.subscribers f.connections new left q slot away,
        )

  -- ---- messages

  -- what lies in a slot lay there
  pub back : (k slot : ℕ) (m : KeptMessage T U) → lies_at after k slot ≡ Some m → lies_at f k slot ≡ Some m
  back k slot m e =
      let there = message_at-book f.contents after.books k slot m e in
      elim (book-was between x.book b counted_book at keeps_slots k there.0 there.1) [
        | inl is ↦ in-book k is.0 (ap (λ (c : Book). message_in c (contents_at f.contents k) slot) (sym is.1) ∙ there.2)
        | inr away ↦ message_at-slot f.contents f.books k slot there.0 away.1 ∙ there.2
      ]
    where
      in-book : (k : ℕ) → k ≡ x.book → message_in counted_book (contents_at f.contents k) slot ≡ Some m
          → lies_at f k slot ≡ Some m
      in-book k same lies =
          let parts = message_in-parts counted_book (contents_at f.contents k) slot m lies in
          let some = parts.in_use in
          message_at-slot f.contents f.books k slot b (ap (get f.books) same ∙ at)
          ∙ message_in-from b (contents_at f.contents k) slot m (record {
            header = parts.header;
            content = parts.content;
            mark = parts.mark;
            in_use = omega (arith, some, fewer slot);
            headers = parts.headers;
            contains = parts.contains;
            marks = parts.marks;
            is = parts.is;
          })

  -- what lay in a slot that is still in use lies there
  pub forth : (k slot n : ℕ) (m : KeptMessage T U) → HasNumber after.books k slot n → lies_at f k slot ≡ Some m
      → lies_at after k slot ≡ Some m
  forth k slot n m has e = elim (book-was between x.book b counted_book at keeps_slots k has.book has.stands) [
    | inl is ↦
        let stood : get f.books k ≡ Some b = ap (get f.books) is.0 ∙ at in
        let parts = message_in-parts b (contents_at f.contents k) slot m
        (sym (message_at-slot f.contents f.books k slot b stood) ∙ e) in
        message_at-slot f.contents after.books k slot counted_book (has.stands ∙ ap Some is.1)
        ∙ message_in-from counted_book (contents_at f.contents k) slot m (record {
          header = parts.header;
          content = parts.content;
          mark = parts.mark;
          in_use = subst (λ (c : Book). 0 < holders_at c slot) is.1 has.in_use;
          headers = parts.headers;
          contains = parts.contains;
          marks = parts.marks;
          is = parts.is;
        })
    | inr away ↦ message_at-slot f.contents after.books k slot has.book has.stands
        ∙ sym (message_at-slot f.contents f.books k slot has.book away.1) ∙ e
  ]

  shapes : HasShapes after
  shapes = record {
    at = λ k slot c m stands lies.
        let there = message_at-book f.contents f.books k slot m
        (back k slot m (message_at-slot f.contents after.books k slot c stands ∙ lies)) in
        sound.parts.shapes.at k slot there.0 m there.1 there.2;
  }

  -- ---- which books are kept

  gone : IsGone after.next_port after.publishers x.id
  gone = record {
    known = (sound.well_formed.publishers x.id _ (publisher-stands f sound.parts i x here)).is_known;
    absent = λ k y at_y. (publisher-was k y at_y).2;
  }

  kept : (k : ℕ) (c : Book) → k ≢ x.book → get after.books k ≡ Some c
      → IsOwned after.publishers k c.publisher ⊎ IsLeft after.next_port after.publishers c
  kept k c away at_c =
      by (sound.kept_books.at k c (sym (book-others between x.book b counted_book at keeps_slots k away) ∙ at_c)) where
        by : IsOwned f.publishers k c.publisher ⊎ IsLeft f.next_port f.publishers c
            → IsOwned after.publishers k c.publisher ⊎ IsLeft after.next_port after.publishers c
        by (inl its) = inl (record {
          place = its.place;
          publisher = its.publisher;
          stands = publisher-still its.place its.publisher its.stands (λ same.
              let place : its.place ≡ i =
              one-publisher f sound.parts its.place i its.publisher x its.stands here same in
              let is : Some its.publisher ≡ Some x =
              sym its.stands ∙ ap (λ (n : ℕ). get_or f.publishers n None) place ∙ here in
              let one : its.publisher ≡ x = cc in
              away (sym its.has ∙ ap (λ (z : PublisherFields). z.book) one));
          is_its = its.is_its;
          has = its.has;
        })
        by (inr its) =
            inr (
              record { known = its.0.known; absent = λ n y at_y. its.0.absent n y (publisher-was n y at_y).1 },
              its.1,
            )

  left_book : (c : Book) → get after.books x.book ≡ Some c → IsGone after.next_port after.publishers c.publisher
  left_book c at_c =
      let is : Some counted_book ≡ Some c = sym (book-here between x.book b counted_book at keeps_slots) ∙ at_c in
      let same : counted_book ≡ c = cc in
      subst (IsGone after.next_port after.publishers)
      (sym (book-own f sound.parts i x here b at) ∙ ap (λ (d : Book). d.publisher) same) gone

  -- ---- the whole

  -- the fields agree with one another
  pub leaver-parts : IsUnmarkedSender f.connections i → x.blocked ≡ None → HasParts after
  leaver-parts unmarked free = record {
    publisher_ids = publishers-apart;
    subscriber_ids = subscribers-apart;
    apart = left-apart x.id f.subscribers f.connections new left sound.parts.apart;
    linked = linked unmarked;
    expired_room = room;
    books = left-books;
    names = names;
    counted = counted free;
    numbered = numbered;
    publisher_room = λ k y at_y. sound.parts.publisher_room k y (publisher-was k y at_y).1;
    warning_room = sound.parts.warning_room;
    shapes = shapes;
    forms = sound.parts.forms;
    open_loans = open-rebooked after.publishers f.books f.contents x.book b counted_book at refl
        (open-published f.publishers after.publishers f.books f.contents
        (record { at = λ k y at_y. (k, y, (publisher-was k y at_y).1, refl, λ slot out. out, refl) })
        sound.parts.open_loans);
    plain = plain;
  }

  -- the fields agree, where what they keep does
  pub leaver-agrees : IsUnmarkedSender f.connections i → x.blocked ≡ None → IsWellFormed (state_of (kept_of after))
      → KeepsEntries (kept_of after) → IsDomainBut x.book after
  leaver-agrees unmarked free well entries = record {
    parts = leaver-parts unmarked free;
    lone = lone-counters f.books x.book b holders at sound.lone fewer;
    kept_books = kept;
    left_book = left_book;
    well_formed = well;
    entries = entries;
  }
