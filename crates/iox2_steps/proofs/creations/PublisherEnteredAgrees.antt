-- A domain's fields agree with a new publisher among them.
use Rattle.std.proofs.Common.{◌≡◌, ℕ, le_refl, zero, suc, ◌+◌, ◌<◌, ◌≤◌, ◌*◌, [], Bool, true, false, cond, eqb, get_or}
use Rattle.std.proofs.Common.{refl, ap, sym, subst, ◌∙◌, inl, inr, ◌⊎◌, arith, List, length, replicate}
use Rattle.std.proofs.lemmas.Bool.{cases_eq, eqb-true}
use Rattle.std.specs.List.{All, sum_by}
use Rattle.std.proofs.Math.Nat.{le-min, le-max_left}
use Rattle.std.proofs.lemmas.Option.{get_or_from_slice_get, slice_get_within}
use Rattle.std.specs.Prelude.{IsSomeAnd, min, max, slice_get}
use Rattle.std.specs.declared.option.Option.{Option}
use Rattle.std.specs.declared.option.Option.TheVariants.{None, Some}
use Rattle.std.specs.Option.{option_map_or, option_and_then}
use Rattle.slab.specs.Slab.{Slab, get}
use Rattle.iox2_connections.specs.Link.{Link}
use Rattle.iox2_machine.specs.machine.Limits.{worst_case}
use Rattle.iox2_machine.specs.declared.service_config.ServiceConfig.{ServiceConfig}
use Rattle.iox2_machine.specs.machine.Numbers.{contains, put_at}
use Rattle.iox2_machine.specs.machine.Places.{set_place}
use Rattle.iox2_machine.specs.machine.Records.{Publisher, PublisherSettings}
use Rattle.iox2_machine.specs.machine.State.{State}
use Rattle.iox2_machine.specs.machine.Ports.{new_publisher, slots_for}
use Rattle.iox2_slots.specs.SlotBook.{Book, holders_at}
use Rattle.iox2_contents.specs.SlotContents.{ContentState}
use Rattle.iox2_machine.specs.machine.WellFormed.{IsWellFormed}
use Rattle.iox2_connections.specs.LookUp.{look_up}
use Rattle.iox2_connections.specs.Counters.{times, stands}
use Rattle.iox2_connections.specs.Homes.{IsSenderLinked}
use Rattle.iox2_domain.specs.Ports.{PublisherFields, slot_length}
use Rattle.iox2_domain.specs.Kept.{state_of, entries_of, entry_in, KeptMessage}
use Rattle.iox2_domain.specs.Fields.{Fields, kept_of, is_book_of, message_in, contents_at}
use Rattle.iox2_domain.specs.Invariant.{IsDomain, IsBook, IsLinked, HasBook, HasBooks, KeepsBooks, HasShape, IsCounted}
use Rattle.iox2_domain.specs.Invariant.{SenderHas, ReceiverHas, HasPublisherRoom, HasRoomFrom, is_publisher, is_loan_in}
use Rattle.iox2_domain.specs.Invariant.{holders_of, own_holders, HasOpenLoans, cell_count, cell_lists}
use Rattle.iox2_domain.specs.Placed.{placed}
use Rattle.iox2_domain.specs.KeptPlaces.{KeepsPlaces}
use Rattle.iox2_machine.specs.Stored.{IsHeldMessage, In_history, In_mailbox, In_blocked_send}
use Rattle.iox2_domain.proofs.lemmas.fields.KeptBooks.{StoodOrEnters, kept-publishers}
use Rattle.iox2_domain.proofs.lemmas.fields.NamedBooks.{names-books}
use Rattle.iox2_domain.proofs.lemmas.containers.Placed.{placed-here}
use Rattle.iox2_domain.proofs.lemmas.slots.NewBook.{sender_before, no_book, books-apart, book-found, unheld, was_book}
use Rattle.iox2_domain.proofs.lemmas.slots.NewBook.{away_from, still_book, nothing_in, contents-same, messages-same}
use Rattle.iox2_domain.proofs.lemmas.slots.NewBook.{new-places, numbered-still, lone-still}
use Rattle.iox2_domain.proofs.lemmas.slots.SlotCells.{cells_if, cells_in, cells-read}
use Rattle.iox2_steps.proofs.creations.PublisherEntered.{PublisherEnters, newcomer, with_entered_publisher, ids_apart}
use Rattle.iox2_steps.proofs.creations.PublisherEntered.{stood, still, publisher-found, entered-is}
use Rattle.iox2_steps.proofs.creations.SubscriberEnteredAgrees.{nothing_at}

length-replicate : (n : ℕ) → length (replicate {A = ℕ} n 0) ≡ n
length-replicate zero = refl
length-replicate (suc n) = ap suc (length-replicate n)

-- a publisher that may have a loan has a slot
some-slot : (c : ServiceConfig) (given : PublisherSettings) → 0 < given.max_loaned_samples → 0 < slots_for c given
some-slot c given some = by given.asked_slots where
  worst : 0 < worst_case c given.max_loaned_samples
  worst = omega (arith, some)

  by : (o : Option ℕ) → 0 < option_map_or (λ asked. min (worst_case c given.max_loaned_samples) (max 1 asked)) o
      (worst_case c given.max_loaned_samples)
  by None = worst
  by (Some asked) = le-min worst (le-max_left 1 asked)

module _ {T U : Type 0} (f : Fields T U) (place : ℕ) (given : PublisherSettings) (loan_room key_room key : ℕ)
    (books : Slab Book) (contents : List (Option (List (ContentState T U))))
    (enters : PublisherEnters f place given loan_room key_room key books contents) where
  abbrev new : PublisherFields
  new = newcomer f place given loan_room key_room key books contents enters

  abbrev after : Fields T U
  after = with_entered_publisher f place given loan_room key_room key books contents enters

  abbrev slots : ℕ
  slots = slots_for f.config given

  abbrev units : ℕ
  units = (f.config).units_per_element

  abbrev needed : ℕ
  needed = slot_length given.initial_max_slice_len * units

  was : (i : ℕ) (x : PublisherFields) → get_or (placed f.publishers place new) i None ≡ Some x
      → ((i ≡ place) × (x ≡ new)) ⊎ (get_or f.publishers i None ≡ Some x)
  was i x at = stood f place given loan_room key_room key books contents enters i x at

  stands_still : (i : ℕ) (x : PublisherFields) → get_or f.publishers i None ≡ Some x
      → get_or (placed f.publishers place new) i None ≡ Some x
  stands_still i x at = still f place given loan_room key_room key books contents enters i x at

  -- a new publisher has no connection
  unlinked : (p : ℕ) → IsSenderLinked p f.connections []
  unlinked p = record { at = λ i k at. absurd (nothing_at i k at) }

  -- nor has a connection that was there that publisher
  not-new : (k : ℕ) (c : Link) (x : PublisherFields) → get f.connections k ≡ Some c → x ≡ new → x.id ≡ c.home.publisher
      → ⊥
  not-new k c x at_c is same =
      let next : x.id ≡ f.next_port = ap (λ (z : PublisherFields). z.id) is in
      let low : c.home.publisher < f.next_port =
      sender_before f enters.sound slots needed key books contents enters.book k c at_c in
      omega arith

  linked : IsLinked after
  linked = record {
    senders = λ i x at. elim (was i x at)
        [ inl e ↦ rw e.1 (unlinked f.next_port) | inr old ↦ enters.sound.parts.linked.senders i x old ];
    receivers = enters.sound.parts.linked.receivers;
    expired = enters.sound.parts.linked.expired;
    ends = λ k c at. by k c (enters.sound.parts.linked.ends k c at);
    receiver_places = enters.sound.parts.linked.receiver_places;
    knows = enters.sound.parts.linked.knows;
    knows_publishers = λ k i c x at_c at_x same. elim (was i x at_x) [
      | inl e ↦ absurd (not-new k c x at_c e.1 same)
      | inr old ↦ enters.sound.parts.linked.knows_publishers k i c x at_c old same
    ];
    sender_rooms = λ k i c x at_c at_x same. elim (was i x at_x) [
      | inl e ↦ absurd (not-new k c x at_c e.1 same)
      | inr old ↦ enters.sound.parts.linked.sender_rooms k i c x at_c old same
    ];
    receiver_rooms = enters.sound.parts.linked.receiver_rooms;
    limits = enters.sound.parts.linked.limits;
    channel_counts = enters.sound.parts.linked.channel_counts;
    returned = λ k c at. reclaims k c (enters.sound.parts.linked.returned k c at);
    marked = λ k c at is. let both = enters.sound.parts.linked.marked k c at is in
        record { sender = sender k c both.sender; receiver = both.receiver };
  } where
    sender : (k : ℕ) (c : Link) → SenderHas f.publishers k c → SenderHas (placed f.publishers place new) k c
    sender k c has = record {
      publisher = has.publisher;
      stands = stands_still c.home.publisher_place has.publisher has.stands;
      is_its = has.is_its;
      has = has.has;
    }

    by : (k : ℕ) (c : Link) → SenderHas f.publishers k c ⊎ ReceiverHas f.subscribers k c
        → SenderHas (placed f.publishers place new) k c ⊎ ReceiverHas f.subscribers k c
    by k c (inl has) = inl (sender k c has)
    by k c (inr has) = inr has

    reclaims : (k : ℕ) (c : Link) → SenderHas f.publishers k c ⊎ (c.returned ≡ [])
        → SenderHas (placed f.publishers place new) k c ⊎ (c.returned ≡ [])
    reclaims k c (inl has) = inl (sender k c has)
    reclaims k c (inr none) = inr none

  -- the new publisher has its book
  its_book : HasBook after new
  its_book = record {
    book = enters.book.book;
    stands = enters.book.updates.changed;
    is_its = enters.book.is_its;
    node = enters.book.names_node;
    slots = let e : length (enters.book.book).holders ≡ slots = ap length enters.book.unused ∙ length-replicate slots in
        omega (arith, e);
    room = rw enters.book.contents_here (record {
      at = λ slot content from there.
          subst (λ (c : ContentState T U). needed ≤ c.room)
          (get_or_from_slice_get enters.book.slot_contents slot content content there)
          (enters.book.has_room slot content (slice_get_within enters.book.slot_contents slot content there));
    });
  }

  has_books : HasBooks after
  has_books = record {
    one_each = books-apart f enters.sound slots needed key books contents enters.book;
    books = λ k b at. elim (was_book f enters.sound slots needed key books contents enters.book k b at) [
      | inl e ↦ subst (λ (b : Book). IsBook b (get_or contents k None)) (sym e.1)
          (subst (λ (j : ℕ). IsBook enters.book.book (get_or contents j None)) (sym e.0) own)
      | inr old ↦
          subst (IsBook b) (sym (enters.book.contents_others k old.0)) (enters.sound.parts.books.books k b old.1)
    ];
    publishers = λ i x at. elim (was i x at) [
      | inl e ↦ subst (HasBook after) (sym e.1) its_book
      | inr old ↦ kept x (enters.sound.parts.books.publishers i x old)
    ];
    no_others = λ k none. elim (cases_eq k key) [
      | inl here ↦ absurd
          (let no : None ≡ Some enters.book.book = sym none ∙ ap (get books) here ∙ enters.book.updates.changed in cc)
      | inr away ↦ enters.book.contents_others k away
          ∙ enters.sound.parts.books.no_others k (sym (enters.book.updates.others k away) ∙ none)
    ];
  } where
    own : IsBook enters.book.book (get_or contents key None)
    own = record {
      aligned = enters.book.aligned;
      shaped = rw enters.book.contents_here
          (enters.book.contents_length ∙ sym (ap length enters.book.unused ∙ length-replicate slots));
    }

    kept : (x : PublisherFields) → HasBook f x → HasBook after x
    kept x has = record {
      book = has.book;
      stands = still_book f enters.sound slots needed key books contents enters.book x.book has.book has.stands;
      is_its = has.is_its;
      node = has.node;
      slots = has.slots;
      room = subst (λ (o : Option (List (ContentState T U))).
          IsSomeAnd o (HasRoomFrom x.segment_start (slot_length x.segment_length * units)))
          (sym (enters.book.contents_others x.book
          (away_from f enters.sound slots needed key books contents enters.book x.book has.book has.stands))) has.room;
    }

  counted : IsCounted after
  counted = record {
    at = λ p slot.
        ap (λ o. option_map_or (λ b. holders_at b slot) o 0)
        (book-found f enters.sound slots needed key books contents enters.book p)
        ∙ by p slot (eqb f.next_port p) refl
        ∙ ap (λ n. n + sum_by (stands p slot) f.connections.slots) (sym (owns p slot));
  } where
    -- what a publisher has of a slot, or what is out of one that is gone
    own : (slot : ℕ) → Option PublisherFields → Option Book → ℕ
    own slot o b = option_map_or (λ (x : PublisherFields). times slot x.loans + times slot (x.history).items) o
        (option_map_or (λ b. cond (is_loan_in b slot) 1 0) b 0)

    owns : (p slot : ℕ) → own_holders after p slot
        ≡ own slot (cond (eqb f.next_port p) (Some new) (look_up (is_publisher p) f.publishers))
        (cond (eqb f.next_port p) (Some enters.book.book) (look_up (is_book_of p) f.books.slots))
    owns p slot =
        ap (λ o. own slot o (look_up (is_book_of p) books.slots))
        (publisher-found f place given loan_room key_room key books contents enters p)
        ∙ ap (own slot (cond (eqb f.next_port p) (Some new) (look_up (is_publisher p) f.publishers)))
        (book-found f enters.sound slots needed key books contents enters.book p)

    by : (p slot : ℕ) (b : Bool) → eqb f.next_port p ≡ b
        → option_map_or (λ b. holders_at b slot)
        (cond b (Some enters.book.book) (look_up (is_book_of p) f.books.slots)) 0
        ≡ own slot (cond b (Some new) (look_up (is_publisher p) f.publishers))
        (cond b (Some enters.book.book) (look_up (is_book_of p) f.books.slots))
        + sum_by (stands p slot) f.connections.slots
    by p slot true e =
        let here : f.next_port ≡ p = eqb-true f.next_port p e in
        let no_other : look_up (is_book_of p) f.books.slots ≡ None =
        subst (λ (r : ℕ). look_up (is_book_of r) f.books.slots ≡ None) here
        (no_book f enters.sound slots needed key books contents enters.book) in
        let none : holders_of f.books p slot ≡ 0 = ap (λ o. option_map_or (λ b. holders_at b slot) o 0) no_other in
        let old : holders_of f.books p slot ≡ own_holders f p slot + sum_by (stands p slot) f.connections.slots =
        enters.sound.parts.counted.at p slot in
        let mine : holders_at enters.book.book slot ≡ 0 =
        unheld f enters.sound slots needed key books contents enters.book slot in
        omega arith
    by p slot false e = enters.sound.parts.counted.at p slot

  -- what lies in slots lay there before
  shaped : (k slot : ℕ) (b : Book) (m : KeptMessage T U) → get books k ≡ Some b
      → message_in b (contents_at contents k) slot ≡ Some m → HasShape f.config m
  shaped k slot b m at lies = elim (was_book f enters.sound slots needed key books contents enters.book k b at) [
    | inl e ↦
        let none : None ≡ Some m =
        sym (nothing_in f enters.sound slots needed key books contents enters.book (contents_at contents k) slot)
        ∙ ap (λ (b : Book). message_in b (contents_at contents k) slot) (sym e.1) ∙ lies in absurd cc
    | inr old ↦ enters.sound.parts.shapes.at k slot b m old.1
        (ap (λ cs. message_in b cs slot)
        (sym (contents-same f enters.sound slots needed key books contents enters.book k old.0)) ∙ lies)
  ]

  -- each book is somebody's, or left
  kept_books : KeepsBooks after.next_port after.publishers books
  kept_books = record {
    at = λ k b at. elim (was_book f enters.sound slots needed key books contents enters.book k b at) [
      | inl e ↦ inl (record {
        place = place;
        publisher = new;
        stands = placed-here new f.publishers place;
        is_its = sym (ap (λ (b : Book). b.publisher) e.1 ∙ enters.book.is_its);
        has = sym e.0;
      })
      | inr old ↦ (kept-publishers f.next_port after.next_port f.publishers after.publishers (omega arith)
          (λ i x there. (x, stands_still i x there, refl, refl)) entered f.books enters.sound.kept_books).at k b old.1
    ];
  } where
    entered : StoodOrEnters f.next_port f.publishers after.publishers
    entered i y there = elim (was i y there) [
      | inl e ↦ inr (let next : y.id ≡ f.next_port = ap (λ (z : PublisherFields). z.id) e.1 in omega arith)
      | inr old ↦ inl (y, old, refl)
    ]

  -- what the new publisher's id has of messages nobody held before, for it has none
  held_by : (p : ℕ) (y : Publisher) (b : Bool)
      → cond b (Some (new_publisher (state_of (kept_of f)) given place)) ((state_of (kept_of f)).publishers p) ≡ Some y
      → (y ≡ new_publisher (state_of (kept_of f)) given place) ⊎ ((state_of (kept_of f)).publishers p ≡ Some y)
  held_by p y true e = inl cc
  held_by p y false e = inr e

  -- the machine's state with the new publisher
  abbrev s' : State T U
  s' = record (state_of (kept_of f)) {
    next_port = f.next_port + 1;
    publishers =
        put_at (state_of (kept_of f)).publishers f.next_port (Some (new_publisher (state_of (kept_of f)) given place));
    publisher_places = set_place (state_of (kept_of f)).publisher_places place (Some f.next_port);
  }

  -- who holds a message held it before
  pub held_still : (p n : ℕ) → IsHeldMessage (state_of (kept_of after)) p n → IsHeldMessage (state_of (kept_of f)) p n
  held_still p n held = by (subst (λ (s : State T U). IsHeldMessage s p n)
      (entered-is f place given loan_room key_room key books contents enters) held) where
        by : IsHeldMessage s' p n → IsHeldMessage (state_of (kept_of f)) p n
        by (In_history y at is) = elim (held_by p y (eqb p f.next_port) at) [
          | inl e ↦ absurd (let no : false ≡ true = sym (ap (λ (z : Publisher). contains z.history n) e) ∙ is in cc)
          | inr old ↦ In_history y old is
        ]
        by (In_mailbox q is) = In_mailbox q is
        by (In_blocked_send y b at blocked is) = elim (held_by p y (eqb p f.next_port) at) [
          | inl e ↦ absurd (let no : None ≡ Some b = sym (ap (λ (z : Publisher). z.blocked) e) ∙ blocked in cc)
          | inr old ↦ In_blocked_send y b old blocked is
        ]

  -- the entries are the same
  pub entries_same : (n : ℕ) → entries_of (kept_of after) n ≡ entries_of (kept_of f) n
  entries_same n =
      ap (option_and_then entry_in) (messages-same f enters.sound slots needed key books contents enters.book n)

  -- and each message lies where it lay
  pub entered-places : KeepsPlaces f after
  entered-places = new-places f enters.sound slots needed key books contents enters.book

  -- the new publisher's slots have no cells
  no-cells : (slot : ℕ) → cell_count contents key slot ≡ 0
  no-cells slot = by (slice_get enters.book.slot_contents slot) refl where
    read : cell_count contents key slot ≡ cells_if (slice_get enters.book.slot_contents slot)
    read = cells-read contents key slot (Some enters.book.slot_contents) enters.book.contents_here

    by : (o : Option (ContentState T U)) → slice_get enters.book.slot_contents slot ≡ o
        → cell_count contents key slot ≡ 0
    by None none = read ∙ ap cells_if none
    by (Some content) there =
        let closed : (get_or enters.book.slot_contents slot content).cells ≡ [] =
        enters.book.closed slot content (slice_get_within enters.book.slot_contents slot content there) in
        let is : get_or enters.book.slot_contents slot content ≡ content =
        get_or_from_slice_get enters.book.slot_contents slot content content there in
        read ∙ ap cells_if there ∙ ap (λ (c : ContentState T U). length c.cells) (sym is)
        ∙ ap (length {A = Option T}) closed

  open_loans : HasOpenLoans f.config (placed f.publishers place new) books contents
  open_loans = record {
    at = λ i slot x at some. elim (was i x at) [
      | inl e ↦ absurd (let none : cell_count contents x.book slot ≡ 0 = ap
          (λ (z : PublisherFields). cell_count contents z.book slot) e.1 ∙ no-cells slot in omega arith)
      | inr old ↦
          let has = enters.sound.parts.books.publishers i x old in
          let away = away_from f enters.sound slots needed key books contents enters.book x.book has.book has.stands in
          let loan = enters.sound.parts.open_loans.at i slot x old
          (subst (λ (o : Option (List (ContentState T U))). 0 < cells_in o slot)
          (enters.book.contents_others x.book away) some) in
          record {
            out = loan.out;
            unwritten = ap (option_and_then (λ (b : Book). slice_get b.marks slot))
                (enters.book.updates.others x.book away) ∙ loan.unwritten;
          }
    ];
    lists = λ i x cs at has. elim (was i x at) [
      | inl e ↦
          let there : Some enters.book.slot_contents ≡ Some cs = sym enters.book.contents_here
          ∙ ap (λ (z : PublisherFields). get_or contents z.book None) (sym e.1) ∙ has in
          let is : enters.book.slot_contents ≡ cs = cc in
          subst (λ (z : PublisherFields). All (λ content. content.lists ≡ cell_lists f.config z.max_loaned_samples) cs)
          (sym e.1)
          (subst (All (λ (content : ContentState T U). content.lists ≡ cell_lists f.config given.max_loaned_samples)) is
          enters.lists)
      | inr old ↦
          let its = enters.sound.parts.books.publishers i x old in
          let away = away_from f enters.sound slots needed key books contents enters.book x.book its.book its.stands in
          enters.sound.parts.open_loans.lists i x cs old (sym (enters.book.contents_others x.book away) ∙ has)
    ];
  }

  -- the invariant is kept
  pub entered-agrees : HasPublisherRoom f.config new → place ≤ length f.publishers
      → IsWellFormed (state_of (kept_of after)) → IsDomain after
  entered-agrees rooms low well = record {
    parts = record {
      publisher_ids = ids_apart f place given loan_room key_room key books contents enters;
      subscriber_ids = enters.sound.parts.subscriber_ids;
      apart = enters.sound.parts.apart;
      linked = linked;
      expired_room = enters.sound.parts.expired_room;
      books = has_books;
      names = names-books f.books books f.connections
          (λ k b at. (b, still_book f enters.sound slots needed key books contents enters.book k b at, refl))
          enters.sound.parts.names;
      counted = counted;
      numbered = numbered-still f enters.sound slots needed key books contents enters.book;
      publisher_room =
          λ i x at. elim (was i x at) [ inl e ↦ rw e.1 rooms | inr old ↦ enters.sound.parts.publisher_room i x old ];
      warning_room = enters.sound.parts.warning_room;
      shapes = record { at = shaped };
      forms = enters.forms;
      open_loans = open_loans;
      plain = λ i x at. elim (was i x at) [
        | inl e ↦
            rw e.1
            (record {
              lent = λ b e. absurd cc;
              segment = record {
                static = λ _. (refl, refl);
                first = le_refl given.initial_max_slice_len;
                longest = λ _. omega arith;
                some = some-slot f.config given;
              };
            })
        | inr old ↦ enters.sound.parts.plain i x old
      ];
    };
    kept_books = kept_books;
    lone = lone-still f enters.sound slots needed key books contents enters.book;
    well_formed = well;
    entries = λ p n held. let has = enters.sound.entries p n (held_still p n held) in
        (has.0, entries_same n ∙ has.1, has.2);
  }
