-- A domain's fields agree with one loan more.
use Rattle.std.proofs.Common.{◌≡◌, ℕ, le_refl, ◌+◌, ◌*◌, ◌≤◌, List, [], ◌∷◌, ◌++◌, length, Bool, true, false, cond, eqb}
use Rattle.std.proofs.Common.{get_or, refl, ap, sym, subst, ◌∙◌, inl, inr, arith}
use Rattle.std.proofs.lemmas.Bool.{cases_eq, eqb-true}
use Rattle.std.proofs.Math.Nat.{max-le}
use Rattle.std.proofs.lemmas.List.{length-set, length-replicate}
use Rattle.std.specs.declared.option.Option.{Option}
use Rattle.std.specs.declared.option.Option.TheVariants.{None, Some}
use Rattle.std.specs.Option.{option_map_or}
use Rattle.std.specs.Prelude.{◌<◌, slice_get, IsSomeAnd}
use Rattle.std.specs.List.{sum_by}
use Rattle.circular_buffer.proofs.Places.{slice_get-set_same, slice_get-set_other}
use Rattle.slab.specs.Slab.{get}
use Rattle.iox2_machine.specs.machine.Records.{Publisher, Environment}
use Rattle.iox2_machine.specs.machine.Numbers.{put_at}
use Rattle.iox2_machine.specs.machine.State.{State}
use Rattle.iox2_slots.specs.SlotBook.{Book, holders_at}
use Rattle.iox2_slots.specs.declared.slots.mark.SlotMark.TheVariants.{Unwritten}
use Rattle.iox2_contents.specs.SlotContents.{ContentState, unwritten_content}
use Rattle.iox2_machine.specs.machine.Loans.{is_static, loan_granted, GrantLoan}
use Rattle.iox2_machine.specs.machine.WellFormed.{IsWellFormed}
use Rattle.iox2_machine.specs.Stored.{IsHeldMessage}
use Rattle.iox2_connections.specs.LookUp.{look_up}
use Rattle.iox2_connections.specs.Counters.{times, stands}
use Rattle.iox2_connections.proofs.Counts.{times_push, one_if, one_if_same, one_if_other}
use Rattle.iox2_laws.proofs.LoanLaws.{grant_loan_keeps}
use Rattle.iox2_machine.specs.declared.service_config.TypeVariant.TheVariants.{FixedSize}
use Rattle.iox2_domain.specs.Ports.{PublisherFields, slot_length}
use Rattle.iox2_domain.specs.Kept.{KeptMessage, Lent_message, state_of}
use Rattle.iox2_domain.specs.Fields.{Fields, kept_of, publisher_of, is_book_of}
use Rattle.iox2_domain.specs.Invariant.{IsDomain, IsOwned, IsBook, HasBook, HasBooks, IsCounted, HasRoomFrom}
use Rattle.iox2_domain.specs.Invariant.{HasSegment, HasShape, HasShapes, is_publisher, own_holders, holders_of}
use Rattle.iox2_domain.specs.Invariant.{is_loan_in, cell_count}
use Rattle.iox2_domain.specs.Reaches.{Reaches}
use Rattle.iox2_domain.specs.Shows.{KeepsEntries}
use Rattle.iox2_domain.proofs.lemmas.fields.NamedBooks.{names-books}
use Rattle.iox2_domain.proofs.lemmas.slots.PublisherBooks.{book-owned}
use Rattle.iox2_domain.proofs.lemmas.fields.KeptBooks.{kept-own}
use Rattle.iox2_domain.proofs.lemmas.slots.SlotsInUse.{its_book, slot-counted}
use Rattle.iox2_domain.proofs.lemmas.slots.Messages.{lies_at, message_at-book, message_at-slot}
use Rattle.iox2_domain.proofs.lemmas.loans.PublisherChanges.{KeepsSettings, changed-ids_apart, look_up-publisher}
use Rattle.iox2_domain.proofs.lemmas.loans.PublisherChanges.{changed-linked_same, changed-books, changed-room}
use Rattle.iox2_domain.proofs.lemmas.loans.PublisherChanges.{changed-plain, changed-kept_books, changed-entries}
use Rattle.iox2_domain.proofs.lemmas.slots.SlotChanges.{forms-changed, lists-changed}
use Rattle.iox2_domain.proofs.lemmas.slots.OpenLoans.{HasItsLists, kept-lists, mark-here, open-own}
use Rattle.iox2_domain.proofs.lemmas.slots.SlotCells.{cells-elsewhere}
use Rattle.iox2_domain.proofs.lemmas.loans.Taken.{taken-after, CanTakeSlot, with_taken, taken_book, taken_books, begun}
use Rattle.iox2_domain.proofs.lemmas.loans.Taken.{begun_contents, lent, next_header, taken-stands, others-stand}
use Rattle.iox2_domain.proofs.lemmas.loans.Taken.{begun-has, others-have, taken-one_each, taken-found, taken-holders}
use Rattle.iox2_domain.proofs.lemmas.loans.Taken.{taken-numbered, number-was, taken-entries, lent-lies, others-lie}
use Rattle.iox2_domain.proofs.lemmas.loans.Taken.{length-with_changed, room-with_changed, taken-lone}
use Rattle.iox2_domain.proofs.lemmas.loans.Granted.{lender, with_granted, granted-is, taken-is}
use Rattle.iox2_domain.proofs.lemmas.fields.Views.{held-before}
use Rattle.iox2_domain.proofs.lemmas.fields.SameLinks.{linked-same}

module _ {T U : Type 0} (f : Fields T U) (sound : IsDomain f) (i : ℕ) (x : PublisherFields)
    (at : get_or f.publishers i None ≡ Some x)
    (slot : ℕ) (can : CanTakeSlot f x slot) (user_header : U) (len segments : ℕ)
    (one : (f.config).variant ≡ FixedSize → len ≡ 1)
    (fits : is_static x.allocation ≡ false → len ≤ x.segment_length) where
  abbrev state : State T U
  state = state_of (kept_of f)

  abbrev machine : Publisher
  machine = (publisher_of f.books f.connections x).port

  -- the fields with the slot taken
  abbrev mid : Fields T U
  mid = with_taken f sound x slot can user_header len

  abbrev new_book : Book
  new_book = taken_book f sound x slot can user_header len

  abbrev new_contents : List (ContentState T U)
  new_contents = begun f sound x slot can user_header len

  abbrev new_lender : PublisherFields
  new_lender = lender f sound i x at slot can user_header len segments

  abbrev pub granted : Fields T U
  granted = with_granted f sound i x at slot can user_header len segments

  keeps : KeepsSettings x new_lender
  keeps =
      let segment : HasSegment x → HasSegment new_lender = λ has.
      record {
        static = has.static;
        first = has.first;
        longest = λ grows. max-le (has.longest grows) (fits grows);
        some = has.some;
      } in
      assumption (segment, le_refl x.loan_room, le_refl x.key_room)

  -- ---- books

  its_book-is : (z : PublisherFields) (b : Book) → z.book ≡ x.book → get f.books z.book ≡ Some b → b ≡ can.book
  its_book-is z b same there = let found : Some b ≡ Some can.book = sym there ∙ ap (get f.books) same ∙ can.stands in cc

  -- where something stood, something like it stands
  book-still : (z : PublisherFields) → HasBook f z → HasBook mid z
  book-still z has = elim (cases_eq z.book x.book) [
    | inr away ↦ record {
      book = has.book;
      stands = others-stand f sound x slot can user_header len z.book away ∙ has.stands;
      is_its = has.is_its;
      node = has.node;
      slots = has.slots;
      room = subst (λ (o : Option (List (ContentState T U))).
          IsSomeAnd o (HasRoomFrom z.segment_start (slot_length z.segment_length * (f.config).units_per_element)))
          (sym (others-have f sound x slot can user_header len z.book away)) has.room;
    }
    | inl here ↦
        let same : has.book ≡ can.book = its_book-is z has.book here has.stands in
        let long : length new_book.holders ≡ length (has.book).holders =
        length-set (can.book).holders slot 1 ∙ sym (ap (λ (b : Book). length b.holders) same) in
        record {
          book = new_book;
          stands = ap (get (taken_books f sound x slot can user_header len)) here
              ∙ taken-stands f sound x slot can user_header len;
          is_its = sym (ap (λ (b : Book). b.publisher) same) ∙ has.is_its;
          node = sym (ap (λ (b : Book). b.node) same) ∙ has.node;
          slots = rw long has.slots;
          room = subst (λ (o : Option (List (ContentState T U))).
              IsSomeAnd o (HasRoomFrom z.segment_start (slot_length z.segment_length * (f.config).units_per_element)))
              (sym (ap (λ (k : ℕ). get_or (begun_contents f sound x slot can user_header len) k None) here
              ∙ begun-has f sound x slot can user_header len))
              (room-with_changed (unwritten_content user_header (len * (f.config).units_per_element))
              (λ c. refl) can.contents slot z.segment_start
              (slot_length z.segment_length * (f.config).units_per_element)
              (subst (λ (o : Option (List (ContentState T U))). IsSomeAnd o
              (HasRoomFrom z.segment_start (slot_length z.segment_length * (f.config).units_per_element)))
              (ap (λ (k : ℕ). get_or f.contents k None) here ∙ can.has) has.room));
        }
  ]

  taken-books : HasBooks mid
  taken-books = record {
    one_each = taken-one_each f sound x slot can user_header len;
    books = λ key b there. elim (cases_eq key x.book) [
      | inr away ↦ subst (λ (o : Option (List (ContentState T U))). IsBook b o)
          (sym (others-have f sound x slot can user_header len key away))
          (sound.parts.books.books key b (sym (others-stand f sound x slot can user_header len key away) ∙ there))
      | inl here ↦
          let found : Some new_book ≡ Some b = sym (taken-stands f sound x slot can user_header len)
          ∙ sym (ap (get (taken_books f sound x slot can user_header len)) here) ∙ there in
          let is : new_book ≡ b = cc in
          let has : get_or (begun_contents f sound x slot can user_header len) key None ≡ Some new_contents =
          ap (λ (k : ℕ). get_or (begun_contents f sound x slot can user_header len) k None) here
          ∙ begun-has f sound x slot can user_header len in
          subst (λ (z : Book). IsBook z (get_or (begun_contents f sound x slot can user_header len) key None)) is
          (subst (λ (o : Option (List (ContentState T U))). IsBook new_book o) (sym has) new_is_book)
    ];
    publishers = λ k z there. book-still z (sound.parts.books.publishers k z there);
    no_others = λ key none. elim (cases_eq key x.book) [
      | inr away ↦ others-have f sound x slot can user_header len key away
          ∙ sound.parts.books.no_others key (sym (others-stand f sound x slot can user_header len key away) ∙ none)
      | inl here ↦
          let clash : Some new_book ≡ None = sym (taken-stands f sound x slot can user_header len)
          ∙ sym (ap (get (taken_books f sound x slot can user_header len)) here) ∙ none in
          absurd cc
    ];
  } where
    new_is_book : IsBook new_book (Some new_contents)
    new_is_book = record {
      aligned = record {
        numbers = length-set (can.book).numbers slot f.next_message ∙ can.aligned.numbers
            ∙ sym (length-set (can.book).holders slot 1);
        headers = length-set (can.book).headers slot (next_header f sound x slot can user_header len)
            ∙ can.aligned.headers ∙ sym (length-set (can.book).holders slot 1);
        marks = length-set (can.book).marks slot _ ∙ can.aligned.marks ∙ sym (length-set (can.book).holders slot 1);
      };
      shaped =
          length-with_changed can.contents slot (unwritten_content user_header (len * (f.config).units_per_element))
          ∙ can.shaped ∙ sym (length-set (can.book).holders slot 1);
    }

  -- ---- counters

  -- what the publisher itself has of the slot, or what is out of one that is gone, in these books
  abbrev own : Option Book → (k : ℕ) → Option PublisherFields → ℕ
  own o k holder =
      option_map_or (λ (z : PublisherFields). times k z.loans + times k (z.history).items) holder
      (option_map_or (λ b. cond (is_loan_in b k) 1 0) o 0)

  granted-counted : IsCounted granted
  granted-counted = record { at = λ p k. by p k (eqb x.id p) refl } where
    holders_in : (k : ℕ) → Option Book → ℕ
    holders_in k o = option_map_or (λ b. holders_at b k) o 0

    found-book : (p : ℕ) (t : Bool) → eqb x.id p ≡ t
        → look_up (is_book_of p) (taken_books f sound x slot can user_header len).slots ≡ cond t (Some new_book)
        (look_up (is_book_of p) f.books.slots)
    found-book p t e =
        taken-found f sound x slot can user_header len p
        ∙ ap (λ (q : ℕ). cond (eqb q p) (Some new_book) (look_up (is_book_of p) f.books.slots)) can.its
        ∙ ap (λ b. cond b (Some new_book) (look_up (is_book_of p) f.books.slots)) e

    found-lender : (p : ℕ) (t : Bool) → eqb x.id p ≡ t
        → look_up (is_publisher p) granted.publishers ≡ cond t (Some new_lender) (look_up (is_publisher p) f.publishers)
    found-lender p t e =
        look_up-publisher mid i x new_lender at refl sound.parts.publisher_ids p
        ∙ ap (λ b. cond b (Some new_lender) (look_up (is_publisher p) f.publishers)) e

    counted-here : (k : ℕ) → holders_at new_book k ≡ times k (x.loans ++ slot ∷ []) + times k (x.history).items + sum_by
        (stands x.id k) f.connections.slots
    counted-here k =
        let same : (its_book f sound i x at).book ≡ can.book =
        its_book-is x (its_book f sound i x at).book refl (its_book f sound i x at).stands in
        let before : holders_at can.book k ≡ times k x.loans + times k (x.history).items + sum_by
        (stands x.id k) f.connections.slots =
        sym (ap (λ (b : Book). holders_at b k) same) ∙ slot-counted f sound i x at k in
        elim (taken-holders f sound x slot can user_header len k) [
          | inl here ↦
              let none : holders_at can.book k ≡ 0 = ap (λ (j : ℕ). holders_at can.book j) here.0 ∙ can.free in
              let one : one_if k slot ≡ 1 = ap (λ (j : ℕ). one_if j slot) here.0 ∙ one_if_same slot in
              omega (arith, here.1, none, before, one, times_push k x.loans slot)
          | inr away ↦ omega (arith, away.1, before, one_if_other k slot away.0, times_push k x.loans slot)
        ]

    by : (p k : ℕ) (t : Bool) → eqb x.id p ≡ t
        → holders_of (taken_books f sound x slot can user_header len) p k ≡ own_holders granted p k + sum_by
        (stands p k) f.connections.slots
    by p k true e =
        let here : x.id ≡ p = eqb-true x.id p e in
        ap (holders_in k) (found-book p true e)
        ∙ counted-here k
        ∙ ap (λ (q : ℕ).
        times k (x.loans ++ slot ∷ []) + times k (x.history).items + sum_by (stands q k) f.connections.slots) here
        ∙ ap (λ n. n + sum_by (stands p k) f.connections.slots)
        (sym (ap (own (look_up (is_book_of p) (taken_books f sound x slot can user_header len).slots) k)
        (found-lender p true e)))
    by p k false e =
        ap (holders_in k) (found-book p false e)
        ∙ sound.parts.counted.at p k
        ∙ ap (λ n. n + sum_by (stands p k) f.connections.slots)
        (sym (ap (own (look_up (is_book_of p) (taken_books f sound x slot can user_header len).slots) k)
        (found-lender p false e)
        ∙ ap (λ o. own o k (look_up (is_publisher p) f.publishers)) (found-book p false e)))

  -- ---- messages

  granted-shapes : HasShapes granted
  granted-shapes = record {
    at = λ key k b m there lies.
        let found : lies_at mid key k ≡ Some m = message_at-slot (begun_contents f sound x slot can user_header len)
        (taken_books f sound x slot can user_header len) key k b there ∙ lies in
        elim (cases_eq key x.book) [
          | inr away ↦ before key k m (λ here. away here.0) found
          | inl here ↦ elim (cases_eq k slot) [
            | inr away ↦ before key k m (λ same. away same.1) found
            | inl same ↦
                let new : Some (Lent_message f.next_message (lent f sound x slot can user_header len)) ≡ Some m =
                sym (lent-lies f sound x slot can user_header len)
                ∙ sym (ap (λ (j : ℕ). lies_at mid j slot) here)
                ∙ sym (ap (λ (j : ℕ). lies_at mid key j) same) ∙ found in
                let is : Lent_message f.next_message (lent f sound x slot can user_header len) ≡ m = cc in
                subst (HasShape f.config) is
                (record { length = length-replicate (len * (f.config).units_per_element) None; single = one })
          ]
        ];
  } where
    before : (key k : ℕ) (m : KeptMessage T U) → ((key ≡ x.book) × (k ≡ slot) → ⊥) → lies_at mid key k ≡ Some m
        → HasShape f.config m
    before key k m away found =
        let was = message_at-book f.contents f.books key k m
        (sym (others-lie f sound x slot can user_header len key k away) ∙ found) in
        sound.parts.shapes.at key k was.0 m was.1 was.2

  -- the slot is a loan that isn't written, and the other loans are as they were
  lends-open : (k : ℕ) → 0 < cell_count granted.contents x.book k
      → (0 < times k new_lender.loans) × (slice_get new_book.marks k ≡ Some Unwritten)
  lends-open k some = elim (cases_eq k slot) [
    | inl here ↦ (
      omega (arith, times_push k x.loans slot, ap (λ (j : ℕ). one_if j slot) here, one_if_same slot),
      ap (slice_get new_book.marks) here
          ∙ slice_get-set_same (can.book).marks slot Unwritten (omega (arith, can.within, can.aligned.marks)),
    )
    | inr away ↦
        let before : cell_count granted.contents x.book k ≡ cell_count f.contents x.book k =
        cells-elsewhere f.contents x.book can.contents can.has slot
        (unwritten_content user_header (len * (f.config).units_per_element)) x.book k (λ both. away both.1) in
        let loan = sound.parts.open_loans.at i k x at (subst (λ (n : ℕ). 0 < n) before some) in (
          omega (arith, times_push k x.loans slot, loan.out),
          slice_get-set_other (can.book).marks slot k Unwritten away
              ∙ sym (mark-here f.books x.book can.book can.stands k) ∙ loan.unwritten,
        )
  ]

  its-lists : HasItsLists f sound.parts i x at new_lender can.book new_book can.stands granted.contents
      (others-have f sound x slot can user_header len)
  its-lists =
      kept-lists f sound.parts i x at new_lender can.book new_book can.stands granted.contents
      (others-have f sound x slot can user_header len)
      (lists-changed f.contents x.book slot can.contents can.has
      (unwritten_content user_header (len * (f.config).units_per_element)) (λ c. refl))

  taken-keeps_entries : KeepsEntries (kept_of mid)
  taken-keeps_entries p n there =
      let held_then : IsHeldMessage state p n =
      held-before state (record state {
        next_message = f.next_message + 1;
        loans = put_at state.loans f.next_message (Some (lent f sound x slot can user_header len));
      }) p n
      (λ q. refl) (λ y here. (y, here, record { history = refl; blocked = refl }))
      (subst (λ (s : State T U). IsHeldMessage s p n)
      (taken-is f sound i x at slot can user_header len segments) there) in
      let kept = sound.entries p n held_then in
      (kept.0, taken-entries f sound x slot can user_header len n ∙ kept.1, kept.2)

  -- ---- the whole

  module _ (environment : Environment) (checks : Bool)
      (grants : GrantLoan environment user_header checks len state x.id
      (loan_granted user_header state x.id machine len segments) None) where
    granted-well_formed : IsWellFormed (loan_granted user_header state x.id machine len segments)
    granted-well_formed = grant_loan_keeps environment user_header checks len state x.id
        (loan_granted user_header state x.id machine len segments) None sound.well_formed grants

    -- the invariant is kept
    pub granted-agrees : IsDomain granted
    granted-agrees = record {
      parts = record {
        publisher_ids = changed-ids_apart mid i x new_lender at refl sound.parts.publisher_ids;
        subscriber_ids = sound.parts.subscriber_ids;
        apart = sound.parts.apart;
        linked = changed-linked_same mid i x new_lender at refl
            (linked-same f mid.next_message f.warnings mid.books mid.contents sound.parts.linked) keeps.key_room refl;
        expired_room = sound.parts.expired_room;
        books = changed-books mid i x new_lender at refl taken-books keeps;
        names = names-books f.books _ f.connections (taken-after f sound x slot can user_header len) sound.parts.names;
        counted = granted-counted;
        numbered = taken-numbered f sound x slot can user_header len;
        publisher_room = changed-room mid i x new_lender at refl sound.parts.publisher_room keeps;
        warning_room = sound.parts.warning_room;
        shapes = granted-shapes;
        forms = forms-changed f.config f.contents x.book slot can.contents can.has
            (unwritten_content user_header (len * (f.config).units_per_element)) (λ c. refl)
            (λ c. refl) sound.parts.forms;
        open_loans = open-own f sound.parts i x at new_lender can.book new_book can.stands granted.contents
            (others-have f sound x slot can user_header len) refl refl lends-open its-lists;
        plain = changed-plain mid i x new_lender at refl sound.parts.plain keeps
            (λ has b e. omega (arith, has b e, times_push b.slot x.loans slot));
      };
      kept_books = changed-kept_books mid i x new_lender at refl (taken_books f sound x slot can user_header len) refl
          (kept-own f.next_port f.publishers f.books x.book can.book new_book can.stands refl
          (subst (IsOwned f.publishers x.book) (sym can.its) (book-owned f sound.parts i x at)) sound.kept_books);
      lone = taken-lone f sound x slot can user_header len;
      well_formed = rw (granted-is f sound i x at slot can user_header len segments) granted-well_formed;
      entries = changed-entries mid i x new_lender at refl sound.parts.publisher_ids taken-keeps_entries refl refl;
    }

    -- the loan's step
    pub granted-reaches : Reaches f granted (loan_granted user_header state x.id machine len segments)
    granted-reaches = record {
      agrees = granted-agrees;
      state = granted-is f sound i x at slot can user_header len segments;
      entries = λ n entry kept. sym (taken-entries f sound x slot can user_header len n) ∙ kept;
      places = record {
        rises = omega arith;
        back = λ key k n low has. elim (number-was f sound x slot can user_header len key k n has) [
          | inl new ↦ let same = new.2 in absurd (omega (arith, low, same))
          | inr old ↦ old
        ];
      };
    }
