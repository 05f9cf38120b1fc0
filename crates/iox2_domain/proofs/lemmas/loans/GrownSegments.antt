-- A publisher gets a further segment: the fields agree, and keep what they kept.
use Rattle.std.proofs.Common.{◌≡◌, ◌≢◌, ℕ, le_refl, ◌+◌, ◌*◌, List, length, Bool, true, false, cond, eqb, get_or, refl}
use Rattle.std.proofs.Common.{ap, sym, subst, ◌∙◌, inl, inr, arith}
use Rattle.std.proofs.lemmas.Bool.{cases_eq, eq-eqb}
use Rattle.std.proofs.lemmas.List.Elements.{All-weaker}
use Rattle.std.proofs.lemmas.Option.{slice_get_within}
use Rattle.std.specs.Prelude.{◌<◌, slice_get, IsSomeAnd, not}
use Rattle.std.specs.declared.option.Option.{Option}
use Rattle.std.specs.declared.option.Option.TheVariants.{None, Some}
use Rattle.std.specs.Option.{option_map_or}
use Rattle.std.specs.List.{All, sum_by}
use Rattle.circular_buffer.proofs.Places.{slice_get-append_left}
use Rattle.slab.specs.Slab.{Slab, get}
use Rattle.iox2_slots.specs.SlotBook.{Book, with_more_slots}
use Rattle.iox2_slots.specs.declared.slots.mark.SlotMark.TheVariants.{Unwritten}
use Rattle.iox2_contents.specs.SlotContents.{ContentState}
use Rattle.iox2_machine.specs.machine.Loans.{is_static}
use Rattle.iox2_machine.specs.machine.Records.{Loan}
use Rattle.iox2_machine.specs.machine.WellFormed.{IsWellFormed}
use Rattle.iox2_machine.specs.Stored.{IsHeldMessage}
use Rattle.iox2_machine.specs.machine.State.{State}
use Rattle.iox2_connections.specs.LookUp.{look_up}
use Rattle.iox2_connections.proofs.LookUps.{look_up-found}
use Rattle.iox2_connections.specs.Counters.{times, stands}
use Rattle.iox2_domain.specs.Fields.{Fields, kept_of, publisher_of, is_book_of}
use Rattle.iox2_domain.specs.Growth.{Grows, with_segment}
use Rattle.iox2_domain.specs.Invariant.{IsDomain, IsOwned, IsBook, HasBook, HasBooks, HasForms, HasPublisherRoom}
use Rattle.iox2_domain.specs.Invariant.{HasRoomFrom, HasShapes, HasParts, IsCounted, IsPlain, is_publisher, is_loan_in}
use Rattle.iox2_domain.specs.Invariant.{own_holders, cell_count, cell_lists}
use Rattle.iox2_domain.specs.Kept.{Kept, state_of, entries_of}
use Rattle.iox2_domain.specs.Ports.{PublisherFields, slot_length}
use Rattle.iox2_domain.specs.Reaches.{Reaches}
use Rattle.iox2_domain.proofs.lemmas.fields.KeptBooks.{kept-own}
use Rattle.iox2_domain.proofs.lemmas.fields.NamedBooks.{names-books}
use Rattle.iox2_domain.proofs.lemmas.fields.SameLinks.{linked-same}
use Rattle.iox2_domain.proofs.lemmas.loans.LendingSteps.{contents-of}
use Rattle.iox2_domain.proofs.lemmas.loans.PublisherChanges.{with_publisher, map-set, changed-here, changed-was}
use Rattle.iox2_domain.proofs.lemmas.loans.PublisherChanges.{changed-ids_apart, look_up-publisher, changed-linked_same}
use Rattle.iox2_domain.proofs.lemmas.loans.PublisherChanges.{changed-kept_books}
use Rattle.iox2_domain.proofs.lemmas.slots.GrownBooks.{more_slots, grown_books, with_grown_book, grown-length}
use Rattle.iox2_domain.proofs.lemmas.slots.GrownBooks.{grown-aligned, grown-here, grown-others, contents-here}
use Rattle.iox2_domain.proofs.lemmas.slots.GrownBooks.{contents-others, grown-one_each, grown-after, numbers-same}
use Rattle.iox2_domain.proofs.lemmas.slots.GrownBooks.{holders-same, loans-same, grown-lone, lies-same, grown-numbered}
use Rattle.iox2_domain.proofs.lemmas.slots.GrownBooks.{grown-number, grown-loans, grown-entries}
use Rattle.iox2_domain.proofs.lemmas.slots.Messages.{message_at-book, message_at-slot}
use Rattle.iox2_domain.proofs.lemmas.slots.OpenLoans.{lists-some, mark-here, open-own}
use Rattle.iox2_domain.proofs.lemmas.slots.SlotCells.{cells_if, cells-some, cells-read}
use Rattle.iox2_domain.proofs.lemmas.slots.PublisherBooks.{book-own, book-owned}
use Rattle.iox2_domain.proofs.lemmas.slots.Renumbered.{with_books-is}
use Rattle.iox2_domain.proofs.lemmas.fields.PlacesKept.{places-back}
use mathlib.Core.Path.{fun_ext}

module _ {T U : Type 0} (f : Fields T U) (sound : IsDomain f) (i : ℕ) (x : PublisherFields)
    (at : get_or f.publishers i None ≡ Some x)
    (grows : is_static x.allocation ≡ false) (asked len : ℕ) (f' : Fields T U) (g : Grows f i x asked len f') where
  shaped : length g.contents ≡ length (g.book).holders
  shaped =
      let found = contents-of f sound i x at g.book g.stood in
      let same : Some found.0 ≡ Some g.contents = sym found.1 ∙ g.had in
      let is : found.0 ≡ g.contents = cc in
      ap (length {A = ContentState T U}) (sym is) ∙ found.2

  -- the fields with the book's slots
  abbrev mid : Fields T U
  mid = with_grown_book f sound x.book g.book g.stood x.slots g.contents g.grown g.had shaped (g.grows).kept

  abbrev books : Slab Book
  books = grown_books f sound x.book g.book g.stood x.slots g.contents g.grown g.had shaped (g.grows).kept

  abbrev new_book : Book
  new_book = more_slots f sound x.book g.book g.stood x.slots g.contents g.grown g.had shaped (g.grows).kept

  -- the publisher with its segment
  abbrev grower : PublisherFields
  grower = with_segment (length (g.book).holders) len x

  abbrev after : Fields T U
  after = with_publisher mid i grower

  abbrev state : State T U
  state = state_of (kept_of f)

  abbrev units : ℕ
  units = (f.config).units_per_element

  -- ---- the state

  mid-is : state_of (kept_of mid) ≡ state
  mid-is =
      with_books-is f sound books (λ p slot _. numbers-same f sound x.book g.book g.stood x.slots g.contents g.grown
      g.had shaped (g.grows).kept p slot) mid.contents f.next_message
      ∙ ap (λ (ls : ℕ → Option (Loan T U)). record state { loans = ls })
      (fun_ext (grown-loans f sound x.book g.book g.stood x.slots g.contents g.grown g.had shaped (g.grows).kept))

  -- the machine sees no change of the publisher
  after-kept : kept_of after ≡ kept_of mid
  after-kept = λ t.
      record (kept_of mid) { publishers = map-set (publisher_of books f.connections) f.publishers i x grower at refl t }

  -- nothing that is kept changes
  grown-is : state_of (kept_of after) ≡ state
  grown-is = ap (state_of {T = T} {U = U}) after-kept ∙ mid-is

  -- ---- books

  new-length : length new_book.holders ≡ length (g.book).holders + x.slots
  new-length = grown-length g.book x.slots

  has : HasBook f x
  has = sound.parts.books.publishers i x at

  has-is : has.book ≡ g.book
  has-is = let same : Some has.book ≡ Some g.book = sym has.stands ∙ g.stood in cc

  others : (k : ℕ) → k ≢ x.book → get books k ≡ get f.books k
  others k away =
      grown-others f sound x.book g.book g.stood x.slots g.contents g.grown g.had shaped (g.grows).kept k away

  others-have : (k : ℕ) → k ≢ x.book → get_or mid.contents k None ≡ get_or f.contents k None
  others-have k away =
      contents-others f sound x.book g.book g.stood x.slots g.contents g.grown g.had shaped (g.grows).kept k away

  here : get books x.book ≡ Some new_book
  here = grown-here f sound x.book g.book g.stood x.slots g.contents g.grown g.had shaped (g.grows).kept

  has-here : get_or mid.contents x.book None ≡ Some g.grown
  has-here = contents-here f sound x.book g.book g.stood x.slots g.contents g.grown g.had shaped (g.grows).kept

  -- its own book
  mine : HasBook after grower
  mine = record {
    book = new_book;
    stands = here;
    is_its = book-own f sound.parts i x at g.book g.stood;
    node = ap (λ (b : Book). b.node) (sym has-is) ∙ has.node;
    slots = new-length;
    room = subst (λ (o : Option (List (ContentState T U))).
        IsSomeAnd o (HasRoomFrom (length (g.book).holders) (slot_length len * units))) (sym has-here)
        (subst (λ (n : ℕ). HasRoomFrom n (slot_length len * units) g.grown) shaped (g.grows).room);
  }

  -- another's
  others-book : (k : ℕ) (z : PublisherFields) → k ≢ i → get_or f.publishers k None ≡ Some z → HasBook after z
  others-book k z away at_z = record {
    book = its.book;
    stands = others z.book apart ∙ its.stands;
    is_its = its.is_its;
    node = its.node;
    slots = its.slots;
    room = subst (λ (o : Option (List (ContentState T U))). IsSomeAnd o
        (HasRoomFrom z.segment_start (slot_length z.segment_length * units))) (sym (others-have z.book apart)) its.room;
  } where
    its : HasBook f z
    its = sound.parts.books.publishers k z at_z

    apart : z.book ≢ x.book
    apart same =
        let found : Some its.book ≡ Some g.book = sym its.stands ∙ ap (get f.books) same ∙ g.stood in
        let is : its.book ≡ g.book = cc in
        let id : z.id ≡ x.id =
        sym its.is_its ∙ ap (λ (b : Book). b.publisher) is ∙ book-own f sound.parts i x at g.book g.stood in
        away ((sound.parts.publisher_ids x.id).one k i z x at_z at (eq-eqb z.id x.id id) (eq-eqb x.id x.id refl))

  new_is_book : IsBook new_book (Some g.grown)
  new_is_book = record {
    aligned = grown-aligned g.book x.slots (sound.parts.books.books x.book g.book g.stood).aligned;
    shaped = (g.grows).count ∙ ap (λ n. n + x.slots) shaped ∙ sym new-length;
  }

  has_books : HasBooks after
  has_books = record {
    one_each = grown-one_each f sound x.book g.book g.stood x.slots g.contents g.grown g.had shaped (g.grows).kept;
    books = λ k b there. elim (cases_eq k x.book) [
      | inl same ↦
          let found : Some new_book ≡ Some b = sym here ∙ sym (ap (get books) same) ∙ there in
          let is : new_book ≡ b = cc in
          subst (λ (c : Book). IsBook c (get_or mid.contents k None)) is
          (subst (λ (o : Option (List (ContentState T U))). IsBook new_book o)
          (sym (ap (λ (j : ℕ). get_or mid.contents j None) same ∙ has-here)) new_is_book)
      | inr away ↦ subst (λ (o : Option (List (ContentState T U))). IsBook b o) (sym (others-have k away))
          (sound.parts.books.books k b (sym (others k away) ∙ there))
    ];
    publishers = λ k z there. elim (changed-was mid i x grower at refl k z there) [
      | inl is ↦ subst (HasBook after) (sym is.1) mine
      | inr away ↦ others-book k z away.0 away.1
    ];
    no_others = λ k none. elim (cases_eq k x.book) [
      | inl same ↦ absurd (let no : None ≡ Some new_book = sym none ∙ ap (get books) same ∙ here in cc)
      | inr away ↦ others-have k away ∙ sound.parts.books.no_others k (sym (others k away) ∙ none)
    ];
  }

  -- ---- counters and messages

  abbrev own : (slot rest : ℕ) → Option PublisherFields → ℕ
  own slot rest o = option_map_or (λ (z : PublisherFields). times slot z.loans + times slot (z.history).items) o rest

  abbrev loan_of : (p slot : ℕ) → Slab Book → ℕ
  loan_of p slot w = option_map_or (λ b. cond (is_loan_in b slot) 1 0) (look_up (is_book_of p) w.slots) 0

  counted : IsCounted after
  counted = record {
    at = λ p slot.
        holders-same f sound x.book g.book g.stood x.slots g.contents g.grown g.had shaped (g.grows).kept p slot
        ∙ sound.parts.counted.at p slot
        ∙ ap (λ n. n + sum_by (stands p slot) f.connections.slots) (sym (own-same p slot));
  } where
    own-same : (p slot : ℕ) → own_holders after p slot ≡ own_holders f p slot
    own-same p slot =
        ap (own slot (loan_of p slot books)) (look_up-publisher mid i x grower at refl sound.parts.publisher_ids p)
        ∙ by (eqb x.id p) refl
        ∙ ap (λ n. own slot n (look_up (is_publisher p) f.publishers))
        (loans-same f sound x.book g.book g.stood x.slots g.contents g.grown g.had shaped (g.grows).kept p slot)
      where
        by : (t : Bool) → eqb x.id p ≡ t → own slot (loan_of p slot books)
            (cond t (Some grower) (look_up (is_publisher p) f.publishers)) ≡ own slot (loan_of p slot books)
            (look_up (is_publisher p) f.publishers)
        by true e = sym (ap (own slot (loan_of p slot books))
            (look_up-found (is_publisher p) f.publishers i x (sound.parts.publisher_ids p) at e))
        by false e = refl

  shapes : HasShapes after
  shapes = record {
    at = λ k slot b m there lies.
        let was = message_at-book f.contents f.books k slot m
        (sym (lies-same f sound x.book g.book g.stood x.slots g.contents g.grown g.had shaped (g.grows).kept k slot)
        ∙ message_at-slot mid.contents books k slot b there ∙ lies) in
        sound.parts.shapes.at k slot was.0 m was.1 was.2;
  }

  forms : HasForms f.config mid.contents
  forms = record {
    at = λ several k zs there. elim (cases_eq k x.book) [
      | inl same ↦
          let found : Some g.grown ≡ Some zs =
          sym has-here ∙ sym (ap (λ (j : ℕ). get_or mid.contents j None) same) ∙ there in
          let is : g.grown ≡ zs = cc in
          subst (All (λ content. content.is_in_place ≡ false)) is
          ((g.grows).forms (ap not several) (sound.parts.forms.at several x.book g.contents g.had))
      | inr away ↦ sound.parts.forms.at several k zs (sym (others-have k away) ∙ there)
    ];
    cells = λ several lists k zs there. elim (cases_eq k x.book) [
      | inl same ↦
          let found : Some g.grown ≡ Some zs =
          sym has-here ∙ sym (ap (λ (j : ℕ). get_or mid.contents j None) same) ∙ there in
          let is : g.grown ≡ zs = cc in
          subst (All (λ content. 0 < content.lists)) is
          (All-weaker (λ content. content.lists ≡ cell_lists f.config x.max_loaned_samples)
          (λ content. 0 < content.lists)
          (λ content are. subst (λ n. 0 < n) (sym are) (lists-some f.config x.max_loaned_samples several lists)) g.grown
          (g.grows).lists_are)
      | inr away ↦ sound.parts.forms.cells several lists k zs (sym (others-have k away) ∙ there)
    ];
  }

  -- each slot with cells had them, and has its mark
  lends-open : (slot : ℕ) → 0 < cell_count mid.contents x.book slot
      → (0 < times slot grower.loans) × (slice_get new_book.marks slot ≡ Some Unwritten)
  lends-open slot some =
      let is = cells-some (slice_get g.grown slot)
      (subst (λ (n : ℕ). 0 < n) (cells-read mid.contents x.book slot (Some g.grown) has-here) some) in
      let had : slice_get g.contents slot ≡ Some is.0 = (g.grows).cells.at slot is.0 is.1 is.2 in
      let count : cell_count f.contents x.book slot ≡ length (is.0).cells =
      cells-read f.contents x.book slot (Some g.contents) g.had ∙ ap cells_if had in
      let loan = sound.parts.open_loans.at i slot x at (omega (arith, count, is.2)) in
      let mark : slice_get (g.book).marks slot ≡ Some Unwritten =
      sym (mark-here f.books x.book g.book g.stood slot) ∙ loan.unwritten in (
        loan.out,
        slice_get-append_left (g.book).marks _ slot (slice_get_within (g.book).marks slot Unwritten mark) ∙ mark,
      )

  its-lists : (cs : List (ContentState T U)) → get_or mid.contents x.book None ≡ Some cs
      → All (λ content. content.lists ≡ cell_lists f.config x.max_loaned_samples) cs
  its-lists cs there =
      let found : Some g.grown ≡ Some cs = sym has-here ∙ there in
      let is : g.grown ≡ cs = cc in
      subst (All (λ content. content.lists ≡ cell_lists f.config x.max_loaned_samples)) is (g.grows).lists_are

  -- ---- the whole

  plain : IsPlain grower
  plain =
      let was = sound.parts.plain i x at in
      record {
        lent = was.lent;
        segment = record {
          static = λ yes. absurd (let no : true ≡ false = sym yes ∙ grows in cc);
          first = let first = was.segment.first in let longer = g.longer in omega (arith, first, longer);
          longest = λ _. let longest = was.segment.longest grows in let longer = g.longer in
              omega (arith, longest, longer);
          some = was.segment.some;
        };
      }

  room : HasPublisherRoom f.config grower
  room = let was = sound.parts.publisher_room i x at in
      record { loans = was.loans; history = was.history; size = g.fits }

  parts : HasParts after
  parts = record {
    publisher_ids = changed-ids_apart mid i x grower at refl sound.parts.publisher_ids;
    subscriber_ids = sound.parts.subscriber_ids;
    apart = sound.parts.apart;
    linked = changed-linked_same mid i x grower at refl
        (linked-same f f.next_message f.warnings books mid.contents sound.parts.linked) (le_refl x.key_room) refl;
    expired_room = sound.parts.expired_room;
    books = has_books;
    names = names-books f.books books f.connections
        (grown-after f sound x.book g.book g.stood x.slots g.contents g.grown g.had shaped (g.grows).kept)
        sound.parts.names;
    counted = counted;
    numbered = grown-numbered f sound x.book g.book g.stood x.slots g.contents g.grown g.had shaped (g.grows).kept;
    publisher_room = λ k z there. elim (changed-was mid i x grower at refl k z there) [
      | inl is ↦ subst (HasPublisherRoom f.config) (sym is.1) room
      | inr away ↦ sound.parts.publisher_room k z away.1
    ];
    warning_room = sound.parts.warning_room;
    shapes = shapes;
    forms = forms;
    open_loans = open-own f sound.parts i x at grower g.book new_book g.stood mid.contents others-have refl refl
        lends-open its-lists;
    plain = λ k z there. elim (changed-was mid i x grower at refl k z there) [
      | inl is ↦ subst IsPlain (sym is.1) plain
      | inr away ↦ sound.parts.plain k z away.1
    ];
  }

  after-reaches : Reaches f after state
  after-reaches = record {
    agrees = record {
      parts = parts;
      kept_books = changed-kept_books mid i x grower at refl books refl
          (kept-own f.next_port f.publishers f.books x.book g.book new_book g.stood refl
          (subst (IsOwned f.publishers x.book) (sym (book-own f sound.parts i x at g.book g.stood))
          (book-owned f sound.parts i x at)) sound.kept_books);
      lone = grown-lone f sound x.book g.book g.stood x.slots g.contents g.grown g.had shaped (g.grows).kept;
      well_formed = subst IsWellFormed (sym grown-is) sound.well_formed;
      entries = λ p n held.
          let kept = sound.entries p n (subst (λ (s : State T U). IsHeldMessage s p n) grown-is held) in
          (kept.0, entries-same n ∙ kept.1, kept.2);
    };
    state = grown-is;
    entries = λ n entry kept. sym (entries-same n) ∙ kept;
    places =
        places-back (grown-number f sound x.book g.book g.stood x.slots g.contents g.grown g.had shaped (g.grows).kept);
  } where
    entries-same : (n : ℕ) → entries_of (kept_of after) n ≡ entries_of (kept_of f) n
    entries-same n = ap (λ (k : Kept T U ⊥ ⊥). entries_of k n) after-kept
        ∙ grown-entries f sound x.book g.book g.stood x.slots g.contents g.grown g.had shaped (g.grows).kept n

  -- the step
  pub grown-reaches : Reaches f f' state
  grown-reaches = subst (λ (h : Fields T U). Reaches f h state) (sym g.is) after-reaches

  -- the publisher stands where it stood
  pub grown-stands : get_or f'.publishers i None ≡ Some (with_segment (length (g.book).holders) len x)
  grown-stands = ap (λ (h : Fields T U). get_or h.publishers i None) g.is ∙ changed-here mid i x grower at refl

  -- and has its book
  pub grown-stands_book : get f'.books x.book ≡ Some (with_more_slots x.slots g.book)
  grown-stands_book = ap (λ (h : Fields T U). get h.books x.book) g.is ∙ here
