-- What is in a publisher's older slots that nobody holds is given up: the fields agree, and keep what they kept.
use Rattle.std.proofs.Common.{◌≡◌, ◌≢◌, ℕ, ◌+◌, ◌*◌, ◌<◌, ◌≤◌, List, length, false, cond, get_or, slice_set, refl, ap}
use Rattle.std.proofs.Common.{sym, subst, ◌∙◌, inl, inr, arith}
use Rattle.std.proofs.lemmas.Bool.{cases_eq, cases_lt}
use Rattle.std.proofs.lemmas.Grind.{get_or_default_zero}
use Rattle.std.proofs.lemmas.List.{length-set}
use Rattle.std.proofs.lemmas.List.Elements.{All-weaker}
use Rattle.std.proofs.lemmas.Option.{get_or_from_slice_get, slice_get_within}
use Rattle.std.specs.Prelude.{nat_lt, slice_get, slice_index, IsSomeAnd}
use Rattle.std.specs.declared.option.Option.{Option}
use Rattle.std.specs.declared.option.Option.TheVariants.{None, Some}
use Rattle.std.specs.Option.{option_map, option_and_then}
use Rattle.std.specs.List.{All}
use Rattle.circular_buffer.proofs.Places.{slice_get-set_same, slice_get-set_other}
use Rattle.slab.specs.Slab.{get}
use Rattle.iox2_contents.specs.SlotContents.{ContentState, ClearsSlot, SomeAt}
use Rattle.iox2_slots.specs.SlotBook.{Book, holders_at}
use Rattle.iox2_domain.specs.Fields.{Fields, kept_of, kept_book, map_from, message_in, message_of, contents_at}
use Rattle.iox2_domain.specs.Fields.{contents_in}
use Rattle.iox2_domain.specs.Growth.{ClearsUnused}
use Rattle.iox2_domain.specs.Invariant.{IsDomain, HasBooks, HasForms, HasOpenLoans, HasParts, HasRoomFrom, HasShapes}
use Rattle.iox2_domain.specs.Invariant.{cell_count, cell_lists}
use Rattle.iox2_domain.specs.Kept.{Kept, KeptBook, KeptMessage, state_of, entries_of}
use Rattle.iox2_domain.specs.Ports.{PublisherFields, slot_length}
use Rattle.iox2_domain.specs.Reaches.{Reaches}
use Rattle.iox2_domain.specs.Shows.{KeepsEntries}
use Rattle.iox2_machine.specs.machine.WellFormed.{IsWellFormed}
use Rattle.iox2_domain.proofs.lemmas.containers.SetRecords.{set-here, set-others}
use Rattle.iox2_domain.proofs.lemmas.fields.PlacesKept.{places-still}
use Rattle.iox2_domain.proofs.lemmas.fields.SameLinks.{linked-same}
use Rattle.iox2_domain.proofs.lemmas.slots.FreeContents.{map_from_zero-alike}
use Rattle.iox2_domain.proofs.lemmas.slots.Messages.{message_in-free}
use Rattle.iox2_domain.proofs.lemmas.slots.OpenLoans.{KeepsLists, books-apart, lists-some, open-kept}
use Rattle.iox2_domain.proofs.lemmas.slots.SlotCells.{cells_if, cells_in, cells-some, cells-read}
use Rattle.iox2_messages.specs.OlderSlots.{ClearsOlder, IsGivenUp}
use Rattle.iox2_messages.proofs.ClearedSlots.{clears-next}

-- ---- slot by slot

module _ {T U : Type 0} (slots : List ℕ) (start : ℕ) where
  -- What lay in the first n of the slots, as far as they are before `start`, is given up.
  abbrev pub GivesUpFirst : (n : ℕ) → List (ContentState T U) → Type 0
  GivesUpFirst n contents =
      (k : ℕ) → k < n → slice_index slots k < start → SomeAt contents (slice_index slots k) IsGivenUp

  -- One slot more is cleared,
  pub given_up-next : (n : ℕ) (mid new : List (ContentState T U)) → GivesUpFirst n mid
      → ClearsSlot mid new (slice_index slots n) → GivesUpFirst (n + 1) new
  given_up-next n mid new before clears k low older = elim (cases_eq (slice_index slots k) (slice_index slots n)) [
    | inl here ↦
        let now : slice_get new (slice_index slots k) ≡ Some clears.content =
        ap (slice_get new) here
        ∙ ap (λ (cs : List (ContentState T U)). slice_get cs (slice_index slots n)) clears.cleared
        ∙ slice_get-set_same mid (slice_index slots n) clears.content
        (slice_get_within mid (slice_index slots n) clears.had clears.there) in
        subst (λ o. IsSomeAnd o IsGivenUp) (sym now) (clears.cells, clears.freed)
    | inr away ↦
        let less : k < n = elim (cases_lt k n) [
          | inl lt ↦ lt
          | inr ge ↦ let last : k ≡ n = omega (arith, ge, low) in absurd (away (ap (slice_index slots) last))
        ] in
        let same : slice_get new (slice_index slots k) ≡ slice_get mid (slice_index slots k) =
        ap (λ (cs : List (ContentState T U)). slice_get cs (slice_index slots k)) clears.cleared
        ∙ slice_get-set_other mid (slice_index slots n) (slice_index slots k) clears.content away in
        subst (λ o. IsSomeAnd o IsGivenUp) (sym same) (before k less older)
  ]

  -- or passed over, since it isn't before `start`.
  pub given_up-passed : (n : ℕ) (mid : List (ContentState T U)) → GivesUpFirst n mid → start ≤ slice_index slots n
      → GivesUpFirst (n + 1) mid
  given_up-passed n mid before late k low older = elim (cases_lt k n) [
    | inl lt ↦ before k lt older
    | inr ge ↦ let last : k ≡ n = omega (arith, ge, low) in
        absurd (let e = ap (slice_index slots) last in omega (arith, e, late, older))
  ]

  -- All of them are passed.
  pub given_up-all : (contents : List (ContentState T U)) → GivesUpFirst (length slots) contents
      → All (λ slot. slot < start → SomeAt contents slot IsGivenUp) slots
  given_up-all contents first k d lt =
      let is : slice_index slots k ≡ get_or slots k d = sym (get_or_default_zero slots k d lt) in
      subst (λ slot. slot < start → SomeAt contents slot IsGivenUp) is (first k lt)

-- At first nothing is cleared.
pub clears-none : {T U : Type 0} (b : Book) (end : ℕ) (contents : List (ContentState T U))
    → ClearsUnused b end contents contents
clears-none b end contents = record {
  count = refl;
  kept = λ slot either. refl;
  forms = λ all. all;
  lists = λ n all. all;
  cells = record { at = λ slot content there some. there };
}

-- The first n of these slots, as far as they are before `start`, are cleared. By each book in which nobody holds the
-- slots, only unused ones are.
pub record ClearedFirst {T U : Type 0} (slots : List ℕ) (start n : ℕ) (old new : List (ContentState T U)) : Type 0 where
  pub count : length new ≡ length old
  pub clears : (b : Book) → All (λ slot. holders_at b slot ≡ 0) slots → ClearsUnused b start old new
  pub given_up : GivesUpFirst slots start n new

module _ {T U : Type 0} (slots : List ℕ) (start : ℕ) (old : List (ContentState T U)) where
  pub cleared-none : ClearedFirst slots start 0 old old
  cleared-none = record {
    count = refl;
    clears = λ b unused. clears-none b start old;
    given_up = λ k low. absurd (omega (arith, low));
  }

  pub cleared-next : (n : ℕ) (mid new : List (ContentState T U)) → n < length slots → ClearedFirst slots start n old mid
      → slice_index slots n < start → ClearsSlot mid new (slice_index slots n)
      → ClearedFirst slots start (n + 1) old new
  cleared-next n mid new within before older clears = record {
    count = ap length clears.cleared ∙ length-set mid (slice_index slots n) clears.content ∙ before.count;
    clears = λ b unused.
        clears-next b start old mid new (slice_index slots n) (before.clears b unused) (unused n 0 within) older clears;
    given_up = given_up-next slots start n mid new before.given_up clears;
  }

  pub cleared-passed : (n : ℕ) (mid : List (ContentState T U)) → ClearedFirst slots start n old mid
      → start ≤ slice_index slots n → ClearedFirst slots start (n + 1) old mid
  cleared-passed n mid before late = record {
    count = before.count;
    clears = before.clears;
    given_up = given_up-passed slots start n mid before.given_up late;
  }

-- ---- the fields

module _ {T U : Type 0} (f : Fields T U) (sound : IsDomain f) (i : ℕ) (x : PublisherFields)
    (at : get_or f.publishers i None ≡ Some x) (f' : Fields T U) (g : ClearsOlder f x f') where
  abbrev changed : List (Option (List (ContentState T U)))
  changed = slice_set f.contents x.book (Some g.left)

  abbrev after : Fields T U
  after = record f { contents = changed }

  here : get_or changed x.book None ≡ Some g.left
  here = set-here f.contents x.book g.contents g.left g.had

  others : (k : ℕ) → k ≢ x.book → get_or changed k None ≡ get_or f.contents k None
  others k away = set-others f.contents x.book g.contents g.left g.had k away

  -- in each slot of the book lies what lay there
  in_book : (s : ℕ) → message_in g.book g.left s ≡ message_in g.book g.contents s
  in_book s = elim (cases_lt 0 (holders_at g.book s)) [
    | inl held ↦ λ t. cond (nat_lt 0 (holders_at g.book s)) (option_and_then (λ header. option_and_then (λ content.
        option_map (message_of (g.book).publisher (slice_index (g.book).numbers s) header content)
        (slice_get (g.book).marks s))
        ((g.clears).kept s (inl held) t)) (slice_get (g.book).headers s)) None
    | inr none ↦
        let free : holders_at g.book s ≡ 0 = omega (arith, none) in
        message_in-free g.book g.left s free ∙ sym (message_in-free g.book g.contents s free)
  ]

  -- and in each of any book
  lies : (k s : ℕ) (c : Book) → get f.books k ≡ Some c
      → message_in c (contents_at changed k) s ≡ message_in c (contents_at f.contents k) s
  lies k s c there = elim (cases_eq k x.book) [
    | inl same ↦
        let both : Some g.book ≡ Some c = sym g.stood ∙ sym (ap (get f.books) same) ∙ there in
        let is : g.book ≡ c = cc in
        ap (λ (j : ℕ). message_in c (contents_at changed j) s) same
        ∙ ap (λ o. message_in c (contents_in o) s) here
        ∙ subst (λ (e : Book). message_in e g.left s ≡ message_in e g.contents s) is (in_book s)
        ∙ sym (ap (λ o. message_in c (contents_in o) s) g.had)
        ∙ sym (ap (λ (j : ℕ). message_in c (contents_at f.contents j) s) same)
    | inr away ↦ ap (λ o. message_in c (contents_in o) s) (others k away)
  ]

  -- so the same is kept
  kept : kept_of after ≡ kept_of f
  kept = λ t. record (kept_of f) { books = books t } where
    book : (k : ℕ) (o : Option Book) → slice_get (f.books).slots k ≡ Some o
        → kept_book changed k o ≡ kept_book f.contents k o
    book k None there = refl
    book k (Some c) there =
        let stands : get f.books k ≡ Some c = get_or_from_slice_get (f.books).slots k (Some c) None there in
        ap (λ (ms : List (Option (KeptMessage T U))).
        let kept : Option (KeptBook T U) = Some (record { publisher = c.publisher; slots = ms }) in kept)
        (map_from_zero-alike (λ s holders. message_in c (contents_at changed k) s)
        (λ s holders. message_in c (contents_at f.contents k) s) c.holders
        (λ s holders _. lies k s c stands))

    books : map_from (kept_book changed) 0 (f.books).slots ≡ map_from (kept_book f.contents) 0 (f.books).slots
    books = map_from_zero-alike (kept_book changed) (kept_book f.contents) (f.books).slots book

  -- what holds of the contents of each book, and of what is left, holds still
  still : (P : List (ContentState T U) → Type 0) → (P g.contents → P g.left) → (k : ℕ)
      → IsSomeAnd (get_or f.contents k None) P → IsSomeAnd (get_or changed k None) P
  still P keeps k has = elim (cases_eq k x.book) [
    | inl same ↦
        let old : P g.contents =
        subst (λ o. IsSomeAnd o P) (ap (λ (j : ℕ). get_or f.contents j None) same ∙ g.had) has in
        subst (λ o. IsSomeAnd o P) (sym (ap (λ (j : ℕ). get_or changed j None) same ∙ here)) (keeps old)
    | inr away ↦ subst (λ o. IsSomeAnd o P) (sym (others k away)) has
  ]

  abbrev HasRoomOf : PublisherFields → Option (List (ContentState T U)) → Type 0
  HasRoomOf z o =
      IsSomeAnd o (HasRoomFrom z.segment_start (slot_length z.segment_length * (f.config).units_per_element))

  -- no slot of the current segment loses room
  own_room : HasRoomOf x (get_or changed x.book None)
  own_room =
      let was : HasRoomFrom x.segment_start (slot_length x.segment_length * (f.config).units_per_element) g.contents =
      subst (HasRoomOf x) g.had (sound.parts.books.publishers i x at).room in
      subst (HasRoomOf x) (sym here)
      (record {
        at = λ slot content from there.
            was.at slot content from (sym ((g.clears).kept slot (inr from)) ∙ there);
      })

  room : (k : ℕ) (z : PublisherFields) → get_or f.publishers k None ≡ Some z → HasRoomOf z (get_or changed z.book None)
  room k z there = elim (cases_eq k i) [
    | inl same ↦
        let found : Some x ≡ Some z = sym at ∙ sym (ap (λ (j : ℕ). get_or f.publishers j None) same) ∙ there in
        let is : x ≡ z = cc in
        subst (λ (w : PublisherFields). HasRoomOf w (get_or changed w.book None)) is own_room
    | inr away ↦ subst (HasRoomOf z) (sym (others z.book (books-apart f sound.parts i x at k z away there)))
        (sound.parts.books.publishers k z there).room
  ]

  has_books : HasBooks after
  has_books = record {
    one_each = sound.parts.books.one_each;
    books = λ k e there. let is = sound.parts.books.books k e there in record {
      aligned = is.aligned;
      shaped = still (λ zs. length zs ≡ length e.holders) (λ long. (g.clears).count ∙ long) k is.shaped;
    };
    publishers = λ k z there. let has = sound.parts.books.publishers k z there in record {
      book = has.book;
      stands = has.stands;
      is_its = has.is_its;
      node = has.node;
      slots = has.slots;
      room = room k z there;
    };
    no_others = λ k none. elim (cases_eq k x.book) [
      | inl same ↦ absurd (let no : None ≡ Some g.book = sym none ∙ ap (get f.books) same ∙ g.stood in cc)
      | inr away ↦ others k away ∙ sound.parts.books.no_others k none
    ];
  }

  shapes : HasShapes after
  shapes = record {
    at = λ k slot b m there lies_there.
        sound.parts.shapes.at k slot b m there (sym (lies k slot b there) ∙ lies_there);
  }

  -- its slots have as many lists as they had
  listed : All (λ content. content.lists ≡ cell_lists f.config x.max_loaned_samples) g.left
  listed =
      (g.clears).lists (cell_lists f.config x.max_loaned_samples) (sound.parts.open_loans.lists i x g.contents at g.had)

  left-at : (k : ℕ) (cs : List (ContentState T U)) → k ≡ x.book → get_or changed k None ≡ Some cs → g.left ≡ cs
  left-at k cs same there =
      let found : Some g.left ≡ Some cs = sym here ∙ sym (ap (λ (j : ℕ). get_or changed j None) same) ∙ there in cc

  forms : HasForms f.config changed
  forms = record {
    at = λ several k cs there. elim (cases_eq k x.book) [
      | inl same ↦ subst (All (λ content. content.is_in_place ≡ false)) (left-at k cs same there)
          ((g.clears).forms (sound.parts.forms.at several x.book g.contents g.had))
      | inr away ↦ sound.parts.forms.at several k cs (sym (others k away) ∙ there)
    ];
    cells = λ several lists k cs there. elim (cases_eq k x.book) [
      | inl same ↦
          subst (All (λ content. 0 < content.lists)) (left-at k cs same there)
          (All-weaker (λ content. content.lists ≡ cell_lists f.config x.max_loaned_samples)
          (λ content. 0 < content.lists)
          (λ content are. subst (λ n. 0 < n) (sym are) (lists-some f.config x.max_loaned_samples several lists)) g.left
          listed)
      | inr away ↦ sound.parts.forms.cells several lists k cs (sym (others k away) ∙ there)
    ];
  }

  -- each slot with cells had them
  opened : (k slot : ℕ) → 0 < cell_count changed k slot → 0 < cell_count f.contents k slot
  opened k slot some = elim (cases_eq k x.book) [
    | inl same ↦
        let is = cells-some (slice_get g.left slot)
        (subst (λ (n : ℕ). 0 < n) (cells-read changed x.book slot (Some g.left) here)
        (subst (λ (j : ℕ). 0 < cell_count changed j slot) same some)) in
        let had : slice_get g.contents slot ≡ Some is.0 = ((g.clears).cells).at slot is.0 is.1 is.2 in
        let count : cell_count f.contents k slot ≡ length (is.0).cells =
        ap (λ (j : ℕ). cell_count f.contents j slot) same ∙ cells-read f.contents x.book slot (Some g.contents) g.had
        ∙ ap cells_if had in
        omega (arith, count, is.2)
    | inr away ↦
        subst (λ (n : ℕ). 0 < n) (ap (λ (o : Option (List (ContentState T U))). cells_in o slot) (others k away)) some
  ]

  keeps-lists : KeepsLists f.contents changed
  keeps-lists = record {
    at = λ k cs there. elim (cases_eq k x.book) [
      | inl same ↦ (
        g.contents,
        ap (λ (j : ℕ). get_or f.contents j None) same ∙ g.had,
        λ n all. subst (All (λ content. content.lists ≡ n)) (left-at k cs same there) ((g.clears).lists n all),
      )
      | inr away ↦ (cs, sym (others k away) ∙ there, λ n all. all)
    ];
  }

  open_loans : HasOpenLoans f.config f.publishers f.books changed
  open_loans = open-kept f.publishers f.books f.books f.contents changed opened
      (λ k slot some. refl) keeps-lists sound.parts.open_loans

  parts : HasParts after
  parts = record {
    publisher_ids = sound.parts.publisher_ids;
    subscriber_ids = sound.parts.subscriber_ids;
    apart = sound.parts.apart;
    linked = linked-same f f.next_message f.warnings f.books changed sound.parts.linked;
    expired_room = sound.parts.expired_room;
    books = has_books;
    names = sound.parts.names;
    counted = record { at = sound.parts.counted.at };
    numbered = sound.parts.numbered;
    publisher_room = sound.parts.publisher_room;
    warning_room = sound.parts.warning_room;
    shapes = shapes;
    forms = forms;
    open_loans = open_loans;
    plain = sound.parts.plain;
  }

  -- the step
  pub older-reaches : Reaches f f' (state_of (kept_of f))
  older-reaches = subst (λ (h : Fields T U). Reaches f h (state_of (kept_of f))) (sym g.is) (record {
    agrees = record {
      parts = parts;
      kept_books = sound.kept_books;
      lone = sound.lone;
      well_formed = subst (λ (k : Kept T U ⊥ ⊥). IsWellFormed (state_of k)) (sym kept) sound.well_formed;
      entries = subst (λ (k : Kept T U ⊥ ⊥). KeepsEntries k) (sym kept) sound.entries;
    };
    state = ap (λ (k : Kept T U ⊥ ⊥). state_of k) kept;
    entries = λ n entry there. sym (ap (λ (k : Kept T U ⊥ ⊥). entries_of k n) kept) ∙ there;
    places = places-still;
  })
