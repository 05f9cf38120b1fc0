-- One book changes; its slots keep their publisher and their numbers.
use Rattle.std.proofs.Common.{◌≡◌, ◌≢◌, ℕ, List, Bool, true, false, cond, eqb, length, map, get_or, refl, ap, sym}
use Rattle.std.proofs.Common.{subst, ◌∙◌, inl, inr, ◌⊎◌, arith}
use Rattle.std.proofs.lemmas.Bool.{cases_eq}
use Rattle.std.proofs.lemmas.List.{get_or-set_same, get_or-set_other}
use Rattle.std.specs.Prelude.{slice_index, IsSomeAnd}
use Rattle.std.specs.declared.option.Option.{Option}
use Rattle.std.specs.declared.option.Option.TheVariants.{None, Some}
use Rattle.std.specs.Option.{option_map, option_map_or}
use Rattle.slab.specs.Slab.{Slab, get, with_value}
use Rattle.iox2_slots.specs.SlotBook.{Book, IsAligned, holders_at}
use Rattle.iox2_contents.specs.SlotContents.{ContentState}
use Rattle.iox2_connections.specs.LookUp.{look_up, IsOnly}
use Rattle.iox2_connections.specs.Mailboxes.{mailbox_of, sender_ends}
use Rattle.iox2_connections.proofs.LookUps.{look_up-changed, look_up-found}
use Rattle.iox2_connections.proofs.MailboxChanges.{within_if_some}
use Rattle.iox2_domain.specs.Ports.{PublisherFields}
use Rattle.iox2_domain.specs.Kept.{state_of, port_named, ids, stands_between, mailbox_if_between, channels_if_between}
use Rattle.iox2_domain.specs.Fields.{Fields, kept_of, publisher_of, between_of, is_book_of, number_in_slot}
use Rattle.iox2_domain.specs.Fields.{blocked_send}
use Rattle.iox2_domain.specs.Invariant.{IsLinked, HasBook, HasBooks, holders_of}
use Rattle.iox2_domain.proofs.lemmas.fields.SameLinks.{linked-same}
use mathlib.Core.Path.{fun_ext}

-- the fields with this book at the key
abbrev pub with_book : {T U : Type 0} → Fields T U → (key : ℕ) → Book → Fields T U
with_book f key b = record f { books = with_value f.books key b }

-- the slots of the book keep their publisher and their numbers
pub record KeepsSlots (b d : Book) : Type 0 where
  pub publisher : d.publisher ≡ b.publisher
  pub node : d.node ≡ b.node
  pub numbers : d.numbers ≡ b.numbers
  pub slots : length d.holders ≡ length b.holders

module _ {T U : Type 0} (f : Fields T U) (key : ℕ) (b d : Book) (at : get f.books key ≡ Some b)
    (keeps : KeepsSlots b d) where
  abbrev changed : Slab Book
  changed = with_value f.books key d

  -- ---- which book stands where

  pub book-here : get changed key ≡ Some d
  book-here = get_or-set_same f.books.slots key (Some d) None (within_if_some f.books.slots key b at)

  pub book-others : (k : ℕ) → k ≢ key → get changed k ≡ get f.books k
  book-others k away = get_or-set_other f.books.slots key k (Some d) None away

  -- a book is the changed one, or stood there before
  pub book-was : (k : ℕ) (e : Book) → get changed k ≡ Some e
      → ((k ≡ key) × (e ≡ d)) ⊎ ((k ≢ key) × (get f.books k ≡ Some e))
  book-was k e there = elim (cases_eq k key) [
    | inl same ↦ let is : Some d ≡ Some e = sym book-here ∙ sym (ap (get changed) same) ∙ there in inl (same, cc)
    | inr away ↦ inr (away, sym (book-others k away) ∙ there)
  ]

  -- a book with the same slots stood where one stands
  pub book-before : (k : ℕ) (e : Book) → get changed k ≡ Some e → (o : Book) × (get f.books k ≡ Some o) × KeepsSlots o e
  book-before k e there = elim (book-was k e there) [
    | inl is ↦ (b, ap (get f.books) is.0 ∙ at, subst (KeepsSlots b) (sym is.1) keeps)
    | inr away ↦ (e, away.1, record { publisher = refl; node = refl; numbers = refl; slots = refl })
  ]

  -- each book is there still, with its publisher
  pub book-after : (k : ℕ) (e : Book) → get f.books k ≡ Some e
      → (o : Book) × (get changed k ≡ Some o) × (o.publisher ≡ e.publisher)
  book-after k e there = elim (cases_eq k key) [
    | inl same ↦
        let is : Some b ≡ Some e = sym at ∙ sym (ap (get f.books) same) ∙ there in
        let is_b : b ≡ e = cc in
        (d, ap (get changed) same ∙ book-here, keeps.publisher ∙ ap (λ (o : Book). o.publisher) is_b)
    | inr away ↦ (e, book-others k away ∙ there, refl)
  ]

  -- ---- books by their publishers

  module _ (only : (p : ℕ) → IsOnly (is_book_of p) f.books.slots) where
    pub books-apart : (p : ℕ) → IsOnly (is_book_of p) changed.slots
    books-apart p = record {
      one = λ i j x y at_i at_j is_x is_y.
          let x' = book-before i x at_i in
          let y' = book-before j y at_j in
          (only p).one i j x'.0 y'.0 x'.1 y'.1 (ap (λ (q : ℕ). eqb q p) (sym x'.2.publisher) ∙ is_x)
          (ap (λ (q : ℕ). eqb q p) (sym y'.2.publisher) ∙ is_y);
    }

    look_up-book : (p : ℕ) → look_up (is_book_of p) changed.slots ≡ cond (eqb d.publisher p) (Some d)
        (look_up (is_book_of p) f.books.slots)
    look_up-book p = look_up-changed (is_book_of p) f.books.slots changed.slots key b d (only p)
        (books-apart p) at book-here book-others (ap (λ (q : ℕ). eqb q p) keeps.publisher)

    look_up-old : (p : ℕ) → eqb d.publisher p ≡ true → look_up (is_book_of p) f.books.slots ≡ Some b
    look_up-old p e =
        look_up-found (is_book_of p) f.books.slots key b (only p) at (ap (λ (q : ℕ). eqb q p) (sym keeps.publisher) ∙ e)

    -- the book of another publisher
    pub other-book : (p : ℕ) → eqb d.publisher p ≡ false
        → look_up (is_book_of p) changed.slots ≡ look_up (is_book_of p) f.books.slots
    other-book p e = look_up-book p ∙ ap (λ t. cond t (Some d) (look_up (is_book_of p) f.books.slots)) e

    -- the counters of its publisher's slots
    pub holders-here : (p slot : ℕ) → d.publisher ≡ p → holders_of changed p slot ≡ holders_at d slot
    holders-here p slot mine =
        ap (λ o. option_map_or (λ (e : Book). holders_at e slot) o 0)
        (look_up-found (is_book_of p) changed.slots key d (books-apart p) book-here
        (let e : eqb d.publisher p ≡ true = rw mine (grind arith) in e))

    -- each slot has its number
    pub numbers-same : number_in_slot changed ≡ number_in_slot f.books
    numbers-same =
        fun_ext (λ p. fun_ext (λ slot. ap (number slot) (look_up-book p) ∙ by p slot (eqb d.publisher p) refl)) where
          number : (slot : ℕ) → Option Book → ℕ
          number slot o = option_map_or (λ (e : Book). slice_index e.numbers slot) o 0

          by : (p slot : ℕ) (t : Bool) → eqb d.publisher p ≡ t
              → number slot (cond t (Some d) (look_up (is_book_of p) f.books.slots)) ≡ number_in_slot f.books p slot
          by p slot true e = ap (λ ns. slice_index ns slot) keeps.numbers ∙ sym (ap (number slot) (look_up-old p e))
          by p slot false e = refl

    -- the machine knows of the book by its loans alone
    pub book-state : state_of (kept_of (with_book f key d)) ≡ record (state_of (kept_of f))
        { loans = (state_of (kept_of (with_book f key d))).loans }
    book-state = λ i. record (state_of (kept_of f)) {
      publishers = λ p. port_named p (map (option_map (senders i)) f.publishers);
      mailboxes =
          λ p q. mailbox_if_between (look_up (stands_between p q) (map (option_map (boxes i)) f.connections.slots));
      channels =
          λ p q. channels_if_between (look_up (stands_between p q) (map (option_map (boxes i)) f.connections.slots));
      publisher_places = ids (map (option_map (senders i)) f.publishers);
      loans = (state_of (kept_of (with_book f key d))).loans;
    }
      where
        senders : publisher_of changed f.connections ≡ publisher_of f.books f.connections
        senders = λ i x. record (publisher_of f.books f.connections x) {
          port = record (publisher_of f.books f.connections x).port {
            loans = map (numbers-same i x.id) x.loans;
            history = map (numbers-same i x.id) x.history.items;
            blocked = option_map (blocked_send (numbers-same i x.id) (sender_ends f.connections x.keys)) x.blocked;
          };
        }

        boxes : between_of changed f.connections ≡ between_of f.books f.connections
        boxes = λ i c.
            record (between_of f.books f.connections c) { mailbox = mailbox_of (numbers-same i c.home.publisher) c }

  -- ---- what holds still, part by part

  -- each publisher has its book
  pub books-changed : HasBooks f → IsAligned d → HasBooks (with_book f key d)
  books-changed books aligned = record {
    one_each = books-apart books.one_each;
    books = λ k e there. elim (book-was k e there) [
      | inl is ↦ rw (is.0, is.1)
          (record { aligned = aligned; shaped = shaped (get_or f.contents key None) (books.books key b at).shaped })
      | inr away ↦ books.books k e away.1
    ];
    publishers = λ i x here. its i x (books.publishers i x here);
    no_others = λ k none. books.no_others k (elim (cases_eq k key) [
      | inl same ↦ absurd (let no : None ≡ Some d = sym none ∙ ap (get changed) same ∙ book-here in cc)
      | inr away ↦ sym (book-others k away) ∙ none
    ]);
  } where
    shaped : (o : Option (List (ContentState T U))) → IsSomeAnd o (λ cs. length cs ≡ length b.holders)
        → IsSomeAnd o (λ cs. length cs ≡ length d.holders)
    shaped None h = h
    shaped (Some cs) h = h ∙ sym keeps.slots

    its : (i : ℕ) (x : PublisherFields) → HasBook f x → HasBook (with_book f key d) x
    its i x has = elim (cases_eq x.book key) [
      | inl same ↦
          let here : Some has.book ≡ Some b = sym has.stands ∙ ap (get f.books) same ∙ at in
          let is : has.book ≡ b = cc in
          let long : length d.holders ≡ length (has.book).holders =
          keeps.slots ∙ ap (λ (e : Book). length e.holders) (sym is) in
          record {
            book = d;
            stands = ap (get changed) same ∙ book-here;
            is_its = keeps.publisher ∙ ap (λ (e : Book). e.publisher) (sym is) ∙ has.is_its;
            node = keeps.node ∙ ap (λ (e : Book). e.node) (sym is) ∙ has.node;
            slots = long ∙ has.slots;
            room = has.room;
          }
      | inr away ↦ record {
        book = has.book;
        stands = book-others x.book away ∙ has.stands;
        is_its = has.is_its;
        node = has.node;
        slots = has.slots;
        room = has.room;
      }
    ]

  -- ports and connections don't see it
  pub linked-book : IsLinked f → IsLinked (with_book f key d)
  linked-book linked = linked-same f f.next_message f.warnings (with_value f.books key d) f.contents linked
