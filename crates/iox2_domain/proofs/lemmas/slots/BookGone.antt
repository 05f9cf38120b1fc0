-- A book goes whose publisher is gone and of which no slot has a holder.
use Rattle.std.proofs.Common.{◌≡◌, ◌≢◌, ◌⊎◌, ℕ, ◌+◌, List, [], map, cond, eqb, get_or, refl, ap, sym, subst, ◌∙◌, inl}
use Rattle.std.proofs.Common.{inr, arith}
use Rattle.std.proofs.lemmas.Bool.{cases_eq, eq-eqb, ne_eqb}
use Rattle.std.proofs.lemmas.List.{get_or-set_same, get_or-set_other}
use Rattle.std.proofs.lemmas.Option.{none-some}
use Rattle.std.specs.Prelude.{◌<◌, slice_get}
use Rattle.std.specs.declared.option.Option.{Option}
use Rattle.std.specs.declared.option.Option.TheVariants.{None, Some}
use Rattle.std.specs.Option.{option_map, option_map_or, option_and_then}
use Rattle.std.specs.List.{sum_by}
use Rattle.slab.specs.Slab.{get}
use Rattle.iox2_connections.specs.Link.{Link}
use Rattle.iox2_slots.specs.SlotBook.{Book, holders_at}
use Rattle.iox2_contents.specs.SlotContents.{ContentState}
use Rattle.iox2_connections.specs.LookUp.{look_up}
use Rattle.iox2_connections.specs.Counters.{times, stands}
use Rattle.iox2_connections.specs.Mailboxes.{sender_ends, mailbox_of}
use Rattle.iox2_connections.proofs.LookUps.{look_up-found, look_up-nothing}
use Rattle.iox2_connections.proofs.MailboxChanges.{within_if_some}
use Rattle.iox2_domain.specs.Ports.{PublisherFields}
use Rattle.iox2_domain.specs.Kept.{state_of, loan_in, message_numbered, port_named, ids, stands_between}
use Rattle.iox2_domain.specs.Kept.{mailbox_if_between, channels_if_between}
use Rattle.iox2_domain.specs.Fields.{Fields, kept_of, kept_book, map_from, is_book_of, number_in_slot, message_in}
use Rattle.iox2_domain.specs.Fields.{messages_in, contents_at, publisher_of, between_of, blocked_send}
use Rattle.iox2_domain.specs.Invariant.{HasLoneLoans, HasNumber, HasBook, HasBooks, IsBook, NamesBooks, IsNumbered}
use Rattle.iox2_domain.specs.Invariant.{IsCounted, HasShapes, HasForms, IsOwned, IsLeft, KeepsBooks, holders_of}
use Rattle.iox2_domain.specs.Invariant.{own_holders, is_publisher, is_loan_in, cell_count, mark_at, HasParts}
use Rattle.iox2_domain.specs.LeftBooks.{with_book_gone}
use Rattle.iox2_domain.proofs.lemmas.containers.LookUps.{look_up-removed, IsOnly-removed}
use Rattle.iox2_domain.proofs.lemmas.slots.BookContents.{contents-there}
use Rattle.iox2_domain.proofs.lemmas.slots.MessageLists.{look_up-nothing_there, found_in, numbered-same}
use Rattle.iox2_domain.proofs.lemmas.slots.Messages.{map_from_zero-at}
use Rattle.iox2_domain.proofs.lemmas.slots.OpenLoans.{KeepsLists, open-kept}
use Rattle.iox2_domain.proofs.lemmas.slots.SlotCells.{cells_in, cells-read}
use Rattle.iox2_domain.proofs.lemmas.slots.Renumbered.{map-alike}
use Rattle.iox2_domain.proofs.lemmas.fields.SameLinks.{linked-same}
use mathlib.Core.Path.{fun_ext}

module _ {T U : Type 0} (f : Fields T U) (parts : HasParts f) (key : ℕ) (b : Book) (at : get f.books key ≡ Some b)
    (unused : (slot : ℕ) → holders_at b slot ≡ 0)
    (gone : (i : ℕ) (x : PublisherFields) → get_or f.publishers i None ≡ Some x → x.id ≢ b.publisher)
    (unnamed : (k : ℕ) (c : Link) → get f.connections k ≡ Some c → c.home.publisher ≢ b.publisher) where
  -- the fields without it
  abbrev after : Fields T U
  after = with_book_gone f key

  -- ---- which book stands where

  here : get after.books key ≡ None
  here = get_or-set_same f.books.slots key None None (within_if_some f.books.slots key b at)

  others : (k : ℕ) → k ≢ key → get after.books k ≡ get f.books k
  others k away = get_or-set_other f.books.slots key k None None away

  -- a book that is there stood there before, at another key
  was_book : (k : ℕ) (c : Book) → get after.books k ≡ Some c → (k ≢ key) × (get f.books k ≡ Some c)
  was_book k c there = elim (cases_eq k key) [
    | inl same ↦ absurd (let no : None ≡ Some c = sym here ∙ ap (get after.books) (sym same) ∙ there in cc)
    | inr away ↦ (away, sym (others k away) ∙ there)
  ]

  -- a book of another publisher stands at another key
  another : (k : ℕ) (c : Book) → get f.books k ≡ Some c → c.publisher ≢ b.publisher → k ≢ key
  another k c there other same =
      let both : Some c ≡ Some b = sym there ∙ ap (get f.books) same ∙ at in
      let is : c ≡ b = cc in
      other (ap (λ (d : Book). d.publisher) is)

  contents-here : get_or after.contents key None ≡ None
  contents-here = get_or-set_same f.contents key None None
      (let there = contents-there f parts key b at in within_if_some f.contents key there.0 there.1)

  contents-others : (k : ℕ) → k ≢ key → get_or after.contents k None ≡ get_or f.contents k None
  contents-others k away = get_or-set_other f.contents key k None None away

  contents-same : (k : ℕ) → k ≢ key → contents_at after.contents k ≡ contents_at f.contents k
  contents-same k away =
      ap (λ (o : Option (List (ContentState T U))). elim o [ None ↦ [] | Some cs ↦ cs ]) (contents-others k away)

  -- ---- books by their publishers

  book-found : (p : ℕ)
      → look_up (is_book_of p) after.books.slots ≡ cond (eqb b.publisher p) None (look_up (is_book_of p) f.books.slots)
  book-found p =
      look_up-removed (is_book_of p) f.books.slots after.books.slots key b (parts.books.one_each p)
      (IsOnly-removed (is_book_of p) f.books.slots after.books.slots key (parts.books.one_each p) here others) at here
      others

  other-book : (p : ℕ) → p ≢ b.publisher
      → look_up (is_book_of p) after.books.slots ≡ look_up (is_book_of p) f.books.slots
  other-book p away = book-found p
      ∙ ap (λ t. cond t None (look_up (is_book_of p) f.books.slots)) (ne_eqb b.publisher p (λ same. away (sym same)))

  no-book : look_up (is_book_of b.publisher) after.books.slots ≡ None
  no-book = book-found b.publisher
      ∙ ap (λ t. cond t None (look_up (is_book_of b.publisher) f.books.slots)) (eq-eqb b.publisher b.publisher refl)

  -- the slots of the other publishers keep their numbers
  numbers-same : (p : ℕ) → p ≢ b.publisher → number_in_slot after.books p ≡ number_in_slot f.books p
  numbers-same p away = ap {B = ℕ → ℕ}
      (λ (o : Option Book) (slot : ℕ). option_map_or (λ (c : Book). get_or c.numbers slot 0) o 0) (other-book p away)

  -- ---- what lies in slots

  -- nothing lay in its slots
  nothing_in : (cs : List (ContentState T U)) (slot : ℕ) → message_in b cs slot ≡ None
  nothing_in cs slot = rw (unused slot) refl

  -- each number has the message that it had
  pub messages-same : (n : ℕ) → message_numbered n (map_from (kept_book after.contents) 0 after.books.slots)
      ≡ message_numbered n (map_from (kept_book f.contents) 0 f.books.slots)
  messages-same n = numbered-same n (map_from (kept_book f.contents) 0 f.books.slots)
      (map_from (kept_book after.contents) 0 after.books.slots) found where
        by : (k : ℕ) (o : Option Book) → k ≢ key
            → found_in n (kept_book after.contents k o) ≡ found_in n (kept_book f.contents k o)
        by k None away = refl
        by k (Some c) away = ap (λ cs. found_in n (Some (record { publisher = c.publisher; slots = messages_in c cs })))
            (contents-same k away)

        nothing : found_in n (kept_book f.contents key (Some b)) ≡ None
        nothing = look_up-nothing_there _ (λ (slot holders : ℕ). message_in b (contents_at f.contents key) slot)
            (λ slot holders. nothing_in (contents_at f.contents key) slot) 0 b.holders

        each : (k : ℕ) → found_in n (kept_book after.contents k (get after.books k)) ≡ found_in n
            (kept_book f.contents k (get f.books k))
        each k = elim (cases_eq k key) [
          | inl same ↦ subst (λ (j : ℕ). found_in n (kept_book after.contents j (get after.books j)) ≡ found_in n
              (kept_book f.contents j (get f.books j))) (sym same)
              (ap (λ o. found_in n (kept_book after.contents key o)) here ∙ sym nothing
              ∙ sym (ap (λ o. found_in n (kept_book f.contents key o)) at))
          | inr away ↦ ap (λ o. found_in n (kept_book after.contents k o)) (others k away) ∙ by k (get f.books k) away
        ]

        found : (i : ℕ)
            → found_in n (get_or (map_from (kept_book after.contents) 0 after.books.slots) i None) ≡ found_in n
            (get_or (map_from (kept_book f.contents) 0 f.books.slots) i None)
        found i =
            ap (found_in n) (map_from_zero-at (kept_book after.contents) None after.books.slots (λ k le. refl) i)
            ∙ each i
            ∙ sym (ap (found_in n) (map_from_zero-at (kept_book f.contents) None f.books.slots (λ k le. refl) i))

  -- ---- the state and the entries

  publishers-shown : map (option_map (publisher_of after.books f.connections)) f.publishers ≡ map
      (option_map (publisher_of f.books f.connections)) f.publishers
  publishers-shown = map-alike (publisher_of after.books f.connections)
      (publisher_of f.books f.connections) f.publishers (λ i x stands.
      ap (λ (number : ℕ → ℕ). record (publisher_of f.books f.connections x) {
        port = record ((publisher_of f.books f.connections x).port) {
          loans = map number x.loans;
          history = map number x.history.items;
          blocked = option_map (blocked_send number (sender_ends f.connections x.keys)) x.blocked;
        };
      })
      (numbers-same x.id (gone i x stands)))

  connections-shown : map (option_map (between_of after.books f.connections)) f.connections.slots ≡ map
      (option_map (between_of f.books f.connections)) f.connections.slots
  connections-shown = map-alike (between_of after.books f.connections)
      (between_of f.books f.connections) f.connections.slots (λ k c there.
      ap (λ (number : ℕ → ℕ). record (between_of f.books f.connections c) { mailbox = mailbox_of number c })
      (numbers-same c.home.publisher (unnamed k c there)))

  -- the machine sees nothing of it
  pub gone-state : state_of (kept_of after) ≡ state_of (kept_of f)
  gone-state = λ i. record (state_of (kept_of f)) {
    loans = fun_ext (λ n. ap (option_and_then loan_in) (messages-same n)) i;
    publishers = λ p. port_named p (publishers-shown i);
    mailboxes = λ p q. mailbox_if_between (look_up (stands_between p q) (connections-shown i));
    channels = λ p q. channels_if_between (look_up (stands_between p q) (connections-shown i));
    publisher_places = ids (publishers-shown i);
  }

  -- ---- the parts

  -- a slot in use was so before, with its number
  pub gone-number : (k slot n : ℕ) → HasNumber after.books k slot n → HasNumber f.books k slot n
  gone-number k slot n has =
      record { book = has.book; stands = (was_book k has.book has.stands).1; in_use = has.in_use; number = has.number }

  numbered : IsNumbered f.next_message after.books
  numbered = record {
    one = λ k k' slot slot' n this that.
        parts.numbered.one k k' slot slot' n (gone-number k slot n this) (gone-number k' slot' n that);
    below = λ k slot n this. parts.numbered.below k slot n (gone-number k slot n this);
  }

  -- what the publisher itself has of the slot, or what is out of one that is gone
  abbrev own : (s : ℕ) → Option PublisherFields → Option Book → ℕ
  own s o book =
      option_map_or (λ (z : PublisherFields). times s z.loans + times s (z.history).items) o
      (option_map_or (λ c. cond (is_loan_in c s) 1 0) book 0)

  nobody : look_up (is_publisher b.publisher) f.publishers ≡ None
  nobody =
      look_up-nothing (is_publisher b.publisher) f.publishers (λ i x stands. ne_eqb x.id b.publisher (gone i x stands))

  counted : IsCounted after
  counted = record {
    at = λ p s.
        elim (cases_eq p b.publisher) [ inl same ↦ rw same (its s) | inr away ↦ apart p s away ];
  } where
    its : (s : ℕ) → holders_of after.books b.publisher s ≡ own_holders after b.publisher s + sum_by
        (stands b.publisher s) f.connections.slots
    its s =
        let now : holders_of after.books b.publisher s ≡ 0 =
        ap (λ o. option_map_or (λ (c : Book). holders_at c s) o 0) no-book in
        let has : own_holders after b.publisher s ≡ 0 =
        ap (λ o. own s o (look_up (is_book_of b.publisher) after.books.slots)) nobody ∙ ap (own s None) no-book in
        let then : holders_of f.books b.publisher s ≡ 0 =
        ap (λ o. option_map_or (λ (c : Book). holders_at c s) o 0)
        (look_up-found (is_book_of b.publisher) f.books.slots key b (parts.books.one_each b.publisher) at
        (eq-eqb b.publisher b.publisher refl)) ∙ unused s in
        omega (arith, now, has, then, parts.counted.at b.publisher s)

    apart : (p s : ℕ) → p ≢ b.publisher
        → holders_of after.books p s ≡ own_holders after p s + sum_by (stands p s) f.connections.slots
    apart p s away =
        ap (λ o. option_map_or (λ (c : Book). holders_at c s) o 0) (other-book p away)
        ∙ parts.counted.at p s
        ∙ ap (λ n. n + sum_by (stands p s) f.connections.slots)
        (sym (ap (own s (look_up (is_publisher p) f.publishers)) (other-book p away)))

  has_books : HasBooks after
  has_books = record {
    one_each =
        λ p. IsOnly-removed (is_book_of p) f.books.slots after.books.slots key (parts.books.one_each p) here others;
    books = λ k c there. let was = was_book k c there in
        subst (IsBook c) (sym (contents-others k was.0)) (parts.books.books k c was.1);
    publishers = λ i x stands. its i x stands (parts.books.publishers i x stands);
    no_others = λ k none. elim (cases_eq k key) [
      | inl same ↦ ap (λ (j : ℕ). get_or after.contents j None) same ∙ contents-here
      | inr away ↦ contents-others k away ∙ parts.books.no_others k (sym (others k away) ∙ none)
    ];
  } where
    its : (i : ℕ) (x : PublisherFields) → get_or f.publishers i None ≡ Some x → HasBook f x → HasBook after x
    its i x stands has =
        let away : x.book ≢ key =
        another x.book has.book has.stands (λ same. gone i x stands (sym has.is_its ∙ same)) in
        record {
          book = has.book;
          stands = others x.book away ∙ has.stands;
          is_its = has.is_its;
          node = has.node;
          slots = has.slots;
          room = rw (contents-others x.book away) has.room;
        }

  names : NamesBooks after.books f.connections
  names = record {
    at = λ k c there.
        let has = parts.names.at k c there in
        let away = another c.home.book has.book has.stands (λ same. unnamed k c there (sym has.is_its ∙ same)) in
        record { book = has.book; stands = others c.home.book away ∙ has.stands; is_its = has.is_its };
  }

  shapes : HasShapes after
  shapes = record {
    at = λ k slot c m there lies.
        let was = was_book k c there in
        parts.shapes.at k slot c m was.1 (ap (λ cs. message_in c cs slot) (sym (contents-same k was.0)) ∙ lies);
  }

  forms : HasForms f.config after.contents
  forms = record {
    at = λ several k cs there. elim (cases_eq k key) [
      | inl same ↦ absurd (let no : None ≡ Some cs = sym contents-here
          ∙ ap (λ (j : ℕ). get_or after.contents j None) (sym same) ∙ there in cc)
      | inr away ↦ parts.forms.at several k cs (sym (contents-others k away) ∙ there)
    ];
    cells = λ several lists k cs there. elim (cases_eq k key) [
      | inl same ↦ absurd (let no : None ≡ Some cs = sym contents-here
          ∙ ap (λ (j : ℕ). get_or after.contents j None) (sym same) ∙ there in cc)
      | inr away ↦ parts.forms.cells several lists k cs (sym (contents-others k away) ∙ there)
    ];
  }

  -- what has cells is of another book
  another-key : (k slot : ℕ) → 0 < cell_count after.contents k slot → k ≢ key
  another-key k slot some same =
      absurd (let none : cell_count after.contents k slot ≡ 0 = ap (λ (j : ℕ). cell_count after.contents j slot) same
      ∙ cells-read after.contents key slot None contents-here in omega arith)

  had-cells : (k slot : ℕ) → 0 < cell_count after.contents k slot → 0 < cell_count f.contents k slot
  had-cells k slot some = subst (λ (o : Option (List (ContentState T U))). 0 < cells_in o slot)
      (contents-others k (another-key k slot some)) some

  same-marks : (k slot : ℕ) → 0 < cell_count after.contents k slot → mark_at after.books k slot ≡ mark_at f.books k slot
  same-marks k slot some =
      ap (option_and_then (λ (c : Book). slice_get c.marks slot)) (others k (another-key k slot some))

  keeps-lists : KeepsLists f.contents after.contents
  keeps-lists = record {
    at = λ k cs there.
        let away : k ≢ key = λ same. absurd
        (none-some cs (sym contents-here ∙ sym (ap (λ (j : ℕ). get_or after.contents j None) same) ∙ there)) in
        (cs, sym (contents-others k away) ∙ there, λ n all. all);
  }

  -- the fields agree with one another
  pub gone-parts : HasParts after
  gone-parts = record {
    publisher_ids = parts.publisher_ids;
    subscriber_ids = parts.subscriber_ids;
    apart = parts.apart;
    linked = linked-same f f.next_message f.warnings after.books after.contents parts.linked;
    expired_room = parts.expired_room;
    books = has_books;
    names = names;
    counted = counted;
    numbered = numbered;
    publisher_room = parts.publisher_room;
    warning_room = parts.warning_room;
    shapes = shapes;
    forms = forms;
    open_loans = open-kept f.publishers f.books after.books f.contents after.contents had-cells same-marks keeps-lists
        parts.open_loans;
    plain = parts.plain;
  }

  -- each loan has one holder still
  pub gone-lone : HasLoneLoans f.books → HasLoneLoans after.books
  gone-lone lone = record { at = λ k slot c there loan. lone.at k slot c (was_book k c there).1 loan }

  -- the other books are somebody's, or left, still
  pub gone-kept : ((k : ℕ) (c : Book) → k ≢ key → get f.books k ≡ Some c
      → IsOwned f.publishers k c.publisher ⊎ IsLeft f.next_port f.publishers c)
      → KeepsBooks f.next_port f.publishers after.books
  gone-kept kept = record { at = λ k c there. let was = was_book k c there in kept k c was.0 was.1 }
