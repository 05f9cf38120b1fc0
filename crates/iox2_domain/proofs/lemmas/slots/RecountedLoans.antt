-- A publisher's connections and the counters of its slots change together, whether it stands or is gone: where each
-- loan has one holder, its loans stay.
use Rattle.std.proofs.Common.{◌≡◌, ℕ, ◌+◌, ◌<◌, Bool, true, false, cond, get_or, refl, ap, sym, subst, ◌∙◌, inl, inr}
use Rattle.std.proofs.Common.{arith, List}
use Rattle.std.proofs.lemmas.Bool.{cases_eq, eq-eqb, eqb-true, ltb-true, lt-ltb, and_from}
use Rattle.std.specs.Prelude.{slice_get}
use Rattle.std.specs.Option.{option_map_or}
use Rattle.std.specs.declared.option.Option.{Option}
use Rattle.std.specs.declared.option.Option.TheVariants.{None, Some}
use Rattle.slab.specs.Slab.{Slab, get}
use Rattle.iox2_connections.specs.Link.{Link}
use Rattle.iox2_slots.specs.SlotBook.{Book, holders_at}
use Rattle.iox2_contents.specs.SlotContents.{ContentState}
use Rattle.iox2_machine.specs.machine.Numbers.{contains}
use Rattle.iox2_machine.specs.machine.Records.{Entry, Loan}
use Rattle.iox2_machine.specs.Stored.{IsHeldMessage}
use Rattle.iox2_slots.specs.declared.slots.mark.SlotMark.{SlotMark}
use Rattle.iox2_slots.specs.declared.slots.mark.SlotMark.TheVariants.{Unwritten, Written, Sent}
use Rattle.iox2_laws.proofs.NumberLemmas.{false_from as false-from}
use Rattle.iox2_connections.specs.LookUp.{look_up}
use Rattle.iox2_connections.specs.Counters.{times, with_counters}
use Rattle.iox2_connections.specs.Mailboxes.{mailboxes_of}
use Rattle.iox2_connections.specs.Recounts.{Recounts}
use Rattle.iox2_connections.proofs.LookUps.{look_up-found, look_up-there}
use Rattle.iox2_connections.proofs.MailboxChanges.{both-true}
use Rattle.iox2_domain.specs.Ports.{PublisherFields}
use Rattle.iox2_domain.specs.Kept.{KeptMessage, Lent_message, Sent_message, state_of, entries_of}
use Rattle.iox2_domain.specs.Fields.{Fields, kept_of, number_in_slot, message_of, contents_at, is_book_of}
use Rattle.iox2_domain.specs.Invariant.{IsDomain, IsOwned, KeepsBooks, HasLoneLoans, HasNumber, is_publisher, is_lent}
use Rattle.iox2_domain.specs.Invariant.{is_loan_in, holders_of, own_holders, HasParts}
use Rattle.iox2_domain.specs.KeptPlaces.{KeepsPlaces}
use Rattle.iox2_domain.proofs.lemmas.fields.ConnectionEnds.{publisher-stands}
use Rattle.iox2_domain.proofs.lemmas.fields.KeptBooks.{kept-own}
use Rattle.iox2_domain.proofs.lemmas.fields.SameEnds.{with_connections}
use Rattle.iox2_domain.proofs.lemmas.slots.Messages.{LiesIn, message_in-parts, lies_at, message_at-book}
use Rattle.iox2_domain.proofs.lemmas.slots.Messages.{message_at-slot, has_number, entry-there, entry-found}
use Rattle.iox2_domain.proofs.lemmas.slots.BookChanges.{KeepsSlots, books-apart, book-here, book-others}
use Rattle.iox2_domain.proofs.lemmas.slots.HeldMessages.{held-message-slot, slot_numbered, own-in_use, lies_with}
use Rattle.iox2_domain.proofs.lemmas.slots.RecountedFields as fields
use Rattle.iox2_domain.proofs.lemmas.slots.Recounts.{number-back, OwnStays, recounted-consistent}
use Rattle.iox2_domain.proofs.lemmas.slots.Holders.{book-by_id, book-holders}
use Rattle.iox2_domain.proofs.lemmas.fields.PlacesKept.{places-back}

-- the publisher of a loan is that of the book in which it lies
pub loan-publisher : {T U : Type 0} (b : Book) (contents : List (ContentState T U)) (slot n : ℕ) (l : Loan T U)
    → LiesIn b contents slot (Lent_message n l) → l.publisher ≡ b.publisher
loan-publisher {T} {U} b contents slot n l lies = by lies.mark lies.is where
  by : (mark : SlotMark) → Lent_message n l ≡ message_of b.publisher
      (get_or b.numbers slot 0) lies.header lies.content mark → l.publisher ≡ b.publisher
  by Unwritten e = ap origin e where
    origin : KeptMessage T U → ℕ
    origin (Lent_message number loan) = loan.publisher
    origin (Sent_message number entry) = 0
  by Written e = ap origin e where
    origin : KeptMessage T U → ℕ
    origin (Lent_message number loan) = loan.publisher
    origin (Sent_message number entry) = 0
  by Sent e = absurd cc

module _ {T U : Type 0} (f : Fields T U) (parts : HasParts f) (lone : HasLoneLoans f.books) (p key : ℕ) (b : Book)
    (at : get f.books key ≡ Some b) (mine : b.publisher ≡ p)
    (holders : List ℕ) (new : Slab Link) (r : Recounts p b.holders f.connections holders new) where
  -- the fields with these connections and these counters
  abbrev counted_fields : Fields T U
  counted_fields = fields.recounted_fields f parts p key b at mine holders new r

  abbrev counted_book : Book
  counted_book = with_counters b holders

  keeps : KeepsSlots b counted_book
  keeps = record { publisher = refl; node = refl; numbers = refl; slots = r.slots }

  is-its : look_up (is_book_of p) f.books.slots ≡ Some b
  is-its = book-by_id f.books key p b (parts.books.one_each p) at mine

  -- what the publisher itself has of the slot, or what is out of one that is gone
  abbrev own_of : (slot : ℕ) → Option PublisherFields → Option Book → ℕ
  own_of slot o book =
      option_map_or (λ (x : PublisherFields). times slot x.loans + times slot (x.history).items) o
      (option_map_or (λ c. cond (is_loan_in c slot) 1 0) book 0)

  -- a slot of a publisher that is gone is a loan if it was
  loan-still : (slot : ℕ) → look_up (is_publisher p) f.publishers ≡ None
      → is_loan_in counted_book slot ≡ is_loan_in b slot
  loan-still slot gone = by (is_loan_in b slot) refl where
    by : (t : Bool) → is_loan_in b slot ≡ t → is_loan_in counted_book slot ≡ t
    by true loan =
        let both = both-true _ _ loan in
        let one : holders_at b slot ≡ 1 = lone.at key slot b at loan in
        let holders_are : holders_of f.books p slot ≡ holders_at b slot =
        book-holders f.books key p b (parts.books.one_each p) at mine slot in
        let own_are : own_holders f p slot ≡ 1 =
        ap (λ o. own_of slot o (look_up (is_book_of p) f.books.slots)) gone
        ∙ ap (λ o. own_of slot None o) is-its
        ∙ ap (λ (t : Bool). cond {A = ℕ} t 1 0) loan in
        let some : 0 < get_or holders slot 0 =
        omega (arith, one, holders_are, own_are, parts.counted.at p slot, r.counters.at slot) in
        and_from _ _ (lt-ltb 0 (get_or holders slot 0) some) both.1
    by false none = false-from (is_loan_in counted_book slot) (λ loan.
        let both = both-true _ _ loan in
        let some : 0 < holders_at b slot = r.in_use slot (ltb-true 0 (get_or holders slot 0) both.0) in
        let was : is_loan_in b slot ≡ true = and_from _ _ (lt-ltb 0 (holders_at b slot) some) both.1 in
        let no : true ≡ false = sym was ∙ none in
        absurd cc)

  -- the publisher itself has each slot as often as before
  pub own-stays : OwnStays f parts p key b at mine holders new r
  own-stays slot = by (look_up (is_publisher p) f.publishers) refl where
    now-its : look_up (is_book_of p) counted_fields.books.slots ≡ Some counted_book
    now-its = look_up-found (is_book_of p) counted_fields.books.slots key counted_book
        (books-apart (with_connections f new r.homes) key b counted_book at keeps parts.books.one_each p)
        (book-here (with_connections f new r.homes) key b counted_book at keeps) (eq-eqb b.publisher p mine)

    by : (o : Option PublisherFields) → look_up (is_publisher p) f.publishers ≡ o
        → own_of slot o (look_up (is_book_of p) counted_fields.books.slots) ≡ own_of slot o
        (look_up (is_book_of p) f.books.slots)
    by None gone =
        ap (λ o. own_of slot None o) now-its
        ∙ ap (λ (t : Bool). cond {A = ℕ} t 1 0) (loan-still slot gone)
        ∙ sym (ap (λ o. own_of slot None o) is-its)
    by (Some x) there = refl

  -- the slot of a loan of a publisher that is gone is still in use
  gone-in_use : (slot n : ℕ) (l : Loan T U) → look_up (is_publisher p) f.publishers ≡ None
      → LiesIn b (contents_at f.contents key) slot (Lent_message n l) → 0 < holders_at counted_book slot
  gone-in_use slot n l gone lies_in =
      let lent : option_map_or is_lent (slice_get b.marks slot) false ≡ true =
      ap (λ o. option_map_or is_lent o false) lies_in.marks ∙ is-lent lies_in.mark lies_in.is in
      let loan : is_loan_in b slot ≡ true = and_from _ _ (lt-ltb 0 (holders_at b slot) lies_in.in_use) lent in
      ltb-true 0 (holders_at counted_book slot) (both-true _ _ (loan-still slot gone ∙ loan)).0
    where
      is-lent : (mark : SlotMark) → Lent_message n l ≡ message_of b.publisher
          (get_or b.numbers slot 0) lies_in.header lies_in.content mark → is_lent mark ≡ true
      is-lent Unwritten e = refl
      is-lent Written e = refl
      is-lent Sent e = absurd cc

  -- a loan that isn't in the book keeps its slot, and one that is keeps it where the publisher is gone
  pub slot-stays : (k slot n : ℕ) (l : Loan T U) → lies_at f k slot ≡ Some (Lent_message n l)
      → (k ≡ key → look_up (is_publisher p) f.publishers ≡ None) → HasNumber counted_fields.books k slot n
  slot-stays k slot n l e gone = elim (cases_eq k key) [
    | inl same ↦
        let has : HasNumber f.books key slot n = has_number f.contents f.books key slot n (Lent_message n l)
        (sym (ap (λ (i : ℕ). lies_at f i slot) same) ∙ e) (eq-eqb n n refl) in
        let there : lies_at f key slot ≡ Some (Lent_message n l) = sym (ap (λ (i : ℕ). lies_at f i slot) same) ∙ e in
        let one : Some has.book ≡ Some b = sym has.stands ∙ at in
        let is : has.book ≡ b = cc in
        record {
          book = counted_book;
          stands = ap (get counted_fields.books) same
              ∙ book-here (with_connections f new r.homes) key b counted_book at keeps;
          in_use = gone-in_use slot n l (gone same)
              (message_in-parts b (contents_at f.contents key) slot (Lent_message n l)
              (sym (message_at-slot f.contents f.books key slot b at) ∙ there));
          number = ap (λ (c : Book). get_or c.numbers slot 0) (sym is) ∙ has.number;
        }
    | inr away ↦
        let has : HasNumber f.books k slot n =
        has_number f.contents f.books k slot n (Lent_message n l) e (eq-eqb n n refl) in
        record {
          book = has.book;
          stands = book-others (with_connections f new r.homes) key b counted_book at keeps k
              away ∙ has.stands;
          in_use = has.in_use;
          number = has.number;
        }
  ]

  -- so each loan of a publisher that is gone keeps its slot
  pub gone-stays : look_up (is_publisher p) f.publishers ≡ None → fields.LoansStay f parts p key b at mine holders new r
  gone-stays gone k slot n l found e = slot-stays k slot n l e (λ same. gone)

module _ {T U : Type 0} (f : Fields T U) (sound : IsDomain f) (p key : ℕ) (b : Book) (at : get f.books key ≡ Some b)
    (mine : b.publisher ≡ p)
    (holders : List ℕ) (new : Slab Link) (r : Recounts p b.holders f.connections holders new) where
  abbrev parts : HasParts f
  parts = sound.parts

  -- the fields with these connections and these counters
  abbrev pub recounted_fields : Fields T U
  recounted_fields = fields.recounted_fields f parts p key b at mine holders new r

  own : OwnStays f parts p key b at mine holders new r
  own = own-stays f parts sound.lone p key b at mine holders new r

  -- the fields agree with one another
  pub parts-recounted : HasParts recounted_fields
  parts-recounted = recounted-consistent f parts p key b at mine holders new r own

  -- each book is somebody's still, or left
  pub recounted-kept : IsOwned f.publishers key p → KeepsBooks f.next_port f.publishers recounted_fields.books
  recounted-kept owned = kept-own f.next_port f.publishers f.books key b (with_counters b holders) at refl
      (subst (IsOwned f.publishers key) (sym mine) owned) sound.kept_books

  -- the slot of a loan of a publisher that stands is still in use
  standing-in_use : (k slot n : ℕ) (l : Loan T U) (i : ℕ) (x : PublisherFields) → get_or f.publishers i None ≡ Some x
      → x.id ≡ l.publisher
      → (state_of (kept_of f)).loans n ≡ Some l → lies_at f k slot ≡ Some (Lent_message n l)
      → HasNumber recounted_fields.books k slot n
  standing-in_use k slot n l i x at_x its found e =
      let out : contains _ n ≡ true = ((sound.well_formed.loans n l found).is_out _
      (ap (state_of (kept_of f)).publishers (sym its) ∙ publisher-stands f sound.parts i x at_x)).0 in
      let own = slot_numbered (number_in_slot f.books x.id) n x.loans out in
      let has = lies_with recounted_fields parts-recounted.counted parts-recounted.publisher_ids x.id own.0 n
      (own-in_use recounted_fields parts-recounted.counted parts-recounted.publisher_ids i own.0 x at_x
      (omega (arith, own.1)))
      (ap (λ (numbers : ℕ → ℕ → ℕ). numbers x.id own.0) (fields.same-numbers f parts p key b at mine holders new r)
      ∙ own.2) in
      fields.there f parts p key b at mine holders new r k slot has.0 has.1 n
      (has_number f.contents f.books k slot n (Lent_message n l) e (eq-eqb n n refl)) has.2

  -- so the slot of each loan is
  pub loans-stay : fields.LoansStay f parts p key b at mine holders new r
  loans-stay k slot n l found e = by (look_up (is_publisher l.publisher) f.publishers) refl where
    by : (o : Option PublisherFields) → look_up (is_publisher l.publisher) f.publishers ≡ o
        → HasNumber recounted_fields.books k slot n
    by (Some x) stands_there =
        let here = look_up-there (is_publisher l.publisher) f.publishers x stands_there in
        standing-in_use k slot n l here.0 x here.1 (eqb-true x.id l.publisher here.2) found e
    by None gone = slot-stays f parts sound.lone p key b at mine holders new r k slot n l e (λ same.
        let book = message_at-book f.contents f.books k slot (Lent_message n l) e in
        let its : l.publisher ≡ (book.0).publisher =
        loan-publisher book.0 _ slot n l (message_in-parts book.0 _ slot (Lent_message n l) book.2) in
        let one : Some book.0 ≡ Some b = sym book.1 ∙ ap (get f.books) same ∙ at in
        let is : book.0 ≡ b = cc in
        ap (λ (q : ℕ). look_up (is_publisher q) f.publishers) (sym (its ∙ ap (λ (c : Book). c.publisher) is ∙ mine))
        ∙ gone)

  -- the machine sees the mailboxes alone
  pub recounted-is : state_of (kept_of recounted_fields) ≡ record (state_of (kept_of f))
      { mailboxes = mailboxes_of (number_in_slot f.books) new }
  recounted-is = fields.recounted-is f parts p key b at mine holders new r own loans-stay

  -- a slot in use was so before, with its number
  pub recounted-places : KeepsPlaces f recounted_fields
  recounted-places = places-back (number-back f parts p key b at mine holders new r)

  -- no entry is newly kept
  pub recounted-entries : (n : ℕ) (entry : Entry T U) → entries_of (kept_of recounted_fields) n ≡ Some entry
      → entries_of (kept_of f) n ≡ Some entry
  recounted-entries n entry e =
      let at_slot = entry-there recounted_fields n entry e in
      entry-found f parts.numbered at_slot.0 at_slot.1 n entry
      (fields.lay f parts p key b at mine holders new r at_slot.0 at_slot.1 (Sent_message n entry) at_slot.2)

  -- the entry of a message that somebody holds is still kept
  pub recounted-keeps : (q n : ℕ) (entry : Entry T U) → IsHeldMessage (state_of (kept_of recounted_fields)) q n
      → entries_of (kept_of f) n ≡ Some entry
      → entries_of (kept_of recounted_fields) n ≡ Some entry
  recounted-keeps q n entry held e =
      let has = held-message-slot recounted_fields parts-recounted.counted parts-recounted.publisher_ids
      parts-recounted.plain q n held in
      let at_slot = entry-there f n entry e in
      let now = fields.there f parts p key b at mine holders new r at_slot.0 at_slot.1 has.0 has.1 n
      (has_number f.contents f.books at_slot.0 at_slot.1 n (Sent_message n entry) at_slot.2 (eq-eqb n n refl)) has.2 in
      entry-found recounted_fields parts-recounted.numbered at_slot.0 at_slot.1 n entry
      (fields.lies f parts p key b at mine holders new r at_slot.0 at_slot.1 n (Sent_message n entry) now at_slot.2)
