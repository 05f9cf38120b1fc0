-- A publisher's own slots change, and with them their counters; no slot comes into use, and none with a loan goes out
-- of use.
use Rattle.std.proofs.Common.{◌≡◌, ◌⊎◌, ℕ, zero, suc, length, ◌+◌, ◌<◌, List, get_or, refl, ap, sym, subst, ◌∙◌, inl}
use Rattle.std.proofs.Common.{inr, arith}
use Rattle.std.proofs.lemmas.Bool.{cases_eq, eq-eqb}
use Rattle.std.specs.Prelude.{slice_get, slice_set}
use Rattle.std.specs.declared.option.Option.TheVariants.{None, Some}
use Rattle.slab.specs.Slab.{get, with_value}
use Rattle.iox2_slots.specs.SlotBook.{Book, IsAligned, holders_at}
use Rattle.iox2_slots.specs.declared.slots.mark.SlotMark.TheVariants.{Unwritten}
use Rattle.iox2_machine.specs.machine.Numbers.{put_at}
use Rattle.iox2_machine.specs.machine.Records.{Entry, Loan}
use Rattle.iox2_machine.specs.Stored.{IsHeldMessage}
use Rattle.iox2_connections.specs.Counters.{times, with_counters}
use Rattle.iox2_domain.specs.Ports.{PublisherFields}
use Rattle.iox2_domain.specs.Kept.{KeptMessage, Lent_message, Sent_message, state_of, entries_of}
use Rattle.iox2_domain.specs.Fields.{Fields, kept_of, publisher_of, message_in, contents_at}
use Rattle.iox2_domain.specs.Invariant.{HasParts, IsOwned, KeepsBooks, IsNumbered, HasNumber, HasShapes, HasLoneLoans}
use Rattle.iox2_domain.specs.Invariant.{LendsBlocked}
use Rattle.iox2_domain.proofs.lemmas.fields.KeptBooks.{kept-own}
use Rattle.iox2_domain.proofs.lemmas.slots.Messages.{message_in-parts, lies_at, message_at-book, message_at-slot}
use Rattle.iox2_domain.proofs.lemmas.slots.Messages.{has_number, loan-there, loan-found, entry-there, entry-found}
use Rattle.iox2_domain.proofs.lemmas.slots.Messages.{message_in-counters, alike-if-found}
use Rattle.iox2_domain.proofs.lemmas.slots.BookChanges.{KeepsSlots, book-here, book-others, book-was}
use Rattle.iox2_domain.proofs.lemmas.slots.HeldMessages.{held-message-slot}
use Rattle.iox2_domain.proofs.lemmas.slots.LoneLoans.{IsLoneIn, lone-changed}
use Rattle.iox2_domain.proofs.lemmas.loans.PublisherChanges.{KeepsSettings, changed-kept_books}
use Rattle.iox2_domain.proofs.lemmas.slots.OwnSlots.{own-is, own-parts}
use Rattle.iox2_domain.proofs.lemmas.fields.PlacesKept.{places-back}
use Rattle.iox2_domain.specs.KeptPlaces.{KeepsPlaces}

zero_or_more : (n : ℕ) → (n ≡ 0) ⊎ (0 < n)
zero_or_more zero = inl refl
zero_or_more (suc n) = inr (omega arith)

-- The publisher x may become y, and its book b have these counters.
pub record CanRebook {T U : Type 0} (f : Fields T U) (x y : PublisherFields) (b : Book)
    (holders : List ℕ) : Type 0 where
  pub settings : KeepsSettings x y
  pub keys : y.keys ≡ x.keys
  pub lends : LendsBlocked x → LendsBlocked y
  pub unwritten : (s : ℕ) → slice_get b.marks s ≡ Some Unwritten → 0 < times s x.loans → 0 < times s y.loans
  pub slots : length holders ≡ length b.holders
  pub used : (s : ℕ) → 0 < get_or holders s 0 → 0 < holders_at b s
  pub counts : (s : ℕ) → times s y.loans + times s (y.history).items + holders_at b s ≡ times s x.loans + times s
      (x.history).items + get_or holders s 0
  pub lent : (s n : ℕ) (l : Loan T U) → get_or holders s 0 ≡ 0 → lies_at f x.book s ≡ Some (Lent_message n l) → ⊥

-- the fields with both
abbrev pub rebooked : {T U : Type 0} → Fields T U → (i : ℕ) (x y : PublisherFields) → Book → (holders : List ℕ)
    → Fields T U
rebooked f i x y b holders = record f
    { publishers = slice_set f.publishers i (Some y); books = with_value f.books x.book (with_counters b holders) }

module _ {T U : Type 0} (f : Fields T U) (parts : HasParts f) (i : ℕ) (x y : PublisherFields)
    (here : get_or f.publishers i None ≡ Some x)
    (b : Book) (at : get f.books x.book ≡ Some b) (mine : b.publisher ≡ x.id) (holders : List ℕ)
    (can : CanRebook f x y b holders) where
  -- its book and the fields afterwards
  abbrev new_book : Book
  new_book = with_counters b holders

  abbrev after : Fields T U
  after = rebooked f i x y b holders

  keeps : KeepsSlots b new_book
  keeps = record { publisher = refl; node = refl; numbers = refl; slots = can.slots }

  -- ---- slots and messages

  -- a slot in use was so before, with its number and its publisher
  pub rebooked-number : (k s m : ℕ) (has : HasNumber after.books k s m)
      → (old : HasNumber f.books k s m) × ((old.book).publisher ≡ (has.book).publisher)
  rebooked-number k s m has = elim (book-was f x.book b new_book at keeps k has.book has.stands) [
    | inl is ↦ (
      record {
        book = b;
        stands = ap (get f.books) is.0 ∙ at;
        in_use = can.used s (subst (λ (c : Book). 0 < holders_at c s) is.1 has.in_use);
        number = ap (λ (c : Book). get_or c.numbers s 0) (sym is.1) ∙ has.number;
      },
      sym (ap (λ (c : Book). c.publisher) is.1),
    )
    | inr away ↦ (record { book = has.book; stands = away.1; in_use = has.in_use; number = has.number }, refl)
  ]

  pub rebooked-places : KeepsPlaces f after
  rebooked-places = places-back (λ k s m has. (rebooked-number k s m has).0)

  pub rebooked-numbered : IsNumbered f.next_message after.books
  rebooked-numbered = record {
    one = λ k k' s s' m this that.
        parts.numbered.one k k' s s' m (rebooked-number k s m this).0 (rebooked-number k' s' m that).0;
    below = λ k s m this. parts.numbered.below k s m (rebooked-number k s m this).0;
  }

  lies-here : (s : ℕ) → lies_at after x.book s ≡ message_in new_book (contents_at f.contents x.book) s
  lies-here s = message_at-slot f.contents after.books x.book s new_book (book-here f x.book b new_book at keeps)

  lay-here : (s : ℕ) → lies_at f x.book s ≡ message_in b (contents_at f.contents x.book) s
  lay-here s = message_at-slot f.contents f.books x.book s b at

  -- what lies in a slot lay there
  pub rebooked-back : (k s : ℕ) (m : KeptMessage T U) → lies_at after k s ≡ Some m → lies_at f k s ≡ Some m
  rebooked-back k s m e = elim (cases_eq k x.book) [
    | inl same ↦
        let lies : message_in new_book (contents_at f.contents x.book) s ≡ Some m =
        sym (lies-here s) ∙ sym (ap (λ j. lies_at after j s) same) ∙ e in
        let lay : message_in b (contents_at f.contents x.book) s ≡ Some m =
        message_in-counters new_book b.holders (contents_at f.contents x.book) s m
        (can.used s (message_in-parts new_book (contents_at f.contents x.book) s m lies).in_use) lies in
        ap (λ j. lies_at f j s) same ∙ lay-here s ∙ lay
    | inr away ↦
        let there = message_at-book f.contents after.books k s m e in
        message_at-slot f.contents f.books k s there.0 (sym (book-others f x.book b new_book at keeps k away) ∙ there.1)
        ∙ there.2
  ]

  -- what lay in a slot that is still in use lies there
  pub rebooked-forth : (k s : ℕ) (m : KeptMessage T U) → (k ≡ x.book → 0 < holders_at new_book s)
      → lies_at f k s ≡ Some m → lies_at after k s ≡ Some m
  rebooked-forth k s m in_use e = elim (cases_eq k x.book) [
    | inl same ↦
        let lies : message_in new_book (contents_at f.contents x.book) s ≡ Some m =
        message_in-counters b holders (contents_at f.contents x.book) s m (in_use same)
        (sym (lay-here s) ∙ sym (ap (λ j. lies_at f j s) same) ∙ e) in
        ap (λ j. lies_at after j s) same ∙ lies-here s ∙ lies
    | inr away ↦
        let there = message_at-book f.contents f.books k s m e in
        message_at-slot f.contents after.books k s there.0 (book-others f x.book b new_book at keeps k away ∙ there.1)
        ∙ there.2
  ]

  shapes : HasShapes after
  shapes = record {
    at = λ k s e m stands lies.
        let there = message_at-book f.contents f.books k s m
        (rebooked-back k s m (message_at-slot f.contents after.books k s e stands ∙ lies)) in
        parts.shapes.at k s there.0 m there.1 there.2;
  }

  -- ---- loans and entries

  loan-was : (n : ℕ) (l : Loan T U) → (state_of (kept_of after)).loans n ≡ Some l
      → (state_of (kept_of f)).loans n ≡ Some l
  loan-was n l found =
      let at_slot = loan-there after n l found in
      loan-found f parts.numbered at_slot.0 at_slot.1 n l
      (rebooked-back at_slot.0 at_slot.1 (Lent_message n l) at_slot.2)

  -- a loan stays where it lies
  loan-stays : (n : ℕ) (l : Loan T U) → (state_of (kept_of f)).loans n ≡ Some l
      → (state_of (kept_of after)).loans n ≡ Some l
  loan-stays n l found =
      let there = loan-there f n l found in
      loan-found after rebooked-numbered there.0 there.1 n l
      (rebooked-forth there.0 there.1 (Lent_message n l) (still there.0 there.1 there.2) there.2)
    where
      still : (k s : ℕ) → lies_at f k s ≡ Some (Lent_message n l) → k ≡ x.book → 0 < holders_at new_book s
      still k s e same =
          let lies : lies_at f x.book s ≡ Some (Lent_message n l) = sym (ap (λ j. lies_at f j s) same) ∙ e in
          elim (zero_or_more (get_or holders s 0)) [
            | inl none ↦ absurd (can.lent s n l none lies)
            | inr some ↦ some
          ]

  loans-same : (state_of (kept_of after)).loans ≡ (state_of (kept_of f)).loans
  loans-same = alike-if-found (state_of (kept_of f)).loans (state_of (kept_of after)).loans loan-stays loan-was

  -- no entry is newly kept
  pub rebooked-entries : (n : ℕ) (entry : Entry T U) → entries_of (kept_of after) n ≡ Some entry
      → entries_of (kept_of f) n ≡ Some entry
  rebooked-entries n entry e =
      let at_slot = entry-there after n entry e in
      entry-found f parts.numbered at_slot.0 at_slot.1 n entry
      (rebooked-back at_slot.0 at_slot.1 (Sent_message n entry) at_slot.2)

  -- ---- the whole

  -- the fields agree with one another
  pub rebooked-parts : HasParts after
  rebooked-parts = own-parts f parts i x here b at mine y can.settings new_book keeps can.counts can.keys can.lends
      (λ s some marked out. (can.unwritten s marked out, marked)) aligned rebooked-numbered shapes where
        aligned : IsAligned new_book
        aligned =
            let old : IsAligned b = (parts.books.books x.book b at).aligned in
            record {
              numbers = old.numbers ∙ sym keeps.slots;
              headers = old.headers ∙ sym keeps.slots;
              marks = old.marks ∙ sym keeps.slots;
            }

  -- each book is somebody's still, or left
  pub rebooked-kept : IsOwned f.publishers x.book x.id → KeepsBooks f.next_port f.publishers f.books
      → KeepsBooks after.next_port after.publishers after.books
  rebooked-kept owned kept =
      changed-kept_books f i x y here can.settings.id after.books can.settings.book
      (kept-own f.next_port f.publishers f.books x.book b new_book at refl
      (subst (IsOwned f.publishers x.book) (sym mine) owned) kept)

  -- each loan still has one holder
  pub rebooked-lone : ((s : ℕ) → IsLoneIn b s → IsLoneIn new_book s) → HasLoneLoans f.books → HasLoneLoans after.books
  rebooked-lone one lone = lone-changed f.books x.book b new_book at lone one

  -- the entry of a message that somebody holds is still kept
  pub rebooked-keeps : (q n : ℕ) (entry : Entry T U) → IsHeldMessage (state_of (kept_of after)) q n
      → entries_of (kept_of f) n ≡ Some entry → entries_of (kept_of after) n ≡ Some entry
  rebooked-keeps q n entry held e =
      let holds =
      held-message-slot after rebooked-parts.counted rebooked-parts.publisher_ids rebooked-parts.plain q n held in
      let there = entry-there f n entry e in
      let same = parts.numbered.one there.0 holds.0 there.1 holds.1 n
      (has_number f.contents f.books there.0 there.1 n (Sent_message n entry) there.2 (eq-eqb n n refl))
      (rebooked-number holds.0 holds.1 n holds.2).0 in
      entry-found after rebooked-numbered there.0 there.1 n entry
      (rebooked-forth there.0 there.1 (Sent_message n entry)
      (still holds.0 holds.1 holds.2 there.0 there.1 same.0 same.1) there.2)
    where
      still : (k s : ℕ) → HasNumber after.books k s n → (k' s' : ℕ) → k' ≡ k → s' ≡ s → k' ≡ x.book
          → 0 < holders_at new_book s'
      still k s has k' s' key slot book =
          let stands : get after.books x.book ≡ Some has.book = ap (get after.books) (sym book ∙ key) ∙ has.stands in
          let both : Some new_book ≡ Some has.book = sym (book-here f x.book b new_book at keeps) ∙ stands in
          let is : new_book ≡ has.book = cc in
          subst (λ (c : Book). 0 < holders_at c s') (sym is)
          (subst (λ (j : ℕ). 0 < holders_at has.book j) (sym slot) has.in_use)

  -- the publisher's record is the new one
  pub rebooked-is : state_of (kept_of after) ≡ record (state_of (kept_of f)) {
    publishers = put_at (state_of (kept_of f)).publishers x.id (Some ((publisher_of f.books f.connections y).port));
  }
  rebooked-is = own-is f parts i x here b at mine y can.settings new_book keeps (state_of (kept_of f)).loans loans-same
