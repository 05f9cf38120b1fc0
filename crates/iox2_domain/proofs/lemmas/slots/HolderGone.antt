-- The one holder of a loan's slot goes: the slot is free, and nothing lies in it.
use Rattle.std.proofs.Common.{◌≡◌, ◌≢◌, ℕ, ◌+◌, ◌<◌, Bool, cond, refl, ap, sym, subst, ◌∙◌, inl, inr, arith}
use Rattle.std.proofs.lemmas.Bool.{cases_eq, ne_eqb, eq-eqb}
use Rattle.std.proofs.lemmas.List.{length-set, get_or-set_other}
use Rattle.std.specs.Prelude.{slice_index}
use Rattle.std.specs.declared.option.Option.{Option}
use Rattle.std.specs.declared.option.Option.TheVariants.{None, Some}
use Rattle.std.specs.Option.{option_and_then}
use Rattle.slab.specs.Slab.{get}
use Rattle.iox2_slots.specs.SlotBook.{Book, IsAligned, holders_at}
use Rattle.iox2_machine.specs.machine.Numbers.{put_at}
use Rattle.iox2_machine.specs.machine.Records.{Entry, Loan}
use Rattle.iox2_connections.proofs.Counts.{one_if, one_if_same, get_or-one_holder_less}
use Rattle.iox2_domain.specs.Discards.{with_holder_gone}
use Rattle.iox2_domain.specs.LeftBooks.{with_holder_left}
use Rattle.iox2_domain.specs.Kept.{KeptMessage, Lent_message, Sent_message, state_of, entries_of, is_numbered}
use Rattle.iox2_domain.specs.Kept.{message_numbered, loan_in, entry_in}
use Rattle.iox2_domain.specs.Fields.{Fields, kept_of, message_in, contents_at}
use Rattle.iox2_domain.specs.Invariant.{HasLoneLoans, IsNumbered, HasNumber, HasShapes, HasParts}
use Rattle.iox2_domain.proofs.lemmas.slots.BookChanges.{KeepsSlots, book-here, book-others, book-was}
use Rattle.iox2_domain.proofs.lemmas.slots.LoneLoans.{lone-counters}
use Rattle.iox2_domain.proofs.lemmas.slots.Messages.{lies_at, message_in-free, message_at-book, message_at-slot}
use Rattle.iox2_domain.proofs.lemmas.slots.Messages.{has_number, loan-there, entry-there, ChangesSlot}
use Rattle.iox2_domain.proofs.lemmas.slots.Messages.{message_numbered-others}
use mathlib.Core.Path.{fun_ext}
use Rattle.iox2_domain.proofs.lemmas.fields.PlacesKept.{places-back}
use Rattle.iox2_domain.specs.KeptPlaces.{KeepsPlaces}

module _ {T U : Type 0} (f : Fields T U) (parts : HasParts f) (key : ℕ) (b : Book) (at : get f.books key ≡ Some b)
    (slot n : ℕ) (l : Loan T U)
    (lies : lies_at f key slot ≡ Some (Lent_message n l)) (alone : holders_at b slot ≡ 1) where
  -- the book afterwards
  abbrev pub given : Book
  given = with_holder_gone slot b

  -- the fields with it
  abbrev pub left : Fields T U
  left = with_holder_left f key slot b

  -- ---- the book

  pub keeps_slots : KeepsSlots b given
  keeps_slots = record { publisher = refl; node = refl; numbers = refl; slots = length-set b.holders slot _ }

  pub fewer-holders : (s : ℕ) → holders_at given s + one_if s slot ≡ holders_at b s
  fewer-holders s = get_or-one_holder_less b.holders slot s (omega (arith, alone))

  -- the slot is free
  pub free : holders_at given slot ≡ 0
  free = omega (arith, fewer-holders slot, one_if_same slot, alone)

  -- the others have the holders that they had
  pub others-held : (s : ℕ) → s ≢ slot → holders_at given s ≡ holders_at b s
  others-held s away = get_or-set_other b.holders slot s _ 0 away

  -- a slot in use is another, and was in use before
  still-in_use : (s : ℕ) → 0 < holders_at given s → (s ≢ slot) × (0 < holders_at b s)
  still-in_use s some =
      (λ same. absurd (omega (arith, ap (holders_at given) same, free, some)), omega (arith, fewer-holders s, some))

  pub given-aligned : IsAligned given
  given-aligned =
      let old : IsAligned b = (parts.books.books key b at).aligned in
      let long = sym keeps_slots.slots in
      record { numbers = old.numbers ∙ long; headers = old.headers ∙ long; marks = old.marks ∙ long }

  -- ---- what lies where

  here-now : (s : ℕ) → lies_at left key s ≡ message_in given (contents_at f.contents key) s
  here-now s = message_at-slot f.contents left.books key s given (book-here f key b given at keeps_slots)

  -- nothing lies in the slot
  nothing : lies_at left key slot ≡ None
  nothing = here-now slot ∙ message_in-free given (contents_at f.contents key) slot free

  pub others-lie : (k s : ℕ) → ((k ≡ key) × (s ≡ slot) → ⊥) → lies_at left k s ≡ lies_at f k s
  others-lie k s away = elim (cases_eq k key) [
    | inl same ↦
        ap (λ j. lies_at left j s) same ∙ here-now s
        ∙ alike s (others-held s (λ e. away (same, e)))
        ∙ sym (message_at-slot f.contents f.books key s b at) ∙ sym (ap (λ j. lies_at f j s) same)
    | inr apart ↦ unchanged k s (book-others f key b given at keeps_slots k apart)
  ]
    where
      alike : (s : ℕ) → holders_at given s ≡ holders_at b s
          → message_in given (contents_at f.contents key) s ≡ message_in b (contents_at f.contents key) s
      alike s holders = rw holders refl

      unchanged : (k s : ℕ) → get left.books k ≡ get f.books k → lies_at left k s ≡ lies_at f k s
      unchanged k s e = rw e refl

  -- a slot in use is another than the loan's, and was so before, with its number
  pub was-number : (k s m : ℕ) → HasNumber left.books k s m → HasNumber f.books k s m × ((k ≡ key) × (s ≡ slot) → ⊥)
  was-number k s m has = elim (book-was f key b given at keeps_slots k has.book has.stands) [
    | inl is ↦
        let old = still-in_use s (subst (λ (c : Book). 0 < holders_at c s) is.1 has.in_use) in (
          record {
            book = b;
            stands = ap (get f.books) is.0 ∙ at;
            in_use = old.1;
            number = ap (λ (c : Book). slice_index c.numbers s) (sym is.1) ∙ has.number;
          },
          λ both. old.0 both.1,
        )
    | inr away ↦
        (record { book = has.book; stands = away.1; in_use = has.in_use; number = has.number }, λ both. away.0 both.0)
  ]

  pub left-places : KeepsPlaces f left
  left-places = places-back (λ k s m has. (was-number k s m has).0)

  pub left-numbered : IsNumbered f.next_message left.books
  left-numbered = record {
    one = λ k k' s s' m this that. parts.numbered.one k k' s s' m (was-number k s m this).0 (was-number k' s' m that).0;
    below = λ k s m this. parts.numbered.below k s m (was-number k s m this).0;
  }

  -- no slot has the loan's number
  pub unnumbered : (k s : ℕ) → HasNumber left.books k s n → ⊥
  unnumbered k s has =
      let old = was-number k s n has in
      old.1 (parts.numbered.one k key s slot n old.0
      (has_number f.contents f.books key slot n (Lent_message n l) lies (eq-eqb n n refl)))

  changes-slot : ChangesSlot f left key slot n
  changes-slot = record {
    others = others-lie;
    before = λ m e. let both : Some (Lent_message n l) ≡ Some m = sym lies ∙ e in let is : Lent_message n l ≡ m = cc in
        ap (is_numbered n) (sym is) ∙ eq-eqb n n refl;
    after = λ m e. let both : None ≡ Some m = sym nothing ∙ e in absurd cc;
  }

  -- all other numbers are found as before
  pub others-same : (m : ℕ) → m ≢ n → message_numbered m (kept_of left).books ≡ message_numbered m (kept_of f).books
  others-same m away = message_numbered-others f left key slot n left-numbered changes-slot m away

  no-loan : (o : Option (Loan T U)) → (state_of (kept_of left)).loans n ≡ o → o ≡ None
  no-loan None e = refl
  no-loan (Some k) e =
      let there = loan-there left n k e in
      absurd (unnumbered there.0 there.1
      (has_number f.contents left.books there.0 there.1 n (Lent_message n k) there.2 (eq-eqb n n refl)))

  -- no entry is newly kept
  pub left-entries : (m : ℕ) (entry : Entry T U) → entries_of (kept_of left) m ≡ Some entry
      → entries_of (kept_of f) m ≡ Some entry
  left-entries m entry e = elim (cases_eq m n) [
    | inl same ↦
        let there = entry-there left m entry e in
        absurd (unnumbered there.0 there.1 (subst (HasNumber left.books there.0 there.1) same
        (has_number f.contents left.books there.0 there.1 m (Sent_message m entry) there.2 (eq-eqb m m refl))))
    | inr away ↦ sym (ap (option_and_then entry_in) (others-same m away)) ∙ e
  ]

  -- the loan is out no more
  pub left-loans : (state_of (kept_of left)).loans ≡ put_at (state_of (kept_of f)).loans n None
  left-loans = fun_ext (λ m. elim (cases_eq m n) [
    | inl same ↦
        ap (state_of (kept_of left)).loans same ∙ no-loan ((state_of (kept_of left)).loans n) refl
        ∙ sym (ap (λ (t : Bool). cond t None ((state_of (kept_of f)).loans m)) (eq-eqb m n same))
    | inr away ↦
        ap (option_and_then loan_in) (others-same m away)
        ∙ sym (ap (λ (t : Bool). cond t None ((state_of (kept_of f)).loans m)) (ne_eqb m n away))
  ])

  -- ---- the parts

  -- what lies somewhere lay there before
  pub left-shapes : HasShapes left
  left-shapes = record {
    at = λ k s c m stands e.
        let found : lies_at left k s ≡ Some m = message_at-slot f.contents left.books k s c stands ∙ e in
        let there = message_at-book f.contents f.books k s m
        (sym (others-lie k s (λ both. emptied k s m both found)) ∙ found) in
        parts.shapes.at k s there.0 m there.1 there.2;
  } where
    emptied : (k s : ℕ) (m : KeptMessage T U) → (k ≡ key) × (s ≡ slot) → lies_at left k s ≡ Some m → ⊥
    emptied k s m both found =
        let clash : None ≡ Some m = sym nothing ∙ sym (ap (λ j. lies_at left key j) both.1)
        ∙ sym (ap (λ j. lies_at left j s) both.0) ∙ found in absurd cc

  -- each loan that is left has one holder
  pub left-lone : HasLoneLoans f.books → HasLoneLoans left.books
  left-lone lone =
      lone-counters f.books key b given.holders at lone (λ s. let fewer = fewer-holders s in omega (arith, fewer))
