-- The send of a loan has ended: its slot has a message, which the history holds in place of the user.
use Rattle.std.proofs.Common.{◌≡◌, ◌≢◌, ℕ, ◌+◌, ◌<◌, Bool, true, false, cond, eqb, suc, List, [], ◌∷◌, ◌++◌, length}
use Rattle.std.proofs.Common.{map, get_or, refl, ap, sym, subst, ◌∙◌, inl, inr, ◌⊎◌, arith}
use Rattle.std.proofs.lemmas.Bool.{cases_eq, eq-eqb}
use Rattle.std.proofs.lemmas.List.{length-set, map-append}
use Rattle.std.specs.Prelude.{slice_get, slice_index, slice_set}
use Rattle.std.specs.declared.option.Option.{Option}
use Rattle.std.specs.declared.option.Option.TheVariants.{None, Some}
use Rattle.circular_buffer.proofs.Places.{slice_get-set_other}
use Rattle.circular_buffer.specs.Buffer.{buffer}
use Rattle.slab.specs.Slab.{get, with_value}
use Rattle.iox2_machine.specs.machine.Loans.{entry_of}
use Rattle.iox2_slots.specs.SlotBook.{Book, IsAligned, IsInUse, holders_at}
use Rattle.iox2_slots.specs.declared.slots.mark.SlotMark.TheVariants.{Unwritten, Written, Sent}
use Rattle.iox2_machine.specs.machine.Numbers.{put_at, without}
use Rattle.iox2_machine.specs.machine.Records.{Entry, Loan}
use Rattle.iox2_connections.specs.Counters.{times}
use Rattle.iox2_connections.proofs.Counts.{times_push, one_if_other}
use Rattle.iox2_domain.specs.Ports.{PublisherFields}
use Rattle.iox2_domain.specs.Kept.{KeptMessage, Lent_message, Sent_message, state_of, entries_of, is_numbered}
use Rattle.iox2_domain.specs.Kept.{message_numbered, loan_in, entry_in}
use Rattle.iox2_domain.specs.Fields.{Fields, kept_of, publisher_of, number_in_slot, message_in, contents_at}
use Rattle.iox2_domain.specs.Invariant.{IsNumbered, HasNumber, HasShape, HasShapes, HasParts, cell_count}
use Rattle.iox2_domain.specs.Deliveries.{with_sent, with_loan_out}
use Rattle.iox2_domain.proofs.lemmas.slots.Messages.{lies_at, message_in-parts, message_at-book, message_at-slot}
use Rattle.iox2_domain.proofs.lemmas.slots.Messages.{has_number, loan-there, entry-there, ChangesSlot}
use Rattle.iox2_domain.proofs.lemmas.slots.Messages.{message_numbered-others}
use Rattle.iox2_domain.proofs.lemmas.slots.BookChanges.{book-here, book-others, book-was}
use Rattle.iox2_domain.proofs.lemmas.loans.ChangedLoan.{written-mark}
use Rattle.iox2_domain.proofs.lemmas.loans.PublisherChanges.{KeepsSettings, other_slots}
use Rattle.iox2_domain.proofs.lemmas.slots.OwnSlots.{own-is, own-parts}
use Rattle.iox2_steps.proofs.sends.SentSlots.{times-without-one, map-without, sent-keeps, sent-others, LiesWritten}
use Rattle.iox2_steps.proofs.sends.SentSlots.{written-loan, sent-lies, sent-is, values-of}
use mathlib.Core.Path.{fun_ext}

-- The publisher without the loan in the slot, which stands last in its history. For a moment this may have one slot
-- more than fits.
abbrev pub with_remembered : (slot : ℕ) → PublisherFields → PublisherFields
with_remembered slot x =
    record (with_loan_out slot x) { history = buffer (x.history.items ++ slot ∷ []) x.history.capacity }

module _ {T U : Type 0} (f : Fields T U) (parts : HasParts f) (i : ℕ) (x : PublisherFields)
    (here : get_or f.publishers i None ≡ Some x)
    (b : Book) (at : get f.books x.book ≡ Some b) (mine : b.publisher ≡ x.id) (slot n : ℕ) (l : Loan T U)
    (in_use : IsInUse b slot)
    (lies : lies_at f x.book slot ≡ Some (Lent_message n l)) (is_written : l.is_written ≡ true)
    (once : times slot x.loans ≡ 1) (free : x.blocked ≡ None) where
  -- the fields afterwards
  abbrev pub ended : Fields T U
  ended = record f {
    publishers = slice_set f.publishers i (Some (with_remembered slot x));
    books = with_value f.books x.book (with_sent slot b);
  }

  keeps : KeepsSettings x (with_remembered slot x)
  keeps = other_slots x (without slot x.loans) ((x.history).items ++ slot ∷ []) x.blocked

  -- ---- slots and messages

  -- a slot in use was so before, with its number
  pub was-number : (k s m : ℕ) → HasNumber ended.books k s m → HasNumber f.books k s m
  was-number k s m has = elim (book-was f x.book b (with_sent slot b) at (sent-keeps b slot) k has.book has.stands) [
    | inl is ↦ record {
      book = b;
      stands = ap (get f.books) is.0 ∙ at;
      in_use = subst (λ (c : Book). 0 < holders_at c s) is.1 has.in_use;
      number = ap (λ (c : Book). slice_index c.numbers s) (sym is.1) ∙ has.number;
    }
    | inr away ↦ record { book = has.book; stands = away.1; in_use = has.in_use; number = has.number }
  ]

  pub ended-numbered : IsNumbered f.next_message ended.books
  ended-numbered = record {
    one = λ k k' s s' m this that. parts.numbered.one k k' s s' m (was-number k s m this) (was-number k' s' m that);
    below = λ k s m this. parts.numbered.below k s m (was-number k s m this);
  }

  lay : message_in b (contents_at f.contents x.book) slot ≡ Some (Lent_message n l)
  lay = sym (message_at-slot f.contents f.books x.book slot b at) ∙ lies

  written : LiesWritten b slot (contents_at f.contents x.book) n l
  written = written-loan b slot (contents_at f.contents x.book) n l is_written lay

  -- it was written
  pub marked-written : slice_get b.marks slot ≡ Some Written
  marked-written =
      let parts = message_in-parts b (contents_at f.contents x.book) slot (Lent_message n l) lay in
      parts.marks ∙ ap Some (written-mark b (contents_at f.contents x.book) slot n l parts is_written)

  low : slot < length b.marks
  low = omega (arith, in_use.in_bounds, (parts.books.books x.book b at).aligned.marks)

  here-now : (s : ℕ) → lies_at ended x.book s ≡ message_in (with_sent slot b) (contents_at f.contents x.book) s
  here-now s = message_at-slot f.contents ended.books x.book s (with_sent slot b)
      (book-here f x.book b (with_sent slot b) at (sent-keeps b slot))

  -- what lies in the slot is the message
  pub lies-sent : (m : KeptMessage T U) → lies_at ended x.book slot ≡ Some m → m ≡ Sent_message n (entry_of l)
  lies-sent m e = sent-is b slot (contents_at f.contents x.book) n l written low m (sym (here-now slot) ∙ e)

  -- it lies there where somebody holds it
  pub sent-there : 0 < holders_at (with_sent slot b) slot
      → lies_at ended x.book slot ≡ Some (Sent_message n (entry_of l))
  sent-there some = here-now slot ∙ sent-lies b slot (contents_at f.contents x.book) n l written low some

  -- in each other slot lies what lay there
  pub others-lie : (k s : ℕ) → ((k ≡ x.book) × (s ≡ slot) → ⊥) → lies_at ended k s ≡ lies_at f k s
  others-lie k s away = elim (cases_eq k x.book) [
    | inl same ↦
        ap (λ j. lies_at ended j s) same ∙ here-now s
        ∙ sent-others b slot (contents_at f.contents x.book) s (λ e. away (same, e))
        ∙ sym (message_at-slot f.contents f.books x.book s b at) ∙ sym (ap (λ j. lies_at f j s) same)
    | inr apart ↦ alike k s (book-others f x.book b (with_sent slot b) at (sent-keeps b slot) k apart)
  ]
    where
      alike : (k s : ℕ) → get ended.books k ≡ get f.books k → lies_at ended k s ≡ lies_at f k s
      alike k s e = rw e refl

  -- only the slot changes, in which only this number lies
  pub changes-slot : ChangesSlot f ended x.book slot n
  changes-slot = record {
    others = others-lie;
    before = λ m e. let both : Some (Lent_message n l) ≡ Some m = sym lies ∙ e in let is : Lent_message n l ≡ m = cc in
        ap_numbered (Lent_message n l) m is (eq-eqb n n refl);
    after = λ m e. ap_numbered (Sent_message n (entry_of l)) m (sym (lies-sent m e)) (eq-eqb n n refl);
  }
    where
      ap_numbered : (m m' : KeptMessage T U) → m ≡ m' → is_numbered n m ≡ true → is_numbered n m' ≡ true
      ap_numbered m m' e h = ap (is_numbered n) (sym e) ∙ h

  -- the number lies in no other slot
  pub only-slot : (k s : ℕ) → HasNumber ended.books k s n → (k ≡ x.book) × (s ≡ slot)
  only-slot k s has = parts.numbered.one k x.book s slot n (was-number k s n has)
      (has_number f.contents f.books x.book slot n (Lent_message n l) lies (eq-eqb n n refl))

  -- all other numbers are found as before
  pub others-same : (m : ℕ) → m ≢ n → message_numbered m (kept_of ended).books ≡ message_numbered m (kept_of f).books
  others-same m away = message_numbered-others f ended x.book slot n ended-numbered changes-slot m away

  -- the sent entry is newly kept, if any is
  pub ended-entries : (m : ℕ) (entry : Entry T U) → entries_of (kept_of ended) m ≡ Some entry
      → ((m ≡ n) × (entry ≡ entry_of l)) ⊎ (entries_of (kept_of f) m ≡ Some entry)
  ended-entries m entry e = elim (cases_eq m n) [
    | inl same ↦
        let there = entry-there ended m entry e in
        let has =
        has_number f.contents ended.books there.0 there.1 m (Sent_message m entry) there.2 (eq-eqb m m refl) in
        let at_slot = only-slot there.0 there.1 (subst (HasNumber ended.books there.0 there.1) same has) in
        let now : lies_at ended x.book slot ≡ Some (Sent_message m entry) =
        sym (ap (λ s. lies_at ended x.book s) at_slot.1) ∙ sym (ap (λ k. lies_at ended k there.1) at_slot.0)
        ∙ there.2 in
        let is : Sent_message m entry ≡ Sent_message n (entry_of l) = lies-sent (Sent_message m entry) now in
        inl (same, ap (entry_or entry) is)
    | inr away ↦ inr (sym (ap (λ o. found_entry o) (others-same m away)) ∙ e)
  ]
    where
      entry_or : Entry T U → KeptMessage T U → Entry T U
      entry_or none (Lent_message number loan) = none
      entry_or none (Sent_message number entry) = entry

      found_entry : Option (KeptMessage T U) → Option (Entry T U)
      found_entry None = None
      found_entry (Some m) = entry_in m

  -- ---- the state

  -- the loan is out no more
  pub ended-loans : (state_of (kept_of ended)).loans ≡ put_at (state_of (kept_of f)).loans n None
  ended-loans = fun_ext (λ m. by m (eqb m n) refl) where
    found_loan : Option (KeptMessage T U) → Option (Loan T U)
    found_loan None = None
    found_loan (Some m) = loan_in m

    none : (o : Option (Loan T U)) → (state_of (kept_of ended)).loans n ≡ o → o ≡ None
    none None e = refl
    none (Some k) e =
        let there = loan-there ended n k e in
        let at_slot = only-slot there.0 there.1
        (has_number f.contents ended.books there.0 there.1 n (Lent_message n k) there.2 (eq-eqb n n refl)) in
        let now : lies_at ended x.book slot ≡ Some (Lent_message n k) =
        sym (ap (λ s. lies_at ended x.book s) at_slot.1) ∙ sym (ap (λ j. lies_at ended j there.1) at_slot.0)
        ∙ there.2 in
        absurd (let is : Lent_message n k ≡ Sent_message n (entry_of l) = lies-sent (Lent_message n k) now in cc)

    by : (m : ℕ) (t : Bool) → eqb m n ≡ t
        → (state_of (kept_of ended)).loans m ≡ cond t None ((state_of (kept_of f)).loans m)
    by m true e =
        ap (state_of (kept_of ended)).loans (eqb-is m n e) ∙ none ((state_of (kept_of ended)).loans n) refl where
          eqb-is : (a c : ℕ) → eqb a c ≡ true → a ≡ c
          eqb-is a c h = grind arith
    by m false e = ap found_loan (others-same m
        (λ same. let yes : eqb m n ≡ true = eq-eqb m n same in let no : true ≡ false = sym yes ∙ e in absurd cc))

  -- the numbers of its publisher's loans are without its own, which is the last of the history
  pub ended-is : ((s : ℕ) → 0 < times s x.loans → number_in_slot f.books x.id s ≡ n → s ≡ slot)
      → number_in_slot f.books x.id slot ≡ n
      → state_of (kept_of ended) ≡ record (state_of (kept_of f)) {
        publishers = put_at (state_of (kept_of f)).publishers x.id
            (Some (record (publisher_of f.books f.connections x).port {
              loans = without n (map (number_in_slot f.books x.id) x.loans);
              history = map (number_in_slot f.books x.id) (x.history).items ++ n ∷ [];
            }));
        loans = put_at (state_of (kept_of f)).loans n None;
      }
  ended-is only is =
      own-is f parts i x here b at mine (with_remembered slot x) keeps (with_sent slot b) (sent-keeps b slot)
      (put_at (state_of (kept_of f)).loans n None) ended-loans
      ∙ (λ t. record (state_of (kept_of f)) {
        publishers = put_at (state_of (kept_of f)).publishers x.id
            (Some (record (publisher_of f.books f.connections x).port
            { loans = map-without (number_in_slot f.books x.id) slot n is x.loans only t; history = remembered t }));
        loans = put_at (state_of (kept_of f)).loans n None;
      })
    where
      remembered : map (number_in_slot f.books x.id) ((x.history).items ++ slot ∷ []) ≡ map
          (number_in_slot f.books x.id) (x.history).items ++ n ∷ []
      remembered = map-append (number_in_slot f.books x.id) (x.history).items (slot ∷ [])
          ∙ ap (λ (m : ℕ). map (number_in_slot f.books x.id) (x.history).items ++ m ∷ []) is

  -- ---- the parts

  pub ended-shapes : HasShapes ended
  ended-shapes =
      record { at = λ k s c m stands e. shape k s m (message_at-slot f.contents ended.books k s c stands ∙ e) } where
        old : (k s : ℕ) (m : KeptMessage T U) → lies_at f k s ≡ Some m → HasShape f.config m
        old k s m e = let there = message_at-book f.contents f.books k s m e in
            parts.shapes.at k s there.0 m there.1 there.2

        sent : HasShape f.config (Sent_message n (entry_of l))
        sent =
            let was : HasShape f.config (Lent_message n l) = old x.book slot (Lent_message n l) lies in
            let long : length (entry_of l).values ≡ length l.cells = same_length in
            record { length = long ∙ was.length; single = was.single }
          where
            values : length (map {B = Option T} Some (written.content).values) ≡ length (written.content).values
            values = by (written.content).values where
              by : (vs : List T) → length (map {B = Option T} Some vs) ≡ length vs
              by [] = refl
              by (v ∷ vs) = ap suc (by vs)

            same_length : length (entry_of l).values ≡ length l.cells
            same_length =
                ap (λ (k : Loan T U). length (entry_of k).values) written.loan
                ∙ ap (length {A = T}) (values-of (written.content).values)
                ∙ sym values ∙ sym (ap (λ (k : Loan T U). length k.cells) written.loan)

        shape : (k s : ℕ) (m : KeptMessage T U) → lies_at ended k s ≡ Some m → HasShape f.config m
        shape k s m e = elim (cases_eq k x.book) [
          | inl key ↦ elim (cases_eq s slot) [
            | inl here ↦ subst (HasShape f.config)
                (sym (lies-sent m
                (sym (ap (λ j. lies_at ended x.book j) here) ∙ sym (ap (λ j. lies_at ended j s) key) ∙ e))) sent
            | inr away ↦ old k s m (sym (others-lie k s (λ both. away both.1)) ∙ e)
          ]
          | inr away ↦ old k s m (sym (others-lie k s (λ both. away both.0)) ∙ e)
        ]

  -- the fields agree with one another
  pub ended-parts : HasParts ended
  ended-parts =
      own-parts f parts i x here b at mine (with_remembered slot x) keeps (with_sent slot b)
      (sent-keeps b slot) counts refl
      (λ has d e. absurd (let no : None ≡ Some d = sym free ∙ e in cc)) unwritten aligned ended-numbered ended-shapes
    where
      counts : (s : ℕ) → times s (without slot x.loans) + times s ((x.history).items ++ slot ∷ []) + holders_at b s
          ≡ times s x.loans + times s (x.history).items + holders_at b s
      counts s = omega (arith, times_push s (x.history).items slot, times-without-one s slot x.loans once)

      -- the slot itself was written
      unwritten : (s : ℕ) → 0 < cell_count f.contents x.book s → slice_get b.marks s ≡ Some Unwritten
          → 0 < times s x.loans
          → (0 < times s (without slot x.loans)) × (slice_get (with_sent slot b).marks s ≡ Some Unwritten)
      unwritten s some marked out = elim (cases_eq s slot) [
        | inl same ↦ absurd
            (let no : Some Unwritten ≡ Some Written = sym marked ∙ ap (slice_get b.marks) same ∙ marked-written in cc)
        | inr away ↦ (
          omega (arith, out, times-without-one s slot x.loans once, one_if_other s slot away),
          slice_get-set_other b.marks slot s Sent away ∙ marked,
        )
      ]

      aligned : IsAligned (with_sent slot b)
      aligned =
          let old : IsAligned b = (parts.books.books x.book b at).aligned in
          record {
            numbers = old.numbers;
            headers = old.headers;
            marks = length-set b.marks slot _ ∙ old.marks;
          }
