-- What lies in the slot of a loan that is out is changed.
use Rattle.std.proofs.Common.{◌≡◌, ◌≢◌, ℕ, ◌*◌, List, map, length, Bool, true, false, cond, get_or, refl, ap, sym}
use Rattle.std.proofs.Common.{subst, ◌∙◌, inl, inr}
use Rattle.std.proofs.lemmas.Bool.{cases_eq, eq-eqb, ne_eqb, true≢false, false_from_ne_true}
use Rattle.std.specs.Prelude.{◌<◌, slice_get, slice_index}
use Rattle.std.specs.declared.option.Option.{Option}
use Rattle.std.specs.declared.option.Option.TheVariants.{None, Some}
use Rattle.std.specs.Option.{option_map, option_and_then}
use Rattle.iox2_machine.specs.machine.Numbers.{put_at}
use Rattle.iox2_machine.specs.machine.Records.{Loan}
use Rattle.iox2_machine.specs.machine.State.{State, with_loan}
use Rattle.iox2_machine.specs.machine.Loans.{is_initialized}
use Rattle.iox2_slots.specs.SlotBook.{Book}
use Rattle.iox2_contents.specs.SlotContents.{ContentState}
use Rattle.iox2_machine.specs.Stored.{IsHeldMessage}
use Rattle.iox2_machine.specs.declared.header.Header.{Header}
use Rattle.iox2_machine.specs.declared.service_config.TypeVariant.TheVariants.{FixedSize}
use Rattle.iox2_slots.specs.declared.slots.mark.SlotMark.{SlotMark}
use Rattle.iox2_slots.specs.declared.slots.mark.SlotMark.TheVariants.{Unwritten, Written, Sent}
use Rattle.iox2_laws.proofs.LoanLaws.{with_loan_keeps}
use Rattle.iox2_domain.specs.Kept.{KeptMessage, Lent_message, Sent_message, header_of, state_of, entries_of}
use Rattle.iox2_domain.specs.Kept.{is_numbered, loan_in, entry_in, message_numbered, loan_changed}
use Rattle.iox2_domain.specs.Fields.{Fields, kept_of, message_of, message_in, contents_in}
use Rattle.iox2_domain.specs.Invariant.{IsDomain, HasShape, HasShapes, is_lent}
use Rattle.iox2_domain.specs.LoanSlots.{LiesInSlot}
use Rattle.iox2_domain.specs.Reaches.{Reaches}
use Rattle.iox2_domain.specs.Shows.{KeepsEntries}
use Rattle.iox2_domain.proofs.lemmas.fields.KeptBooks.{kept-used}
use Rattle.iox2_domain.proofs.lemmas.fields.NamedBooks.{names-books}
use Rattle.iox2_domain.proofs.lemmas.slots.BookChanges.{book-after}
use Rattle.iox2_domain.proofs.lemmas.slots.Messages.{LiesIn, lies_at, message_in-parts, message_at-slot}
use Rattle.iox2_domain.proofs.lemmas.slots.Messages.{message_at-book, message_numbered-found, has_number}
use Rattle.iox2_domain.proofs.lemmas.slots.SlotChanges.{slot-forms, slot-open, with_slot, marked, marked-keeps, renewed}
use Rattle.iox2_domain.proofs.lemmas.slots.SlotChanges.{slot-books, slot-numbered, slot-counted, slot-state, others-lie}
use Rattle.iox2_domain.proofs.lemmas.slots.SlotChanges.{slot-lies, others-found, slot-found, number-was}
use Rattle.iox2_domain.proofs.lemmas.fields.Views.{held-before}
use Rattle.iox2_domain.proofs.lemmas.slots.LoneLoans.{lone-marked}
use Rattle.iox2_domain.proofs.lemmas.fields.SameLinks.{linked-same}
use Rattle.iox2_domain.proofs.lemmas.fields.PlacesKept.{places-back}
use mathlib.Core.Path.{fun_ext}

-- ---- what lies in a loan's slot

module _ {T U : Type 0} where
  -- the loan with these parts
  abbrev loan_of : (publisher : ℕ) → Header → U → List (Option T) → Bool → Loan T U
  loan_of publisher header user_header cells is_written =
      record {
        publisher = publisher;
        header = header;
        user_header = user_header;
        cells = cells;
        is_written = is_written;
      }

  abbrev written_mark : KeptMessage T U → Bool
  written_mark (Lent_message number l) = l.is_written
  written_mark (Sent_message number entry) = false

  module _ (b : Book) (cs : List (ContentState T U)) (slot n : ℕ) (l : Loan T U)
      (lies : LiesIn b cs slot (Lent_message n l)) where
    -- an unwritten loan has the cells of its slot
    pub unwritten-parts : l.is_written ≡ false
        → l ≡ loan_of b.publisher lies.header (lies.content).user_header (lies.content).cells false
    unwritten-parts unwritten = by lies.mark lies.is where
      by : (mark : SlotMark)
          → Lent_message n l ≡ message_of b.publisher (slice_index b.numbers slot) lies.header lies.content mark
          → l ≡ loan_of b.publisher lies.header (lies.content).user_header (lies.content).cells false
      by Unwritten e = cc
      by Written e = absurd (true≢false (sym (ap written_mark e) ∙ unwritten))
      by Sent e = absurd cc

    -- a written loan has the values of its slot
    pub written-parts : l.is_written ≡ true
        → l ≡ loan_of b.publisher lies.header (lies.content).user_header (map Some (lies.content).values) true
    written-parts written = by lies.mark lies.is where
      by : (mark : SlotMark)
          → Lent_message n l ≡ message_of b.publisher (slice_index b.numbers slot) lies.header lies.content mark
          → l ≡ loan_of b.publisher lies.header (lies.content).user_header (map Some (lies.content).values) true
      by Unwritten e = absurd (true≢false (sym written ∙ ap written_mark e))
      by Written e = cc
      by Sent e = absurd cc

    -- the header is the slot's
    pub loan-header : l.header ≡ lies.header
    loan-header = by lies.mark lies.is where
      by : (mark : SlotMark) → Lent_message n l ≡ message_of b.publisher
          (slice_index b.numbers slot) lies.header lies.content mark → l.header ≡ lies.header
      by Unwritten e = ap header_of e
      by Written e = ap header_of e
      by Sent e = absurd cc

    -- and the user header its content's
    pub loan-user_header : l.user_header ≡ (lies.content).user_header
    loan-user_header = by lies.mark lies.is where
      header_in : KeptMessage T U → U
      header_in (Lent_message number k) = k.user_header
      header_in (Sent_message number entry) = entry.user_header

      by : (mark : SlotMark) → Lent_message n l ≡ message_of b.publisher
          (slice_index b.numbers slot) lies.header lies.content mark → l.user_header ≡ (lies.content).user_header
      by Unwritten e = ap header_in e
      by Written e = ap header_in e
      by Sent e = absurd cc

    -- the mark of the slot of an unwritten loan, and of a written one
    pub unwritten-mark : l.is_written ≡ false → lies.mark ≡ Unwritten
    unwritten-mark unwritten = by lies.mark lies.is where
      by : (mark : SlotMark) → Lent_message n l ≡ message_of b.publisher
          (slice_index b.numbers slot) lies.header lies.content mark → mark ≡ Unwritten
      by Unwritten e = refl
      by Written e = absurd (true≢false (sym (ap written_mark e) ∙ unwritten))
      by Sent e = absurd cc

    pub written-mark : l.is_written ≡ true → lies.mark ≡ Written
    written-mark written = by lies.mark lies.is where
      by : (mark : SlotMark) → Lent_message n l ≡ message_of b.publisher
          (slice_index b.numbers slot) lies.header lies.content mark → mark ≡ Written
      by Unwritten e = absurd (true≢false (sym written ∙ ap written_mark e))
      by Written e = refl
      by Sent e = absurd cc

-- ---- the change

-- The loan has the publisher, the header and as many cells as before, and each of its cells is written if it is.
pub record IsChangeOf {T U : Type 0} (l changed : Loan T U) : Type 0 where
  pub publisher : changed.publisher ≡ l.publisher
  pub header : changed.header ≡ l.header
  pub cells : length changed.cells ≡ length l.cells
  pub complete : changed.is_written ≡ true → is_initialized changed ≡ true

-- With this mark, what g makes of the content is the changed loan. It has cells only where the content had some, under
-- the mark that it had.
pub record ChangesTo {T U : Type 0} (publisher n : ℕ) (header : Header) (content : ContentState T U) (had : SlotMark)
    (l : Loan T U) (mark : SlotMark)
    (g : ContentState T U → ContentState T U) (changed : Loan T U) : Type 0 where
  pub room : (c : ContentState T U) → (g c).room ≡ c.room
  pub form : (c : ContentState T U) → (g c).is_in_place ≡ c.is_in_place
  pub listed : (c : ContentState T U) → (g c).lists ≡ c.lists
  pub cells : 0 < length (g content).cells → (0 < length content.cells) × (mark ≡ had)
  pub loan : IsChangeOf l changed
  pub is : message_of publisher n header (g content) mark ≡ Lent_message n changed

module _ {T U : Type 0} (f : Fields T U) (sound : IsDomain f) (p n key slot : ℕ) (at : LiesInSlot f p n key slot) where
  shape : HasShape f.config (Lent_message n at.loan)
  shape = sound.parts.shapes.at key slot at.book (Lent_message n at.loan) at.stands at.lies

  -- the loan has one cell where each message is a single value
  pub one-cell : (f.config).variant ≡ FixedSize → (f.config).units_per_element ≡ 1 → length (at.loan).cells ≡ 1
  one-cell variant units =
      shape.length ∙ ap (λ k. k * (f.config).units_per_element) (shape.single variant) ∙ ap (λ k. 1 * k) units

  module _ (cs : List (ContentState T U)) (at_c : get_or f.contents key None ≡ Some cs) where
    -- what lies in its slot
    pub loan-parts : LiesIn at.book cs slot (Lent_message n at.loan)
    loan-parts = message_in-parts at.book cs slot (Lent_message n at.loan)
        (sym (ap (λ o. message_in at.book (contents_in o) slot) at_c) ∙ at.lies)

    module _ (mark : SlotMark) (g : ContentState T U → ContentState T U) (changed : Loan T U)
        (change : ChangesTo
        (at.book).publisher n loan-parts.header loan-parts.content loan-parts.mark at.loan mark g changed) where
      abbrev state : State T U
      state = state_of (kept_of f)

      -- the fields with it
      abbrev pub with_change : Fields T U
      with_change = with_slot f sound key slot at.book at.stands cs at_c mark g

      changed-is : renewed f sound key slot at.book at.stands cs at_c mark g
          (Lent_message n at.loan) loan-parts ≡ Lent_message n changed
      changed-is = ap (λ (k : ℕ). message_of (at.book).publisher k loan-parts.header (g loan-parts.content) mark)
          (at.loan_slot).numbered ∙ change.is

      -- the loan lies in the slot
      changed-lies : lies_at with_change key slot ≡ Some (Lent_message n changed)
      changed-lies = slot-lies f sound key slot at.book at.stands cs at_c mark g (Lent_message n at.loan) loan-parts
          ∙ ap Some changed-is

      changed-found : message_numbered n (kept_of with_change).books ≡ Some (Lent_message n changed)
      changed-found =
          ap (λ k. message_numbered k (kept_of with_change).books) (sym (at.loan_slot).numbered)
          ∙ slot-found f sound key slot at.book at.stands cs at_c mark g (Lent_message n at.loan) loan-parts
          ∙ ap Some changed-is

      loan-was : message_numbered n (kept_of f).books ≡ Some (Lent_message n at.loan)
      loan-was =
          message_numbered-found f.contents f.books f.next_message sound.parts.numbered n key slot
          (Lent_message n at.loan)
          (message_at-slot f.contents f.books key slot at.book at.stands ∙ at.lies) (eq-eqb n n refl)

      others-were : (k : ℕ) → k ≢ n
          → message_numbered k (kept_of with_change).books ≡ message_numbered k (kept_of f).books
      others-were k away =
          others-found f sound key slot at.book at.stands cs at_c mark g k
          (λ same. away (same ∙ (at.loan_slot).numbered))

      loans-are : (k : ℕ) → (state_of (kept_of with_change)).loans k ≡ put_at state.loans n (Some changed) k
      loans-are k = elim (cases_eq k n) [
        | inl here ↦
            ap (λ (j : ℕ). option_and_then loan_in (message_numbered j (kept_of with_change).books)) here
            ∙ ap (option_and_then loan_in) changed-found
            ∙ sym (ap (λ b. cond b (Some changed) (state.loans k)) (eq-eqb k n here))
        | inr away ↦
            ap (option_and_then loan_in) (others-were k away)
            ∙ sym (ap (λ b. cond b (Some changed) (state.loans k)) (ne_eqb k n away))
      ]

      -- the machine's step
      pub change-is : state_of (kept_of with_change) ≡ with_loan state n (Some changed)
      change-is =
          slot-state f sound key slot at.book at.stands cs at_c mark g
          ∙ ap (λ (ls : ℕ → Option (Loan T U)). record state { loans = ls }) (fun_ext loans-are)

      -- the same entries are kept
      pub change-entries : (k : ℕ) → entries_of (kept_of with_change) k ≡ entries_of (kept_of f) k
      change-entries k = elim (cases_eq k n) [
        | inl here ↦
            ap (λ (j : ℕ). option_and_then entry_in (message_numbered j (kept_of with_change).books)) here
            ∙ ap (option_and_then entry_in) changed-found
            ∙ sym (ap (option_and_then entry_in) loan-was)
            ∙ sym (ap (λ (j : ℕ). option_and_then entry_in (message_numbered j (kept_of f).books)) here)
        | inr away ↦ ap (option_and_then entry_in) (others-were k away)
      ]

      change-shapes : HasShapes with_change
      change-shapes = record {
        at = λ k s b m there lies.
            let found : lies_at with_change k s ≡ Some m =
            message_at-slot with_change.contents with_change.books k s b there ∙ lies in
            elim (cases_eq k key) [
              | inr away ↦ before k s m (λ here. away here.0) found
              | inl here ↦ elim (cases_eq s slot) [
                | inr away ↦ before k s m (λ same. away same.1) found
                | inl same ↦
                    let new : Some (Lent_message n changed) ≡ Some m =
                    sym changed-lies ∙ sym (ap (λ (j : ℕ). lies_at with_change j slot) here)
                    ∙ sym (ap (λ (j : ℕ). lies_at with_change k j) same) ∙ found in
                    let is : Lent_message n changed ≡ m = cc in
                    subst (HasShape f.config) is (record {
                      length = (change.loan).cells ∙ shape.length
                          ∙ ap (λ (h : Header). h.number_of_elements * (f.config).units_per_element)
                          (sym (change.loan).header);
                      single = λ variant.
                          ap (λ (h : Header). h.number_of_elements) (change.loan).header ∙ shape.single variant;
                    })
              ]
            ];
      } where
        before : (k s : ℕ) (m : KeptMessage T U) → ((k ≡ key) × (s ≡ slot) → ⊥) → lies_at with_change k s ≡ Some m
            → HasShape f.config m
        before k s m away found =
            let was = message_at-book f.contents f.books k s m
            (sym (others-lie f sound key slot at.book at.stands cs at_c mark g k s away) ∙ found) in
            sound.parts.shapes.at k s was.0 m was.1 was.2

      change-keeps_entries : KeepsEntries (kept_of with_change)
      change-keeps_entries p' k there =
          let held_then : IsHeldMessage state p' k =
          held-before state (with_loan state n (Some changed)) p' k (λ q. refl)
          (λ y here. (y, here, record { history = refl; blocked = refl }))
          (subst (λ (s : State T U). IsHeldMessage s p' k) change-is there) in
          let kept = sound.entries p' k held_then in
          (kept.0, change-entries k ∙ kept.1, kept.2)

      -- the invariant is kept
      pub change-agrees : IsDomain with_change
      change-agrees = record {
        parts = record {
          publisher_ids = sound.parts.publisher_ids;
          subscriber_ids = sound.parts.subscriber_ids;
          apart = sound.parts.apart;
          linked = linked-same f f.next_message f.warnings with_change.books with_change.contents sound.parts.linked;
          expired_room = sound.parts.expired_room;
          books = slot-books f sound key slot at.book at.stands cs at_c mark g change.room;
          names = names-books f.books _ f.connections
              (book-after f key at.book (marked f sound key slot at.book at.stands cs at_c mark g) at.stands
              (marked-keeps f sound key slot at.book at.stands cs at_c mark g)) sound.parts.names;
          counted =
              slot-counted f sound key slot at.book at.stands cs at_c mark g (lent mark change.is) (at.loan_slot).lent;
          numbered = slot-numbered f sound key slot at.book at.stands cs at_c mark g;
          publisher_room = sound.parts.publisher_room;
          warning_room = sound.parts.warning_room;
          shapes = change-shapes;
          forms =
              slot-forms f sound key slot at.book at.stands cs at_c mark g change.form change.listed sound.parts.forms;
          open_loans = slot-open f sound key slot at.book at.stands cs at_c mark g change.listed keeps-cells
              sound.parts.open_loans;
          plain = sound.parts.plain;
        };
        kept_books = kept-used f.next_port f.publishers f.books key at.book
            (marked f sound key slot at.book at.stands cs at_c mark g) at.stands refl refl sound.kept_books;
        lone = lone-marked f.books key slot n at.book mark at.stands sound.lone at.loan_slot;
        well_formed = rw change-is (with_loan_keeps state sound.well_formed n at.loan at.is_out changed
            (change.loan).publisher (change.loan).header (change.loan).cells (change.loan).complete);
        entries = change-keeps_entries;
      } where
        -- the slot has cells only where it had some, under the mark that it had
        keeps-cells : (content : ContentState T U) → slice_get cs slot ≡ Some content → 0 < length (g content).cells
            → (0 < length content.cells) × (slice_get (at.book).marks slot ≡ Some mark)
        keeps-cells content there some =
            let both : Some loan-parts.content ≡ Some content = sym loan-parts.contains ∙ there in
            let is : loan-parts.content ≡ content = cc in
            let old = change.cells (subst (λ (c : ContentState T U). 0 < length (g c).cells) (sym is) some) in
            (subst (λ (c : ContentState T U). 0 < length c.cells) is old.0, loan-parts.marks ∙ ap Some (sym old.1))

        -- a slot whose message is a loan is lent
        lent : (mark : SlotMark) → message_of (at.book).publisher n loan-parts.header
            (g loan-parts.content) mark ≡ Lent_message n changed → is_lent mark ≡ true
        lent Unwritten is = refl
        lent Written is = refl
        lent Sent is = absurd cc

      -- the step
      pub change-reaches : Reaches f with_change (with_loan state n (Some changed))
      change-reaches = record {
        agrees = change-agrees;
        state = change-is;
        entries = λ k entry kept.
            sym (change-entries k) ∙ kept;
        places = places-back (number-was f sound key slot at.book at.stands cs at_c mark g);
      }

      -- ---- what is kept

      module _ (h : Loan T U → Loan T U) (h-is : h at.loan ≡ changed) where
        abbrev change-message : Option (KeptMessage T U) → Option (KeptMessage T U)
        change-message o = option_map (loan_changed n h) o

        other-message : (m : KeptMessage T U) → is_numbered n m ≡ false → loan_changed n h m ≡ m
        other-message (Lent_message number l) e = ap (λ b. Lent_message number (cond b (h l) l)) e
        other-message (Sent_message number entry) e = refl

        -- in the other slots lies what lay there, under another number
        other-slot : (k s : ℕ) → ((k ≡ key) × (s ≡ slot) → ⊥) → lies_at with_change k s ≡ change-message (lies_at f k s)
        other-slot k s away =
            others-lie f sound key slot at.book at.stands cs at_c mark g k s away ∙ by (lies_at f k s) refl where
              by : (o : Option (KeptMessage T U)) → lies_at f k s ≡ o → o ≡ change-message o
              by None e = refl
              by (Some m) e = ap Some (sym (other-message m (false_from_ne_true (is_numbered n m) (λ yes.
                  away (sound.parts.numbered.one k key s slot n (has_number f.contents f.books k s n m e yes)
                  (has_number f.contents f.books key slot n (Lent_message n at.loan)
                  (message_at-slot f.contents f.books key slot at.book at.stands ∙ at.lies) (eq-eqb n n refl)))))))

        -- in the slot lies the changed loan
        this-slot : lies_at with_change key slot ≡ change-message (lies_at f key slot)
        this-slot =
            changed-lies
            ∙ ap (λ l. Some (Lent_message n l)) (sym h-is)
            ∙ ap (λ b. Some (Lent_message n (cond b (h at.loan) at.loan))) (sym (eq-eqb n n refl))
            ∙ sym (ap change-message (message_at-slot f.contents f.books key slot at.book at.stands ∙ at.lies))

        pub each-slot : (k s : ℕ) → lies_at with_change k s ≡ change-message (lies_at f k s)
        each-slot k s = elim (cases_eq k key) [
          | inr away ↦ other-slot k s (λ both. away both.0)
          | inl here ↦ elim (cases_eq s slot) [
            | inr away ↦ other-slot k s (λ both. away both.1)
            | inl same ↦
                ap (λ (i : ℕ). lies_at with_change i s) here ∙ ap (λ (j : ℕ). lies_at with_change key j) same
                ∙ this-slot
                ∙ sym (ap (λ (j : ℕ). change-message (lies_at f key j)) same)
                ∙ sym (ap (λ (i : ℕ). change-message (lies_at f i s)) here)
          ]
        ]
