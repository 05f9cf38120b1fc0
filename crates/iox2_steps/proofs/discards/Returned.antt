-- A loan is given back unsent: its slot is free, and nothing lies in it.
use Rattle.std.proofs.Common.{◌≡◌, ℕ, ◌+◌, get_or, refl, ap, sym, subst, ◌∙◌, inl, inr, arith}
use Rattle.std.proofs.lemmas.Bool.{cases_eq}
use Rattle.std.specs.declared.option.Option.{Option}
use Rattle.std.specs.declared.option.Option.TheVariants.{None, Some}
use Rattle.std.specs.Option.{option_map, option_and_then}
use Rattle.std.specs.Prelude.{List, ◌<◌, slice_set}
use Rattle.slab.specs.Slab.{get, with_value}
use Rattle.iox2_machine.specs.machine.Loans.{loan_discarded}
use Rattle.iox2_slots.specs.SlotBook.{Book, holders_at}
use Rattle.iox2_contents.specs.SlotContents.{ContentState, ended_content}
use Rattle.iox2_machine.specs.machine.Numbers.{put_at, without}
use Rattle.iox2_machine.specs.machine.Records.{Loan, Publisher}
use Rattle.iox2_machine.specs.machine.State.{State}
use Rattle.iox2_machine.specs.machine.WellFormed.{IsWellFormed}
use Rattle.iox2_machine.specs.Stored.{IsHeldMessage}
use Rattle.iox2_connections.specs.Counters.{times}
use Rattle.iox2_connections.proofs.Counts.{one_if, one_if_other}
use Rattle.iox2_laws.proofs.LoanLaws.{loan_discarded_keeps}
use Rattle.iox2_laws.proofs.Puts.{found_put}
use Rattle.iox2_domain.specs.Discards.{with_holder_gone, with_loan_discarded}
use Rattle.iox2_domain.specs.Deliveries.{with_loan_out}
use Rattle.iox2_domain.specs.Ports.{PublisherFields}
use Rattle.iox2_domain.specs.Kept.{Kept, Lent_message, state_of, entries_of, entry_in}
use Rattle.iox2_domain.specs.Fields.{Fields, kept_of, publisher_of, number_in_slot, contents_at, contents_in}
use Rattle.iox2_domain.specs.Invariant.{IsDomain, IsOwned, KeepsBooks, HasBooks, HasForms, HasOpenLoans, HasShapes}
use Rattle.iox2_domain.specs.Invariant.{HasNumber, HasParts, LendsBlocked, cell_count}
use Rattle.iox2_domain.specs.Reaches.{Reaches}
use Rattle.iox2_domain.specs.Shows.{KeepsEntries}
use Rattle.iox2_domain.proofs.lemmas.fields.ConnectionEnds.{publisher-stands}
use Rattle.iox2_domain.proofs.lemmas.fields.KeptBooks.{kept-own}
use Rattle.iox2_domain.proofs.lemmas.fields.Parts.{whole_of}
use Rattle.iox2_domain.proofs.lemmas.fields.Views.{KeepsHeld, held-before}
use Rattle.iox2_domain.proofs.lemmas.loans.PublisherChanges.{KeepsSettings, other_slots, changed-kept_books}
use Rattle.iox2_domain.proofs.lemmas.slots.BookContents.{contents-there}
use Rattle.iox2_domain.proofs.lemmas.slots.FreeContents.{rewritten-kept, rewritten-lies}
use Rattle.iox2_domain.proofs.lemmas.slots.OpenLoans.{HasItsLists, kept-lists, mark-here, open-own}
use Rattle.iox2_domain.proofs.lemmas.slots.OwnSlots.{own-is, own-books, own-parts_with}
use Rattle.iox2_domain.proofs.lemmas.slots.RewrittenContents.{rewritten-books, rewritten-others}
use Rattle.iox2_domain.proofs.lemmas.slots.SlotCells.{cells-here, cells-elsewhere}
use Rattle.iox2_domain.proofs.lemmas.slots.SlotChanges.{forms-changed, lists-changed}
use Rattle.iox2_steps.proofs.sends.LoanAlone.{loan-number, loan-is, loan-of, loan-slot, loan-once, blocked-other}
use Rattle.iox2_steps.proofs.sends.SentSlots.{times-without-one, map-without}
use Rattle.iox2_domain.proofs.lemmas.slots.HolderGone.{keeps_slots, free, fewer-holders, given-aligned, left-numbered}
use Rattle.iox2_domain.proofs.lemmas.slots.HolderGone.{unnumbered, others-same, left-entries, left-places, left-loans}
use Rattle.iox2_domain.proofs.lemmas.slots.HolderGone.{left-shapes, left-lone}
use Rattle.iox2_domain.proofs.lemmas.slots.BookChanges.{KeepsSlots, book-here}
use Rattle.iox2_domain.proofs.lemmas.slots.HeldMessages.{held-message-slot}
use Rattle.iox2_domain.proofs.lemmas.slots.Messages.{lies_at}
use Rattle.iox2_domain.proofs.lemmas.slots.PublisherBooks.{book-own, book-owned}

module _ {T U : Type 0} (f : Fields T U) (sound : IsDomain f) (i : ℕ) (x : PublisherFields)
    (here : get_or f.publishers i None ≡ Some x)
    (b : Book) (at : get f.books x.book ≡ Some b) (slot n : ℕ) (l : Loan T U)
    (lies : lies_at f x.book slot ≡ Some (Lent_message n l)) (alone : holders_at b slot ≡ 1) where
  -- the book afterwards
  abbrev given : Book
  given = with_holder_gone slot b

  -- the fields with the slot's cells still
  abbrev mid : Fields T U
  mid = record f
      { publishers = slice_set f.publishers i (Some (with_loan_out slot x)); books = with_value f.books x.book given }

  -- the fields afterwards
  abbrev pub returned : Fields T U
  returned = with_loan_discarded f i x slot b

  abbrev was : State T U
  was = state_of (kept_of f)

  parts : HasParts f
  parts = sound.parts

  mine : b.publisher ≡ x.id
  mine = book-own f parts i x here b at

  keeps : KeepsSettings x (with_loan_out slot x)
  keeps = other_slots x (without slot x.loans) (x.history).items x.blocked

  -- ---- the book and what lies in its slots

  same-slots : KeepsSlots b given
  same-slots = keeps_slots f parts x.book b at slot n l lies alone

  abbrev cs : List (ContentState T U)
  cs = contents_at f.contents x.book

  has : get_or f.contents x.book None ≡ Some cs
  has = let there = contents-there f parts x.book b at in there.1 ∙ ap Some (sym (ap contents_in there.1))

  given-here : get mid.books x.book ≡ Some given
  given-here = book-here f x.book b given at same-slots

  slot-free : holders_at given slot ≡ 0
  slot-free = free f parts x.book b at slot n l lies alone

  -- the cells of a slot that nobody holds aren't kept
  same-kept : kept_of returned ≡ kept_of mid
  same-kept = rewritten-kept mid x.book cs has slot ended_content given given-here slot-free

  -- ---- the state

  abbrev without_loan : Publisher → Publisher
  without_loan y = record y { loans = without n y.loans }

  -- the machine's step
  mid-is : state_of (kept_of mid) ≡ loan_discarded was n l
  mid-is =
      own-is f parts i x here b at mine (with_loan_out slot x) keeps given same-slots (put_at was.loans n None)
      (left-loans f parts x.book b at slot n l lies alone)
      ∙ ap (λ (o : Option Publisher).
      record was { publishers = put_at was.publishers x.id o; loans = put_at was.loans n None }) port
      ∙ ap (λ (p : ℕ). record was {
        publishers = put_at was.publishers p (option_map without_loan (was.publishers p));
        loans = put_at was.loans n None;
      })
      (sym (loan-of f sound i x here slot n l lies))
    where
      port : Some ((publisher_of f.books f.connections (with_loan_out slot x)).port) ≡ option_map without_loan
          (was.publishers x.id)
      port =
          ap (λ ns. Some (record (publisher_of f.books f.connections x).port { loans = ns }))
          (map-without (number_in_slot f.books x.id) slot n (loan-number f sound i x here slot n l lies) x.loans
          (loan-slot f sound i x here slot n l lies))
          ∙ sym (ap (option_map without_loan) (publisher-stands f sound.parts i x here))

  returned-is : state_of (kept_of returned) ≡ loan_discarded was n l
  returned-is = ap (state_of {T = T} {U = U}) same-kept ∙ mid-is

  -- ---- the parts

  fewer-loans : (s : ℕ) → times s (without slot x.loans) + one_if s slot ≡ times s x.loans
  fewer-loans s = times-without-one s slot x.loans (loan-once f sound i x here slot n l lies)

  -- the fields agree with one another
  returned-parts : HasParts returned
  returned-parts =
      own-parts_with f parts i x here b at mine (with_loan_out slot x) keeps given same-slots
      (λ s. omega (arith, fewer-holders f parts x.book b at slot n l lies alone s, fewer-loans s))
      returned.contents refl lends (left-numbered f parts x.book b at slot n l lies alone)
      (rewritten-books mid x.book cs has slot ended_content given given-here (λ c. refl) mid-books) shapes forms
      open_loans
    where
      mid-books : HasBooks mid
      mid-books = own-books f parts i x here b at mine (with_loan_out slot x) keeps given same-slots
          (λ s. omega (arith, fewer-holders f parts x.book b at slot n l lies alone s, fewer-loans s))
          (given-aligned f parts x.book b at slot n l lies alone)

      shapes : HasShapes returned
      shapes = record {
        at = λ k s c m stands lying.
            (left-shapes f parts x.book b at slot n l lies alone).at k s c m stands
            (sym (rewritten-lies mid x.book cs has slot ended_content given given-here slot-free k s c stands) ∙ lying);
      }

      forms : HasForms f.config returned.contents
      forms = forms-changed f.config f.contents x.book slot cs has ended_content (λ c. refl) (λ c. refl) parts.forms

      its-lists : HasItsLists f parts i x here (with_loan_out slot x) b given at returned.contents
          (rewritten-others f x.book cs has slot ended_content)
      its-lists = kept-lists f parts i x here (with_loan_out slot x) b given at returned.contents
          (rewritten-others f x.book cs has slot ended_content)
          (lists-changed f.contents x.book slot cs has ended_content (λ c. refl))

      -- the slot has no cells, and the others are as they were
      open_loans : HasOpenLoans f.config returned.publishers returned.books returned.contents
      open_loans = open-own f parts i x here (with_loan_out slot x) b given at returned.contents
          (rewritten-others f x.book cs has slot ended_content) refl refl (λ s some. elim (cases_eq s slot) [
            | inl same ↦ absurd (let none = cells-here f.contents x.book cs has slot ended_content
                (subst (λ (j : ℕ). 0 < cell_count returned.contents x.book j) same some) in let no : 0 < 0 = none.2 in
                omega arith)
            | inr away ↦
                let before : cell_count returned.contents x.book s ≡ cell_count f.contents x.book s =
                cells-elsewhere f.contents x.book cs has slot ended_content x.book s (λ both. away both.1) in
                let loan = parts.open_loans.at i s x here (subst (λ (k : ℕ). 0 < k) before some) in (
                  omega (arith, loan.out, fewer-loans s, one_if_other s slot away),
                  sym (mark-here f.books x.book b at s) ∙ loan.unwritten,
                )
          ]) its-lists

      -- the slot of a blocked delivery is another
      lends : LendsBlocked x → LendsBlocked (with_loan_out slot x)
      lends has d e = omega (
        arith,
        has d e,
        fewer-loans d.slot,
        one_if_other d.slot slot (blocked-other f sound i x here slot n l lies d e),
      )

  -- ---- the whole

  -- each message that is held has its entry still
  keeps_entries : KeepsEntries (kept_of returned)
  keeps_entries q m is = elim (cases_eq m n) [
    | inl same ↦
        let there = held-message-slot returned returned-parts.counted returned-parts.publisher_ids returned-parts.plain
        q m is in
        absurd (unnumbered f parts x.book b at slot n l lies alone there.0 there.1
        (subst (HasNumber returned.books there.0 there.1) same there.2))
    | inr away ↦
        let old = sound.entries q m (held-before was (loan_discarded was n l) q m (λ r. refl) standing
        (subst (λ (s : State T U). IsHeldMessage s q m) returned-is is)) in (
          old.0,
          ap (λ (k : Kept T U ⊥ ⊥). entries_of k m) same-kept
              ∙ ap (option_and_then entry_in) (others-same f parts x.book b at slot n l lies alone m away) ∙ old.1,
          old.2,
        )
  ]
    where
      standing : (y : Publisher) → (loan_discarded was n l).publishers q ≡ Some y
          → (z : Publisher) × (was.publishers q ≡ Some z) × KeepsHeld z y
      standing y e =
          let stood =
          ap was.publishers (loan-of f sound i x here slot n l lies) ∙ publisher-stands f sound.parts i x here in
          let port : Publisher = (publisher_of f.books f.connections x).port in
          found_put was.publishers l.publisher (without_loan port)
          (λ j z. (v : Publisher) × (was.publishers j ≡ Some v) × KeepsHeld v z) q y
          (sym (ap (λ (o : Option Publisher). put_at was.publishers l.publisher (option_map without_loan o) q) stood)
          ∙ e)
          (λ _. (port, stood, record { history = refl; blocked = refl }))
          (λ _ there. (y, there, record { history = refl; blocked = refl }))

  -- each book is somebody's still, or left
  kept : KeepsBooks f.next_port returned.publishers returned.books
  kept =
      changed-kept_books f i x (with_loan_out slot x) here refl returned.books refl
      (kept-own f.next_port f.publishers f.books x.book b given at refl
      (subst (IsOwned f.publishers x.book) (sym mine) (book-owned f parts i x here)) sound.kept_books)

  -- the loan is given back
  pub returned-reaches : Reaches f returned (loan_discarded was n l)
  returned-reaches = record {
    agrees = whole_of returned returned-parts (left-lone f parts x.book b at slot n l lies alone sound.lone) kept
        (subst IsWellFormed (sym returned-is)
        (loan_discarded_keeps was sound.well_formed n l (loan-is f sound i x here slot n l lies))) keeps_entries;
    state = returned-is;
    entries = λ m entry kept. left-entries f parts x.book b at slot n l lies alone m entry
        (sym (ap (λ (k : Kept T U ⊥ ⊥). entries_of k m) same-kept) ∙ kept);
    places = left-places f parts x.book b at slot n l lies alone;
  }
