-- A loan is given back whose publisher is gone: its slot is free, and its book goes with its last holder.
use Rattle.std.proofs.Common.{◌≡◌, ◌≢◌, ℕ, ◌+◌, ◌<◌, ◌&&◌, true, false, cond, List, length, get_or, refl, ap, sym}
use Rattle.std.proofs.Common.{subst, ◌∙◌, inl, inr, ◌⊎◌, arith}
use Rattle.std.proofs.lemmas.Bool.{cases_eq, ne_eqb, eq-eqb}
use Rattle.std.specs.Prelude.{nat_lt, slice_get, IsSomeAnd, MatchOption}
use Rattle.std.specs.List.{sum_by}
use Rattle.std.specs.declared.option.Option.{Option}
use Rattle.std.specs.declared.option.Option.TheVariants.{None, Some}
use Rattle.std.specs.Option.{option_map, option_map_or, option_and_then}
use Rattle.iox2_machine.specs.machine.Loans.{loan_discarded}
use Rattle.iox2_machine.specs.machine.Numbers.{put_at, without}
use Rattle.iox2_machine.specs.machine.Records.{Loan, Publisher, Environment}
use Rattle.iox2_machine.specs.machine.Sends.{Send_error}
use Rattle.iox2_machine.specs.declared.errors.SendError.TheVariants.{ConnectionBrokenSinceSenderNoLongerExists}
use Rattle.iox2_machine.specs.machine.State.{State, with_loan}
use Rattle.iox2_machine.specs.machine.WellFormed.{IsWellFormed}
use Rattle.iox2_slots.specs.SlotBook.{Book, holders_at}
use Rattle.iox2_contents.specs.SlotContents.{ContentState}
use Rattle.iox2_machine.specs.Stored.{IsHeldMessage}
use Rattle.iox2_connections.specs.Counters.{times, stands}
use Rattle.iox2_connections.specs.LookUp.{look_up}
use Rattle.iox2_connections.proofs.LookUps.{look_up-found}
use Rattle.iox2_connections.proofs.MailboxChanges.{put_at-own, within_if_some}
use Rattle.iox2_laws.proofs.LoanLaws.{loan_discarded_keeps}
use Rattle.iox2_domain.specs.Discards.{DiscardsLoan}
use Rattle.iox2_domain.specs.LeftBooks.{with_holder_left, CanLetGo, LetsGo, SettlesBook}
use Rattle.iox2_domain.specs.LoanSlots.{LiesInSlot}
use Rattle.iox2_domain.specs.Ports.{PublisherFields}
use Rattle.iox2_domain.specs.Kept.{Lent_message, state_of, entry_in}
use Rattle.iox2_domain.specs.Fields.{Fields, kept_of, is_book_of, contents_at}
use Rattle.iox2_domain.specs.Invariant.{IsDomain, HasLoneLoans, HasNumber, IsCounted, is_publisher, own_holders}
use Rattle.iox2_domain.specs.Invariant.{holders_of, is_lent, is_loan_in, HasParts}
use Rattle.iox2_domain.specs.Reaches.{Reaches}
use Rattle.iox2_domain.specs.SentLoans.{SendsKeptLoan}
use Rattle.iox2_domain.specs.Shows.{KeepsEntries}
use Rattle.iox2_domain.proofs.lemmas.fields.NamedBooks.{names-books}
use Rattle.iox2_domain.proofs.lemmas.fields.Views.{held-before}
use Rattle.iox2_domain.proofs.lemmas.slots.BookChanges.{KeepsSlots, book-after, book-here, book-others, other-book}
use Rattle.iox2_domain.proofs.lemmas.slots.BookChanges.{books-apart, book-state, books-changed, linked-book}
use Rattle.iox2_domain.proofs.lemmas.slots.HeldMessages.{held-message-slot}
use Rattle.iox2_domain.proofs.lemmas.slots.HolderGone.{given, left, keeps_slots, free, others-held, given-aligned}
use Rattle.iox2_domain.proofs.lemmas.slots.HolderGone.{left-numbered, unnumbered, others-same, left-entries}
use Rattle.iox2_domain.proofs.lemmas.slots.HolderGone.{left-places, left-loans, left-shapes, left-lone}
use Rattle.iox2_domain.proofs.lemmas.slots.LeftConnections.{unknown, stands-nowhere}
use Rattle.iox2_domain.proofs.lemmas.slots.LoneLoans.{is-loan}
use Rattle.iox2_domain.proofs.lemmas.slots.OpenLoans.{open-rebooked}
use Rattle.iox2_domain.proofs.lemmas.slots.SettledBooks.{settles}
use Rattle.iox2_domain.proofs.lemmas.slots.Messages.{lies_at, message_in-parts, message_at-slot}
use Rattle.iox2_domain.proofs.lemmas.slots.RecountedLoans.{loan-publisher}
use Rattle.iox2_domain.proofs.lemmas.fields.PlacesKept.{places-then}

module _ {T U : Type 0} (f : Fields T U) (sound : IsDomain f) (p n key slot : ℕ) (at : LiesInSlot f p n key slot)
    (none : look_up (is_publisher p) f.publishers ≡ None) where
  abbrev was : State T U
  was = state_of (kept_of f)

  lies : lies_at f key slot ≡ Some (Lent_message n at.loan)
  lies = message_at-slot f.contents f.books key slot at.book at.stands ∙ at.lies

  is_loan : is_loan_in at.book slot ≡ true
  is_loan = is-loan at.book slot n at.loan_slot

  alone : holders_at at.book slot ≡ 1
  alone = sound.lone.at key slot at.book at.stands is_loan

  parts : HasParts f
  parts = sound.parts

  abbrev after : Fields T U
  after = left f parts key at.book at.stands slot n at.loan lies alone

  abbrev now : Book
  now = given f parts key at.book at.stands slot n at.loan lies alone

  keeps : KeepsSlots at.book now
  keeps = keeps_slots f parts key at.book at.stands slot n at.loan lies alone

  gone : (i : ℕ) (x : PublisherFields) → get_or f.publishers i None ≡ Some x → x.id ≢ (at.book).publisher
  gone i x stands same = stands-nowhere f.publishers p none i x stands (same ∙ at.is_its)

  nobody : look_up (is_publisher (at.book).publisher) f.publishers ≡ None
  nobody = subst (λ (q : ℕ). look_up (is_publisher q) f.publishers ≡ None) (sym at.is_its) none

  -- ---- counters

  -- what the publisher itself has of the slot, or what is out of one that is gone
  abbrev own : (s : ℕ) → Option PublisherFields → Option Book → ℕ
  own s o book =
      option_map_or (λ (z : PublisherFields). times s z.loans + times s (z.history).items) o
      (option_map_or (λ c. cond (is_loan_in c s) 1 0) book 0)

  counted : IsCounted after
  counted = record {
    at = λ q s.
        elim (cases_eq q (at.book).publisher) [ inl same ↦ rw same (its s) | inr away ↦ others q s away ];
  } where
    its : (s : ℕ) → holders_of after.books (at.book).publisher s ≡ own_holders after (at.book).publisher s + sum_by
        (stands (at.book).publisher s) f.connections.slots
    its s =
        let found : look_up (is_book_of (at.book).publisher) f.books.slots ≡ Some at.book =
        look_up-found (is_book_of (at.book).publisher) f.books.slots key at.book
        (sound.parts.books.one_each (at.book).publisher) at.stands
        (eq-eqb (at.book).publisher (at.book).publisher refl) in
        let is : look_up (is_book_of (at.book).publisher) after.books.slots ≡ Some now =
        look_up-found (is_book_of (at.book).publisher) after.books.slots key now
        (books-apart f key at.book now at.stands keeps sound.parts.books.one_each (at.book).publisher)
        (book-here f key at.book now at.stands keeps) (eq-eqb (at.book).publisher (at.book).publisher refl) in
        let holders : holders_of after.books (at.book).publisher s ≡ holders_at now s =
        ap (λ o. option_map_or (λ (c : Book). holders_at c s) o 0) is in
        let held : holders_of f.books (at.book).publisher s ≡ holders_at at.book s =
        ap (λ o. option_map_or (λ (c : Book). holders_at c s) o 0) found in
        let owns : own_holders after (at.book).publisher s ≡ cond (is_loan_in now s) 1 0 =
        ap (λ o. own s o (look_up (is_book_of (at.book).publisher) after.books.slots)) nobody ∙ ap (own s None) is in
        let owned : own_holders f (at.book).publisher s ≡ cond (is_loan_in at.book s) 1 0 =
        ap (λ o. own s o (look_up (is_book_of (at.book).publisher) f.books.slots)) nobody ∙ ap (own s None) found in
        by s holders held owns owned (cases_eq s slot)
      where
        by : (s : ℕ) → holders_of after.books (at.book).publisher s ≡ holders_at now s
            → holders_of f.books (at.book).publisher s ≡ holders_at at.book s
            → own_holders after (at.book).publisher s ≡ cond (is_loan_in now s) 1 0
            → own_holders f (at.book).publisher s ≡ cond (is_loan_in at.book s) 1 0
            → (s ≡ slot) ⊎ (s ≢ slot)
            → holders_of after.books (at.book).publisher s ≡ own_holders after (at.book).publisher s + sum_by
            (stands (at.book).publisher s) f.connections.slots
        by s holders held owns owned (inl same) =
            let none_now : holders_at now s ≡ 0 =
            ap (holders_at now) same ∙ free f parts key at.book at.stands slot n at.loan lies alone in
            let one_then : holders_at at.book s ≡ 1 = ap (holders_at at.book) same ∙ alone in
            let no : cond {A = ℕ} (is_loan_in now s) 1 0 ≡ 0 =
            ap (λ h. cond {A = ℕ} (nat_lt 0 h && option_map_or is_lent (slice_get (at.book).marks s) false) 1 0)
            none_now in
            let yes : cond {A = ℕ} (is_loan_in at.book s) 1 0 ≡ 1 =
            ap (λ t. cond {A = ℕ} t 1 0) (ap (is_loan_in at.book) same ∙ is_loan) in
            omega (
              arith,
              holders,
              held,
              owns,
              owned,
              none_now,
              one_then,
              no,
              yes,
              sound.parts.counted.at (at.book).publisher s,
            )
        by s holders held owns owned (inr away) =
            let alike : holders_at now s ≡ holders_at at.book s =
            others-held f parts key at.book at.stands slot n at.loan lies alone s away in
            let same : cond {A = ℕ} (is_loan_in now s) 1 0 ≡ cond {A = ℕ} (is_loan_in at.book s) 1 0 =
            ap (λ h. cond {A = ℕ} (nat_lt 0 h && option_map_or is_lent (slice_get (at.book).marks s) false) 1 0)
            alike in
            omega (arith, holders, held, owns, owned, alike, same, sound.parts.counted.at (at.book).publisher s)

    others : (q s : ℕ) → q ≢ (at.book).publisher
        → holders_of after.books q s ≡ own_holders after q s + sum_by (stands q s) f.connections.slots
    others q s away =
        let book : look_up (is_book_of q) after.books.slots ≡ look_up (is_book_of q) f.books.slots =
        other-book f key at.book now at.stands keeps sound.parts.books.one_each q
        (ne_eqb (at.book).publisher q (λ same. away (sym same))) in
        ap (λ o. option_map_or (λ (c : Book). holders_at c s) o 0) book
        ∙ sound.parts.counted.at q s
        ∙ ap (λ k. k + sum_by (stands q s) f.connections.slots)
        (sym (ap (own s (look_up (is_publisher q) f.publishers)) book))

  -- ---- the parts

  left-parts : HasParts after
  left-parts = record {
    publisher_ids = sound.parts.publisher_ids;
    subscriber_ids = sound.parts.subscriber_ids;
    apart = sound.parts.apart;
    linked = linked-book f key at.book now at.stands keeps sound.parts.linked;
    expired_room = sound.parts.expired_room;
    books = books-changed f key at.book now at.stands keeps sound.parts.books
        (given-aligned f parts key at.book at.stands slot n at.loan lies alone);
    names = names-books f.books _ f.connections (book-after f key at.book now at.stands keeps) sound.parts.names;
    counted = counted;
    numbered = left-numbered f parts key at.book at.stands slot n at.loan lies alone;
    publisher_room = sound.parts.publisher_room;
    warning_room = sound.parts.warning_room;
    shapes = left-shapes f parts key at.book at.stands slot n at.loan lies alone;
    forms = sound.parts.forms;
    open_loans = open-rebooked f.publishers f.books f.contents key at.book now at.stands refl sound.parts.open_loans;
    plain = sound.parts.plain;
  }

  -- ---- the state

  -- the loan is gone, and nothing else is to change
  abbrev lost : State T U
  lost = with_loan was n None

  left-is : state_of (kept_of after) ≡ lost
  left-is =
      book-state f key at.book now at.stands keeps sound.parts.books.one_each
      ∙ ap (λ (loans : ℕ → Option (Loan T U)). record was { loans = loans })
      (left-loans f parts key at.book at.stands slot n at.loan lies alone)

  lent-by : at.loan.publisher ≡ p
  lent-by = loan-publisher at.book (contents_at f.contents key) slot n at.loan
      (message_in-parts at.book (contents_at f.contents key) slot _ at.lies) ∙ at.is_its

  absent : was.publishers at.loan.publisher ≡ None
  absent = ap was.publishers lent-by ∙ unknown f p (stands-nowhere f.publishers p none)

  -- so says the machine
  discarded-is : loan_discarded was n at.loan ≡ lost
  discarded-is = ap (λ (ps : ℕ → Option Publisher). record lost { publishers = ps }) (sym same) where
    without_loan : Publisher → Publisher
    without_loan y = record y { loans = without n y.loans }

    same : was.publishers ≡ put_at was.publishers at.loan.publisher
        (option_map without_loan (was.publishers at.loan.publisher))
    same = put_at-own was.publishers at.loan.publisher
        ∙ ap (put_at was.publishers at.loan.publisher) (absent ∙ sym (ap (option_map without_loan) absent))

  lost-well : IsWellFormed lost
  lost-well = subst IsWellFormed discarded-is (loan_discarded_keeps was sound.well_formed n at.loan at.is_out)

  held-still : (q m : ℕ) → IsHeldMessage lost q m → IsHeldMessage was q m
  held-still q m held =
      held-before was lost q m (λ r. refl) (λ y here. (y, here, record { history = refl; blocked = refl })) held

  entries-kept : KeepsEntries (kept_of after)
  entries-kept q m is = elim (cases_eq m n) [
    | inl same ↦
        let there = held-message-slot after counted sound.parts.publisher_ids sound.parts.plain q m is in
        absurd (unnumbered f parts key at.book at.stands slot n at.loan lies alone there.0 there.1
        (subst (HasNumber after.books there.0 there.1) same there.2))
    | inr away ↦
        let old = sound.entries q m (held-still q m (subst (λ (s : State T U). IsHeldMessage s q m) left-is is)) in (
          old.0,
          ap (option_and_then entry_in)
              (others-same f parts key at.book at.stands slot n at.loan lies alone m away) ∙ old.1,
          old.2,
        )
  ]

  lone-left : HasLoneLoans after.books
  lone-left = left-lone f parts key at.book at.stands slot n at.loan lies alone sound.lone

  -- ---- the whole

  known : (at.book).publisher < f.next_port
  known = elim (sound.kept_books.at key at.book at.stands) [
    | inl owned ↦ absurd (gone owned.place owned.publisher owned.stands owned.is_its)
    | inr left ↦ left.0.known
  ]

  -- the slot may lose its holder
  pub can-let-go : CanLetGo f key slot
  can-let-go = record {
    book = at.book;
    stands = at.stands;
    in_use = record { in_bounds = at.loan_slot.in_bounds; in_use = at.loan_slot.in_use };
    contents = low (get_or f.contents key None) refl (sound.parts.books.books key at.book at.stands).shaped;
  } where
    low : (o : Option (List (ContentState T U))) → get_or f.contents key None ≡ o
        → IsSomeAnd o (λ cs. length cs ≡ length (at.book).holders) → key < length f.contents
    low None e h = absurd h
    low (Some cs) e h = within_if_some f.contents key cs e

  -- it does, and the machine discards the loan
  left-reaches : (new : Fields T U) → LetsGo f key slot new → Reaches f new (loan_discarded was n at.loan)
  left-reaches new l = record {
    agrees = settled.agrees;
    state = settled.state ∙ left-is ∙ sym discarded-is;
    entries = λ m entry e.
        left-entries f parts key at.book at.stands slot n at.loan lies alone m entry (settled.entries m entry e);
    places = places-then (left-places f parts key at.book at.stands slot n at.loan lies alone) settled.places;
  } where
    same : l.book ≡ at.book
    same = let both : Some l.book ≡ Some at.book = sym l.stands ∙ at.stands in cc

    settled : Reaches after new (state_of (kept_of after))
    settled =
        settles after left-parts lone-left (subst IsWellFormed (sym left-is) lost-well) entries-kept key now
        (book-here f key at.book now at.stands keeps) known gone
        (λ k c away there. sound.kept_books.at k c (sym (book-others f key at.book now at.stands keeps k away) ∙ there))
        new (subst (λ (c : Book). SettlesBook (with_holder_left f key slot c) key new) same l.settles)

  -- the whole discard
  pub left-discarded : (new : Fields T U) → LetsGo f key slot new → DiscardsLoan f new n
  left-discarded new l = (at.loan, at.is_out, left-reaches new l)

  -- what a send of it comes to: the loan is lost, and nobody gets the message
  pub left-sent : (environment : Environment) (new : Fields T U) → LetsGo f key slot new
      → SendsKeptLoan environment f new n (Send_error ConnectionBrokenSinceSenderNoLongerExists)
  left-sent environment new l = record {
    loan = at.loan;
    out = at.is_out;
    agrees = (left-reaches new l).agrees;
    sends = match-none (was.publishers at.loan.publisher) _ _ absent ((left-reaches new l).state ∙ discarded-is, refl);
    loans = ap (λ (s : State T U). s.loans) ((left-reaches new l).state ∙ discarded-is);
    entries = λ m entry e. inr ((left-reaches new l).entries m entry e);
    places = (left-reaches new l).places;
    lost = λ error other is. (left-reaches new l).entries;
    unfailed = λ quiet is. absurd cc;
  } where
    match-none : {X : Type 0} (o : Option X) (P : Type 0) (Q : X → Type 0) → o ≡ None → P → MatchOption o P Q
    match-none None P Q e h = h
    match-none (Some x) P Q e h = absurd (let no : Some x ≡ None = e in cc)
