-- A loan's slot stands once among its publisher's loans, and has one holder.
use Rattle.std.proofs.Common.{◌≡◌, ◌≢◌, ℕ, ◌<◌, ◌≤◌, true, false, eqb, List, [], ◌∷◌, map, get_or, refl, ap, sym, subst}
use Rattle.std.proofs.Common.{◌∙◌, inl, inr, arith}
use Rattle.std.proofs.lemmas.Bool.{cases_eq, eq-eqb, or_parts}
use Rattle.std.specs.declared.option.Option.TheVariants.{None, Some}
use Rattle.std.specs.Option.{option_map}
use Rattle.slab.specs.Slab.{get}
use Rattle.iox2_slots.specs.SlotBook.{Book, holders_at}
use Rattle.iox2_machine.specs.machine.Numbers.{contains, IsOnce}
use Rattle.iox2_machine.specs.machine.Records.{Loan}
use Rattle.iox2_machine.specs.machine.WellFormed.{LoanIsWellFormed}
use Rattle.iox2_connections.specs.Counters.{times, HoldsItself}
use Rattle.iox2_connections.specs.Mailboxes.{sender_ends}
use Rattle.iox2_connections.proofs.Counts.{one_if, times-cons, one_if_other}
use Rattle.iox2_domain.specs.Ports.{PublisherFields}
use Rattle.iox2_domain.specs.declared.publisher_state.BlockedDelivery.{BlockedDelivery}
use Rattle.iox2_domain.specs.Kept.{Lent_message, state_of}
use Rattle.iox2_domain.specs.Fields.{Fields, kept_of, publisher_of, number_in_slot, contents_at, blocked_send}
use Rattle.iox2_domain.specs.Invariant.{IsDomain, is_loan_in}
use Rattle.iox2_domain.proofs.lemmas.fields.ConnectionEnds.{publisher-stands}
use Rattle.iox2_domain.proofs.lemmas.slots.Messages.{lies_at, message_in-parts, message_at-book, message_at-slot}
use Rattle.iox2_domain.proofs.lemmas.slots.Messages.{has_number, loan-found}
use Rattle.iox2_domain.proofs.lemmas.loans.LoanSlots.{number-at, loan-lent}
use Rattle.iox2_domain.proofs.lemmas.slots.PublisherBooks.{book-own, book-counts}
use Rattle.iox2_domain.proofs.lemmas.slots.HeldMessages.{slot_numbered, own-in_use, holders-there}
use Rattle.iox2_domain.proofs.lemmas.slots.RecountedLoans.{loan-publisher}
use Rattle.iox2_domain.proofs.lemmas.slots.LoneLoans.{is-loan}

-- a slot whose number isn't in the list isn't among the slots
absent-times : (number : ℕ → ℕ) (n slot : ℕ) → number slot ≡ n → (slots : List ℕ)
    → contains (map number slots) n ≡ false → times slot slots ≡ 0
absent-times number n slot is [] absent = refl
absent-times number n slot is (x ∷ xs) absent =
    let parts = or_parts (eqb (number x) n) (contains (map number xs) n) absent in
    elim (cases_eq slot x) [
      | inl same ↦ absurd (let yes : eqb (number x) n ≡ true = eq-eqb (number x) n (ap number (sym same) ∙ is) in
          let no : eqb (number x) n ≡ false = parts.0 in let clash : true ≡ false = sym yes ∙ no in cc)
      | inr away ↦
          omega (arith, times-cons slot x xs, one_if_other slot x away, absent-times number n slot is xs parts.1)
    ]

-- a slot stands once at most among slots with different numbers
pub once-times : (number : ℕ → ℕ) (slot : ℕ) (slots : List ℕ) → IsOnce (map number slots) → times slot slots ≤ 1
once-times number slot [] once = omega arith
once-times number slot (x ∷ xs) once = elim (cases_eq slot x) [
  | inl same ↦
      let none : times slot xs ≡ 0 = absent-times number (number x) slot (ap number same) xs once.0 in
      let at_most : one_if slot x ≤ 1 = few x in
      omega (arith, times-cons slot x xs, none, at_most)
  | inr away ↦ omega (arith, times-cons slot x xs, one_if_other slot x away, once-times number slot xs once.1)
] where
  few : (y : ℕ) → one_if slot y ≤ 1
  few y = grind arith

module _ {T U : Type 0} (f : Fields T U) (sound : IsDomain f) (i : ℕ) (x : PublisherFields)
    (here : get_or f.publishers i None ≡ Some x)
    (slot n : ℕ) (l : Loan T U) (lies : lies_at f x.book slot ≡ Some (Lent_message n l)) where
  its : (b : Book) × (get f.books x.book ≡ Some b) × (b.publisher ≡ x.id) × (l.publisher ≡ x.id)
  its =
      let there = message_at-book f.contents f.books x.book slot (Lent_message n l) lies in
      let own = book-own f sound.parts i x here there.0 there.1 in (
        there.0,
        there.1,
        own,
        loan-publisher there.0 _ slot n l (message_in-parts there.0 _ slot (Lent_message n l) there.2) ∙ own,
      )

  -- its slot has its number
  pub loan-number : number_in_slot f.books x.id slot ≡ n
  loan-number =
      let has = has_number f.contents f.books x.book slot n (Lent_message n l) lies (eq-eqb n n refl) in
      ap (λ (p : ℕ). number_in_slot f.books p slot) (sym (book-own f sound.parts i x here has.book has.stands))
      ∙ number-at f sound x.book slot has.book has.stands ∙ has.number

  -- the loan is the state's
  pub loan-is : (state_of (kept_of f)).loans n ≡ Some l
  loan-is = loan-found f sound.parts.numbered x.book slot n l lies

  -- its publisher
  pub loan-of : l.publisher ≡ x.id
  loan-of = its.3

  standing : (state_of (kept_of f)).publishers l.publisher ≡ Some ((publisher_of f.books f.connections x).port)
  standing = ap (state_of (kept_of f)).publishers its.3 ∙ publisher-stands f sound.parts i x here

  well : LoanIsWellFormed (state_of (kept_of f)) n l
  well = sound.well_formed.loans n l loan-is

  -- its slot is the one of its publisher's loans that has its number
  pub loan-slot : (s : ℕ) → 0 < times s x.loans → number_in_slot f.books x.id s ≡ n → s ≡ slot
  loan-slot s some is =
      let there = holders-there f x.id s
      (own-in_use f sound.parts.counted sound.parts.publisher_ids i s x here (omega (arith, some))) in
      (sound.parts.numbered.one there.0 x.book s slot n
      (record { book = there.1; stands = there.2; in_use = there.4; number = there.5 ∙ is })
      (has_number f.contents f.books x.book slot n (Lent_message n l) lies (eq-eqb n n refl))).1

  -- it isn't the slot of a blocked delivery, whose message no user holds
  pub blocked-other : (b : BlockedDelivery) → x.blocked ≡ Some b → b.slot ≢ slot
  blocked-other b e same =
      let stands = publisher-stands f sound.parts i x here in
      let waits : ((publisher_of f.books f.connections x).port).blocked ≡ Some
      (blocked_send (number_in_slot f.books x.id) (sender_ends f.connections x.keys) b) =
      ap (option_map (blocked_send (number_in_slot f.books x.id) (sender_ends f.connections x.keys))) e in
      let unheld = ((sound.well_formed.publishers x.id _ stands).blocked _ waits).unheld in
      let number : number_in_slot f.books x.id b.slot ≡ n = ap (number_in_slot f.books x.id) same ∙ loan-number in
      absurd (let no : None ≡ Some l = sym unheld ∙ ap (state_of (kept_of f)).loans number ∙ loan-is in cc)

  -- it stands there once
  pub loan-once : times slot x.loans ≡ 1
  loan-once =
      let own = slot_numbered (number_in_slot f.books x.id) n x.loans (well.is_out _ standing).0 in
      let some : 0 < times slot x.loans = subst (λ (s : ℕ). 0 < times s x.loans) (loan-slot own.0 own.1 own.2) own.1 in
      omega (
        arith,
        some,
        once-times (number_in_slot f.books x.id) slot x.loans
            (sound.well_formed.publishers x.id _ (publisher-stands f sound.parts i x here)).loans_once,
      )

  -- it is a loan
  is-out : (b : Book) → get f.books x.book ≡ Some b → is_loan_in b slot ≡ true
  is-out b at =
      let there = message_at-slot f.contents f.books x.book slot b at in
      is-loan b slot n (loan-lent b (contents_at f.contents x.book) slot n l
      (message_in-parts b (contents_at f.contents x.book) slot (Lent_message n l) (sym there ∙ lies))).0

  -- so it has one holder
  pub loan-alone : (b : Book) → get f.books x.book ≡ Some b → holders_at b slot ≡ 1
  loan-alone b at = sound.lone.at x.book slot b at (is-out b at)

  -- which its publisher is itself
  pub loan-own : (b : Book) → get f.books x.book ≡ Some b → HoldsItself x.id slot b.holders f.connections.slots
  loan-own b at =
      record { more = omega (arith, book-counts f sound.parts i x here b at slot, loan-once) }
