-- The slots of a publisher that leaves: its loans stay out, and are marked so in its book.
use Rattle.std.proofs.Common.{◌≡◌, ℕ, zero, suc, ◌+◌, ◌<◌, ◌≤◌, Bool, true, false, cond, List, get_or, map, refl, ap}
use Rattle.std.proofs.Common.{sym, ◌∙◌, inl, inr, ◌⊎◌, arith, length}
use Rattle.std.proofs.lemmas.Bool.{ltb-true, lt-ltb, and_from, eq-eqb}
use Rattle.std.specs.Prelude.{slice_get, slice_index}
use Rattle.std.specs.declared.option.Option.TheVariants.{None, Some}
use Rattle.std.specs.Option.{option_map_or}
use Rattle.std.specs.List.{sum_by}
use Rattle.std.specs.declared.option.Option.{Option}
use Rattle.slab.specs.Slab.{Slab, get}
use Rattle.iox2_connections.specs.Link.{Link}
use Rattle.iox2_slots.specs.SlotBook.{Book, holders_at}
use Rattle.iox2_machine.specs.machine.Numbers.{contains}
use Rattle.iox2_machine.specs.machine.Records.{Loan, BlockedSend}
use Rattle.iox2_connections.specs.Counters.{times, stands, with_counters}
use Rattle.iox2_connections.proofs.MailboxChanges.{both-true}
use Rattle.iox2_domain.specs.Ports.{PublisherFields}
use Rattle.iox2_domain.specs.Kept.{Lent_message, state_of}
use Rattle.iox2_domain.specs.Fields.{Fields, kept_of, publisher_of, number_in_slot, contents_at}
use Rattle.iox2_domain.specs.LoanSlots.{IsLoanSlot}
use Rattle.iox2_domain.specs.Invariant.{HasNumber, is_lent, is_loan_in, IsDomain}
use Rattle.iox2_domain.proofs.lemmas.fields.Views.{unblocked}
use Rattle.iox2_domain.proofs.lemmas.slots.Messages.{lies_at, message_in-parts, message_at-slot, has_number}
use Rattle.iox2_domain.proofs.lemmas.slots.Messages.{held-message, in_use_within, loan-there}
use Rattle.iox2_domain.proofs.lemmas.slots.NumbersInUse.{times-stands, contains-map}
use Rattle.iox2_domain.proofs.lemmas.loans.LoanSlots.{lent-loan, loan-lent}
use Rattle.iox2_domain.specs.Closes.{LeavesConnections}
use Rattle.iox2_steps.proofs.closes.LeftConnections.{left-sum_own}
use Rattle.iox2_domain.proofs.lemmas.fields.ConnectionEnds.{publisher-stands}
use Rattle.iox2_domain.proofs.lemmas.slots.PublisherBooks.{book-counts}
use Rattle.iox2_steps.proofs.closes.ClosingPorts.{its-number}
use Rattle.iox2_steps.proofs.sends.LoanAlone.{loan-once}

-- Each slot of the publisher x has one holder less for each place where it stood in its history or its connections and
-- stands no more.
pub record LeavesSlots (x : PublisherFields) (holders : List ℕ) (connections : List (Option Link)) (holders' : List ℕ)
    (connections' : List (Option Link)) : Type 0 where
  pub slots : length holders' ≡ length holders
  pub at : (slot : ℕ) → slice_index holders' slot + times slot (x.history).items + sum_by (stands x.id slot) connections
      ≡ slice_index holders slot + sum_by (stands x.id slot) connections'

module _ {T U : Type 0} (f : Fields T U) (sound : IsDomain f) (i : ℕ) (x : PublisherFields)
    (here : get_or f.publishers i None ≡ Some x)
    (b : Book) (at : get f.books x.book ≡ Some b) where
  -- a slot that stands among the loans is marked as one
  pub loan-marked : x.blocked ≡ None → (slot : ℕ) → 0 < times slot x.loans
      → option_map_or is_lent (slice_get b.marks slot) false ≡ true
  loan-marked free slot some = by ((sound.well_formed.publishers x.id _ standing).loans_held n out) where
    n : ℕ
    n = number_in_slot f.books x.id slot

    standing : (state_of (kept_of f)).publishers x.id ≡ Some ((publisher_of f.books f.connections x).port)
    standing = publisher-stands f sound.parts i x here

    out : contains (map (number_in_slot f.books x.id) x.loans) n ≡ true
    out = contains-map (number_in_slot f.books x.id) x.loans slot (times-stands slot x.loans some)

    has : HasNumber f.books x.book slot n
    has = record {
      book = b;
      stands = at;
      in_use = omega (arith, some, book-counts f sound.parts i x here b at slot);
      number = sym (its-number f sound i x here b at slot);
    }

    by : ((l : Loan T U) × ((state_of (kept_of f)).loans n ≡ Some l) × (l.publisher ≡ x.id))
        ⊎ ((s : BlockedSend) × (((publisher_of f.books f.connections x).port).blocked ≡ Some s) × (s.message ≡ n))
        → option_map_or is_lent (slice_get b.marks slot) false ≡ true
    by (inl held) =
        let there = loan-there f n held.0 held.1 in
        let same = sound.parts.numbered.one there.0 x.book there.1 slot n
        (has_number f.contents f.books there.0 there.1 n (Lent_message n held.0) there.2 (eq-eqb n n refl)) has in
        let lies : lies_at f x.book slot ≡ Some (Lent_message n held.0) =
        sym (ap (λ (k : ℕ). lies_at f k slot) same.0) ∙ sym (ap (lies_at f there.0) same.1) ∙ there.2 in
        (loan-lent b (contents_at f.contents x.book) slot n held.0
        (message_in-parts b (contents_at f.contents x.book) slot (Lent_message n held.0)
        (sym (message_at-slot f.contents f.books x.book slot b at) ∙ lies))).0.lent
    by (inr is) = absurd (let no : None ≡ Some is.0 = sym (unblocked f.books f.connections x free) ∙ is.1 in cc)

  -- a slot in use that is marked as a loan stands among the loans, once
  pub marked-loan : (slot : ℕ) → 0 < holders_at b slot → option_map_or is_lent (slice_get b.marks slot) false ≡ true
      → times slot x.loans ≡ 1
  marked-loan slot in_use lent =
      let n : ℕ = slice_index b.numbers slot in
      let has : HasNumber f.books x.book slot n = record { book = b; stands = at; in_use = in_use; number = refl } in
      let m = held-message f.contents f.books x.book slot n (λ c there. sound.parts.books.books x.book c there) has in
      let is : IsLoanSlot b slot n = record {
        in_bounds = in_use_within b (contents_at f.contents x.book) slot in_use;
        in_use = in_use;
        lent = lent;
        numbered = refl;
      } in
      let loan = lent-loan b (contents_at f.contents x.book) slot n m.0
      (message_in-parts b (contents_at f.contents x.book) slot m.0
      (sym (message_at-slot f.contents f.books x.book slot b at) ∙ m.1)) is in
      loan-once f sound i x here slot n loan.0 (m.1 ∙ ap Some loan.1)

  module _ (new : Slab Link) (left : LeavesConnections x.id f.subscribers f.connections new) (holders : List ℕ)
      (slots : LeavesSlots x b.holders f.connections.slots holders new.slots) where
    -- each slot has as many holders as it is a loan and stands in connections
    pub left-counters : (slot : ℕ)
        → holders_at (with_counters b holders) slot ≡ times slot x.loans + sum_by (stands x.id slot) new.slots
    left-counters slot = omega (arith, book-counts f sound.parts i x here b at slot, slots.at slot)

    -- no slot has more holders than before
    pub left-fewer : (slot : ℕ) → holders_at (with_counters b holders) slot ≤ holders_at b slot
    left-fewer slot = omega (arith, slots.at slot, left-sum_own x.id f.subscribers f.connections new left slot)

    -- a slot is a loan where the book says so, and nowhere else
    pub left-loans : x.blocked ≡ None → (slot : ℕ)
        → times slot x.loans ≡ cond (is_loan_in (with_counters b holders) slot) 1 0
    left-loans free slot = by (is_loan_in (with_counters b holders) slot) refl where
      none : (n : ℕ) → times slot x.loans ≡ n → is_loan_in (with_counters b holders) slot ≡ false
          → times slot x.loans ≡ 0
      none zero e fails = e
      none (suc n) e fails =
          let some : 0 < times slot x.loans = omega (arith, e) in
          let in_use : 0 < holders_at (with_counters b holders) slot = omega (arith, some, left-counters slot) in
          let yes : is_loan_in (with_counters b holders) slot ≡ true =
          and_from _ _ (lt-ltb 0 (holders_at (with_counters b holders) slot) in_use) (loan-marked free slot some) in
          absurd (let clash : true ≡ false = sym yes ∙ fails in cc)

      by : (t : Bool) → is_loan_in (with_counters b holders) slot ≡ t → times slot x.loans ≡ cond t 1 0
      by true e =
          let parts = both-true _ _ e in
          let some : 0 < holders_at (with_counters b holders) slot =
          ltb-true 0 (holders_at (with_counters b holders) slot) parts.0 in
          marked-loan slot (omega (arith, some, left-fewer slot)) parts.1
      by false e = none (times slot x.loans) refl e
