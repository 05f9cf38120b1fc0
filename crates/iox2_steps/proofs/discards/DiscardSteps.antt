-- A loan is discarded: it is returned.
use Rattle.std.proofs.Common.{◌≡◌, ℕ, ◌<◌, ◌≤◌, List, length, get_or, ap, sym, subst, ◌∙◌, arith}
use Rattle.std.proofs.lemmas.Bool.{eq-eqb}
use Rattle.std.specs.declared.option.Option.{Option}
use Rattle.std.specs.declared.option.Option.TheVariants.{None, Some}
use Rattle.slab.specs.Slab.{get}
use Rattle.iox2_machine.specs.machine.Loans.{loan_discarded}
use Rattle.iox2_machine.specs.machine.Records.{Loan}
use Rattle.iox2_machine.specs.machine.SingleCalls.{HoldsLoan}
use Rattle.iox2_slots.specs.SlotBook.{Book, IsInUse, holders_at}
use Rattle.iox2_contents.specs.SlotContents.{ContentState}
use Rattle.iox2_connections.specs.Counters.{times}
use Rattle.iox2_domain.specs.Invariant.{IsDomain}
use Rattle.iox2_domain.specs.Discards.{with_loan_discarded, DiscardsLoan}
use Rattle.iox2_domain.specs.Fields.{Fields, kept_of, message_in, contents_at}
use Rattle.iox2_domain.specs.Kept.{KeptMessage, Lent_message, state_of}
use Rattle.iox2_domain.specs.LoanSlots.{LiesInSlot}
use Rattle.iox2_domain.specs.Ports.{PublisherFields}
use Rattle.iox2_domain.specs.Reaches.{Reaches}
use Rattle.iox2_domain.proofs.lemmas.loans.LendingSteps.{contents-of}
use Rattle.iox2_steps.proofs.discards.Returned.{returned-reaches}
use Rattle.iox2_steps.proofs.sends.LoanAlone.{loan-once, loan-alone}
use Rattle.iox2_domain.proofs.lemmas.slots.Messages.{lies_at, message_at-slot}

module _ {T U : Type 0} (f : Fields T U) (sound : IsDomain f) (p n place : ℕ)
    (holds : HoldsLoan (state_of (kept_of f)) p n)
    (found : (x : PublisherFields) × (get_or f.publishers place None ≡ Some x) × (x.id ≡ p))
    (key slot : ℕ) (at : LiesInSlot f p n key slot) where
  loan-same : at.loan ≡ holds.0
  loan-same = let both : Some at.loan ≡ Some holds.0 = sym at.is_out ∙ holds.1 in cc

  key-is : key ≡ (found.0).book
  key-is =
      let has = sound.parts.books.publishers place found.0 found.1 in
      (sound.parts.books.one_each p).one key (found.0).book at.book has.book at.stands has.stands
      (eq-eqb (at.book).publisher p at.is_its) (eq-eqb (has.book).publisher p (has.is_its ∙ found.2))

  stands : get f.books (found.0).book ≡ Some at.book
  stands = sym (ap (get f.books) key-is) ∙ at.stands

  lies : lies_at f (found.0).book slot ≡ Some (Lent_message n holds.0)
  lies = message_at-slot f.contents f.books (found.0).book slot at.book stands ∙ sym (ap (λ k. lay k) key-is) ∙ at.lies
      ∙ ap (λ (l : Loan T U). Some (Lent_message n l)) loan-same
    where
      lay : ℕ → Option (KeptMessage T U)
      lay k = message_in at.book (contents_at f.contents k) slot

  -- what its return needs
  pub can-return : (x : PublisherFields) × (b : Book) × (get_or f.publishers place None ≡ Some x)
      × (get f.books x.book ≡ Some b) × IsInUse b slot
  can-return =
      (found.0, at.book, found.1, stands, record { in_bounds = at.loan_slot.in_bounds; in_use = at.loan_slot.in_use })

  -- the slot stands once among the publisher's loans
  pub once-lent : (x : PublisherFields) → get_or f.publishers place None ≡ Some x → times slot x.loans ≤ 1
  once-lent x there =
      let both : Some found.0 ≡ Some x = sym found.1 ∙ there in
      let is : found.0 ≡ x = cc in
      let once : times slot x.loans ≡ 1 =
      ap (λ (y : PublisherFields). times slot y.loans) (sym is)
      ∙ loan-once f sound place found.0 found.1 slot n holds.0 lies in
      omega (arith, once)

  -- the publisher's book has contents, and the slot is one of theirs
  pub has-content : (x : PublisherFields) → get_or f.publishers place None ≡ Some x
      → (cs : List (ContentState T U)) × (get_or f.contents x.book None ≡ Some cs) × (slot < length cs)
  has-content x there =
      let both : Some found.0 ≡ Some x = sym found.1 ∙ there in
      let is : found.0 ≡ x = cc in
      let cs = contents-of f sound place x there at.book
      (subst (λ (y : PublisherFields). get f.books y.book ≡ Some at.book) is stands) in
      (cs.0, cs.1, omega (arith, cs.2, at.loan_slot.in_bounds))

  -- the whole discard
  pub discards-loan : (h : Fields T U)
      → ((x : PublisherFields) (b : Book) → get_or f.publishers place None ≡ Some x → get f.books x.book ≡ Some b
      → h ≡ with_loan_discarded f place x slot b)
      → DiscardsLoan f h n
  discards-loan h returns =
      let alone : holders_at at.book slot ≡ 1 =
      loan-alone f sound place found.0 found.1 slot n holds.0 lies at.book stands in
      let step = returned-reaches f sound place found.0 found.1 at.book stands slot n holds.0 lies alone in
      let is : h ≡ with_loan_discarded f place found.0 slot at.book = returns found.0 at.book found.1 stands in (
        holds.0,
        holds.1,
        subst (λ (k : Fields T U). Reaches f k (loan_discarded (state_of (kept_of f)) n holds.0)) (sym is) step,
      )
