-- Whether a loan that lies in a slot is written, by the slot's mark.
use Rattle.std.proofs.Common.{◌≡◌, ◌↔◌, ℕ, Bool, true, false, refl, ap, sym, ◌∙◌}
use Rattle.std.proofs.lemmas.Option.{same_Some}
use Rattle.std.specs.Prelude.{slice_get, slice_index}
use Rattle.std.specs.declared.option.Option.TheVariants.{Some}
use Rattle.slab.specs.Slab.{get}
use Rattle.iox2_slots.specs.SlotBook.{Book}
use Rattle.iox2_slots.specs.declared.slots.mark.SlotMark.{SlotMark}
use Rattle.iox2_slots.specs.declared.slots.mark.SlotMark.TheVariants.{Unwritten, Written, Sent}
use Rattle.iox2_machine.specs.machine.Records.{Loan}
use Rattle.iox2_machine.specs.machine.SingleCalls.{HoldsLoan}
use Rattle.iox2_machine.specs.machine.State.{State}
use Rattle.iox2_machine.specs.declared.key.Key.{Key}
use Rattle.iox2_domain.specs.Kept.{Kept, KeptMessage, Lent_message, Sent_message, state_of}
use Rattle.iox2_domain.specs.Fields.{Fields, kept_of, contents_at, message_of}
use Rattle.iox2_domain.specs.LoanSlots.{LiesInSlot}
use Rattle.iox2_domain.proofs.lemmas.slots.Messages.{LiesIn, message_in-parts}
use Rattle.iox2_domain.proofs.lemmas.loans.LoanCalls.{same-loan}
use Rattle.iox2_domain.proofs.lemmas.loans.LoansOut.{found-out}
use Rattle.iox2_pubsub.specs.Live.{HasMark, IsLoanKey}
use Rattle.iox2_pubsub.specs.Parts.{HoldsMarked, written_mark}
use Rattle.iox2_pubsub.proofs.LiveParts.{has-mark, loan-live, loan-parts, marked}

module _ {T U : Type 0} where
  -- whether what lies in a slot is a written loan
  abbrev is_written_message : KeptMessage T U → Bool
  is_written_message (Lent_message number l) = l.is_written
  is_written_message (Sent_message number entry) = false

  module _ (f : Fields T U) (p n key slot : ℕ) (at : LiesInSlot f p n key slot) where
    -- the loan is the publisher's
    is_its : HoldsLoan (state_of (kept_of f)) p n
    is_its = (found-out f p n (Some (record { book = key; slot = slot })) at true refl).0 refl

    module _ (b : Book) (here : get f.books key ≡ Some b) (mark : SlotMark)
        (read : slice_get b.marks slot ≡ Some mark) where
      lies : LiesIn at.book (contents_at f.contents key) slot (Lent_message n at.loan)
      lies = message_in-parts at.book (contents_at f.contents key) slot (Lent_message n at.loan) at.lies

      same-mark : lies.mark ≡ mark
      same-mark =
          let books : Some at.book ≡ Some b = sym at.stands ∙ here in
          let book : at.book ≡ b = cc in
          let both : Some lies.mark ≡ Some mark =
          sym lies.marks ∙ ap (λ (c : Book). slice_get c.marks slot) book ∙ read in
          cc

      -- its mark says whether it is written
      pub mark-tells : (at.loan).is_written ≡ written_mark mark
      mark-tells = by lies.mark lies.is ∙ ap written_mark same-mark where
        by : (mark' : SlotMark) → Lent_message n at.loan ≡ message_of (at.book).publisher
            (slice_index (at.book).numbers slot) lies.header lies.content mark'
            → (at.loan).is_written ≡ written_mark mark'
        by Unwritten e = ap is_written_message e
        by Written e = ap is_written_message e
        by Sent e = absurd cc

      pub marks-loan : HoldsMarked (state_of (kept_of f)) p n (written_mark mark)
      marks-loan = (
        at.loan,
        at.is_out,
        ap (λ (l : Loan T U). l.publisher)
            (sym (same-loan f p n key slot at is_its.0 is_its.1)) ∙ is_its.2,
        mark-tells,
      )

  -- one that is out is written as its mark says, and not otherwise
  pub marked-so : (s : State T U) (p n : ℕ) (mark wants : Bool) → HoldsMarked s p n mark
      → (mark ≡ wants) ↔ HoldsMarked s p n wants
  marked-so s p n mark wants held = (
    λ same. (held.0, held.1, held.2, held.3 ∙ same),
    λ has. sym held.3 ∙ ap (λ (l : Loan T U). l.is_written) (same_Some held.0 has.0 (sym held.1 ∙ has.1)) ∙ has.3,
  )

  -- and in a domain it is named by its key
  pub marked-key : {F G : Type 0} (kept : Kept T U F G) (key : Key) (wants : Bool)
      → key.service_id ≡ (kept.config).service_id → HoldsMarked (state_of kept) key.port key.message wants
      ↔ (IsLoanKey kept key × HasMark kept key.message wants)
  marked-key kept key wants service = (
    λ held.
        (loan-live kept key (service, (held.0, held.1, held.2)), has-mark kept key.message wants held.0 held.1 held.3),
    λ both. let held = (loan-parts kept key both.0).1 in
        (held.0, held.1, held.2, marked kept key.port key.message held.0 held.1 held.2 wants both.1),
  )
