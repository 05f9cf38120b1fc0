-- Whether a loan is out.
use Rattle.std.proofs.Common.{◌≡◌, ◌↔◌, ℕ, Bool, is_some, sym, ◌∙◌, IsTrue, MatchOption}
use Rattle.std.proofs.lemmas.Bool.{true≢false}
use Rattle.std.specs.declared.option.Option.{Option}
use Rattle.std.specs.declared.option.Option.TheVariants.{None, Some}
use Rattle.iox2_machine.specs.machine.SingleCalls.{HoldsLoan}
use Rattle.iox2_domain.specs.Kept.{state_of}
use Rattle.iox2_domain.specs.Fields.{Fields, kept_of, contents_at}
use Rattle.iox2_domain.specs.LoanSlots.{LiesInSlot}
use Rattle.iox2_domain.specs.declared.message_slots.MessageSlot.{MessageSlot}
use Rattle.iox2_domain.proofs.lemmas.slots.Messages.{message_in-parts}
use Rattle.iox2_domain.proofs.lemmas.slots.RecountedLoans.{loan-publisher}

module _ {T U : Type 0} (f : Fields T U) (p n : ℕ) where
  -- a loan that lies in a slot is out
  lies-out : (key slot : ℕ) → LiesInSlot f p n key slot → HoldsLoan (state_of (kept_of f)) p n
  lies-out key slot at = (
    at.loan,
    at.is_out,
    loan-publisher at.book (contents_at f.contents key) slot n at.loan
        (message_in-parts at.book (contents_at f.contents key) slot _ at.lies) ∙ at.is_its,
  )

  -- whether something was found says whether it is out
  pub found-out : (o : Option MessageSlot)
      → MatchOption o (HoldsLoan (state_of (kept_of f)) p n → ⊥) (λ at. LiesInSlot f p n at.book at.slot)
      → (r : Bool) → r ≡ is_some o → IsTrue r ↔ HoldsLoan (state_of (kept_of f)) p n
  found-out None none r is = (λ yes. absurd (true≢false (sym yes ∙ is)), λ live. absurd (none live))
  found-out (Some at) lies r is = (λ yes. lies-out at.book at.slot lies, λ live. is)
