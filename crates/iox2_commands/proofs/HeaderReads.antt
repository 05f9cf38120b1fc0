-- A read of a header, which a loan and a sample's message have.
use Rattle.std.proofs.Common.{◌≡◌, ℕ, List}
use Rattle.std.specs.Option.{MatchOption}
use Rattle.iox2_machine.specs.machine.Records.{Entry, Loan}
use Rattle.iox2_machine.specs.machine.State.{State, Messages}
use Rattle.iox2_commands.specs.Outcomes.{Handle, Outcome, replied, skipped}
use Rattle.iox2_commands.specs.Step.{sample_at, loan_at}
use Rattle.iox2_commands.specs.declared.reply.Reply.{Reply}

-- A read is answered by this reply for the loan that the position names, and by that for the message of the sample.
abbrev pub ReadsHeader : {T U : Type 0} → Messages T U → State T U → List Handle → (of : ℕ) → (ℕ × Loan T U → Reply T U)
    → (Entry T U → Reply T U) → Outcome T U → Type 0
ReadsHeader m s handles of of_loan of_entry o =
    MatchOption (sample_at s handles of)
    (MatchOption (loan_at s handles of) (o ≡ skipped s) (λ loan. o ≡ replied (of_loan loan) s))
    (λ sample. MatchOption (m sample.2) ⊥ (λ entry. o ≡ replied (of_entry entry) s))
