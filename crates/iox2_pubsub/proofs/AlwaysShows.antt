-- A domain shows the state that it keeps, with the messages that it keeps.
use Rattle.std.proofs.Common.{◌≡◌, ℕ, ◌≤◌, ◌<◌, refl, arith}
use Rattle.std.proofs.lemmas.Option.{none-some}
use Rattle.std.specs.declared.option.Option.{Option}
use Rattle.std.specs.declared.option.Option.TheVariants.{None, Some}
use Rattle.std.specs.Option.{option_and_then}
use Rattle.iox2_machine.specs.machine.Records.{Loan}
use Rattle.iox2_domain.specs.Kept.{KeptMessage, Lent_message, Sent_message, loan_in, entry_in, message_numbered}
use Rattle.iox2_domain.specs.Kept.{state_of, entries_of}
use Rattle.iox2_domain.specs.Fields.{Fields, kept_of}
use Rattle.iox2_domain.specs.Invariant.{IsDomain}
use Rattle.iox2_domain.specs.Shows.{Shows}
use Rattle.iox2_domain.proofs.lemmas.slots.Messages.{message_numbered-there, has_number}

module _ {T U : Type 0} (f : Fields T U) (sound : IsDomain f) where
  -- what is kept has a number that was given out
  kept_below : (n : ℕ) (m : KeptMessage T U) → message_numbered n (kept_of f).books ≡ Some m → n < f.next_message
  kept_below n m at =
      let v = message_numbered-there f.contents f.books n m at in
      sound.parts.numbered.below v.0 v.1 n (has_number f.contents f.books v.0 v.1 n m v.2 v.3)

  -- a message that lies under a number is a loan or a sent message, and not both
  not_both : (o : Option (KeptMessage T U)) (l : Loan T U) → option_and_then loan_in o ≡ Some l
      → option_and_then entry_in o ≡ None
  not_both None l e = refl
  not_both (Some (Lent_message n loan)) l e = refl
  not_both (Some (Sent_message n entry)) l e = absurd (none-some l e)

  -- the state and the messages that are kept are shown
  pub shows_itself : Shows (kept_of f) (entries_of (kept_of f)) (state_of (kept_of f))
  shows_itself = record {
    state = refl;
    well_formed = sound.well_formed;
    entries = λ n entry at. at;
    complete = sound.entries;
    below = λ n high. nothing n high (message_numbered n (kept_of f).books) refl;
    unsent = λ n l at. not_both (message_numbered n (kept_of f).books) l at;
  } where
    nothing : (n : ℕ) → f.next_message ≤ n → (o : Option (KeptMessage T U)) → message_numbered n (kept_of f).books ≡ o
        → option_and_then entry_in o ≡ None
    nothing n high None e = refl
    nothing n high (Some m) e = let low : n < f.next_message = kept_below n m e in absurd (omega arith)
