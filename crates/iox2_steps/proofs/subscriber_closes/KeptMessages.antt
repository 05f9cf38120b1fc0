-- A step after which nothing newly lies in a slot, and what lies in a slot that is still in use stays.
use Rattle.std.proofs.Common.{◌≡◌, ℕ, subst, refl}
use Rattle.std.proofs.lemmas.Bool.{eq-eqb}
use Rattle.std.specs.declared.option.Option.TheVariants.{Some}
use Rattle.iox2_machine.specs.machine.Records.{Entry}
use Rattle.iox2_machine.specs.Stored.{IsHeldMessage}
use Rattle.iox2_domain.specs.Kept.{Sent_message, state_of, entries_of}
use Rattle.iox2_domain.specs.Fields.{Fields, kept_of}
use Rattle.iox2_domain.specs.Invariant.{HasNumber, IsNumbered}
use Rattle.iox2_domain.specs.Shows.{KeepsEntries}
use Rattle.iox2_steps.specs.Agreement.{HasOwnedParts, KeepsMessages}
use Rattle.iox2_domain.proofs.lemmas.slots.Messages.{has_number, entry-there, entry-found}
use Rattle.iox2_domain.proofs.lemmas.slots.HeldMessages.{held-message-slot}

module _ {T U : Type 0} where
  pub keeps-same : (f : Fields T U) → KeepsMessages f f
  keeps-same f =
      record { back = λ key slot m at. at; forth = λ key slot n m has at. at; number = λ key slot n has. has }

  pub keeps-trans : (a b c : Fields T U) → KeepsMessages a b → KeepsMessages b c → KeepsMessages a c
  keeps-trans a b c x y = record {
    back = λ key slot m at. x.back key slot m (y.back key slot m at);
    forth = λ key slot n m has at. y.forth key slot n m has (x.forth key slot n m (y.number key slot n has) at);
    number = λ key slot n has. x.number key slot n (y.number key slot n has);
  }

  module _ (old new : Fields T U) (numbered : IsNumbered old.next_message old.books) (parts : HasOwnedParts new)
      (keeps : KeepsMessages old new) where
    -- no entry is newly kept
    pub keeps-entries : (n : ℕ) (entry : Entry T U) → entries_of (kept_of new) n ≡ Some entry
        → entries_of (kept_of old) n ≡ Some entry
    keeps-entries n entry e =
        let at = entry-there new n entry e in
        entry-found old numbered at.0 at.1 n entry (keeps.back at.0 at.1 (Sent_message n entry) at.2)

    -- the entry of a message that somebody holds is still kept
    pub keeps-held : (p n : ℕ) (entry : Entry T U) → IsHeldMessage (state_of (kept_of new)) p n
        → entries_of (kept_of old) n ≡ Some entry
        → entries_of (kept_of new) n ≡ Some entry
    keeps-held p n entry held e =
        let has = held-message-slot new parts.parts.counted parts.parts.publisher_ids parts.parts.plain p n held in
        let at = entry-there old n entry e in
        let same = numbered.one has.0 at.0 has.1 at.1 n (keeps.number has.0 has.1 n has.2)
        (has_number old.contents old.books at.0 at.1 n (Sent_message n entry) at.2 (eq-eqb n n refl)) in
        let now : HasNumber new.books at.0 at.1 n =
        subst (λ (i : ℕ). HasNumber new.books i at.1 n) same.0
        (subst (λ (j : ℕ). HasNumber new.books has.0 j n) same.1 has.2) in
        entry-found new parts.parts.numbered at.0 at.1 n entry (keeps.forth at.0 at.1 n (Sent_message n entry) now at.2)

    -- so each message that somebody holds has its entry, where it was held before
    pub keeps-complete : KeepsEntries (kept_of old)
        → ((p n : ℕ) → IsHeldMessage (state_of (kept_of new)) p n → IsHeldMessage (state_of (kept_of old)) p n)
        → KeepsEntries (kept_of new)
    keeps-complete complete before p n held =
        let was = complete p n (before p n held) in
        (was.0, keeps-held p n was.0 held was.1, was.2)
