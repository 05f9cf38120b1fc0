-- A publisher's connections and the counters of its slots change together, whether it stands or is gone: what the
-- machine sees of it.
use Rattle.std.proofs.Common.{◌≡◌, ℕ, refl, ap, subst, ◌∙◌, List}
use Rattle.std.specs.declared.option.Option.{Option}
use Rattle.std.specs.declared.option.Option.TheVariants.{Some}
use Rattle.slab.specs.Slab.{Slab, get}
use Rattle.iox2_connections.specs.Link.{Link}
use Rattle.iox2_slots.specs.SlotBook.{Book}
use Rattle.iox2_machine.specs.machine.Records.{Loan}
use Rattle.iox2_machine.specs.machine.State.{State}
use Rattle.iox2_connections.specs.Counters.{with_counters}
use Rattle.iox2_connections.specs.Mailboxes.{mailboxes_of}
use Rattle.iox2_connections.specs.Recounts.{Recounts}
use Rattle.iox2_domain.specs.Kept.{KeptMessage, Lent_message, state_of}
use Rattle.iox2_domain.specs.Fields.{Fields, kept_of, number_in_slot}
use Rattle.iox2_domain.specs.Invariant.{HasNumber, HasParts}
use Rattle.iox2_domain.proofs.lemmas.slots.Messages.{lies_at, loan-there, loan-found, alike-if-found}
use Rattle.iox2_domain.proofs.lemmas.slots.BookChanges.{KeepsSlots, numbers-same, book-state}
use Rattle.iox2_domain.proofs.lemmas.fields.SameEnds.{with_connections, connections-are}
use Rattle.iox2_domain.proofs.lemmas.slots.Recounts.{with_recounted, OwnStays, recounted-consistent, back, forth}
use Rattle.iox2_domain.proofs.lemmas.slots.Recounts.{number-back}

module _ {T U : Type 0} (f : Fields T U) (parts : HasParts f) (p key : ℕ) (b : Book) (at : get f.books key ≡ Some b)
    (mine : b.publisher ≡ p)
    (holders : List ℕ) (new : Slab Link) (r : Recounts p b.holders f.connections holders new) where
  -- the fields with these connections and these counters
  abbrev pub recounted_fields : Fields T U
  recounted_fields = with_recounted f parts p key b at mine holders new r

  keeps : KeepsSlots b (with_counters b holders)
  keeps = record { publisher = refl; node = refl; numbers = refl; slots = r.slots }

  -- each slot has its number
  pub same-numbers : number_in_slot recounted_fields.books ≡ number_in_slot f.books
  same-numbers =
      numbers-same (with_connections f new r.homes) key b (with_counters b holders) at keeps parts.books.one_each

  pub was-number : (k slot n : ℕ) → HasNumber recounted_fields.books k slot n → HasNumber f.books k slot n
  was-number k slot n has = number-back f parts p key b at mine holders new r k slot n has

  pub lay : (k slot : ℕ) (m : KeptMessage T U) → lies_at recounted_fields k slot ≡ Some m → lies_at f k slot ≡ Some m
  lay k slot m e = back f parts p key b at mine holders new r k slot m e

  pub lies : (k slot n : ℕ) (m : KeptMessage T U) → HasNumber recounted_fields.books k slot n
      → lies_at f k slot ≡ Some m → lies_at recounted_fields k slot ≡ Some m
  lies k slot n m has e = forth f parts p key b at mine holders new r k slot n m has e

  -- what is in use with its number in one slot is so in the slot where that lay
  pub there : (k slot k' slot' n : ℕ) → HasNumber f.books k slot n → HasNumber recounted_fields.books k' slot' n
      → HasNumber recounted_fields.books k slot n
  there k slot k' slot' n was has =
      let same = parts.numbered.one k' k slot' slot n (was-number k' slot' n has) was in
      subst (λ (i : ℕ). HasNumber recounted_fields.books i slot n) same.0
      (subst (λ (j : ℕ). HasNumber recounted_fields.books k' j n) same.1 has)

  -- ---- loans

  -- the slot of each loan is still in use
  abbrev pub LoansStay : Type 0
  LoansStay = (k slot n : ℕ) (l : Loan T U) → (state_of (kept_of f)).loans n ≡ Some l
      → lies_at f k slot ≡ Some (Lent_message n l) → HasNumber recounted_fields.books k slot n

  module _ (own : OwnStays f parts p key b at mine holders new r) (loans_stay : LoansStay) where
    pub consistent : HasParts recounted_fields
    consistent = recounted-consistent f parts p key b at mine holders new r own

    loan-stays : (n : ℕ) (l : Loan T U) → (state_of (kept_of f)).loans n ≡ Some l
        → (state_of (kept_of recounted_fields)).loans n ≡ Some l
    loan-stays n l found =
        let at_slot = loan-there f n l found in
        loan-found recounted_fields consistent.numbered at_slot.0 at_slot.1 n l
        (lies at_slot.0 at_slot.1 n (Lent_message n l) (loans_stay at_slot.0 at_slot.1 n l found at_slot.2) at_slot.2)

    loan-was : (n : ℕ) (l : Loan T U) → (state_of (kept_of recounted_fields)).loans n ≡ Some l
        → (state_of (kept_of f)).loans n ≡ Some l
    loan-was n l found =
        let at_slot = loan-there recounted_fields n l found in
        loan-found f parts.numbered at_slot.0 at_slot.1 n l (lay at_slot.0 at_slot.1 (Lent_message n l) at_slot.2)

    loans-same : (state_of (kept_of recounted_fields)).loans ≡ (state_of (kept_of f)).loans
    loans-same =
        alike-if-found (state_of (kept_of f)).loans (state_of (kept_of recounted_fields)).loans loan-stays loan-was

    -- ---- the state

    -- the machine sees the mailboxes alone
    pub recounted-is : state_of (kept_of recounted_fields) ≡ record (state_of (kept_of f))
        { mailboxes = mailboxes_of (number_in_slot f.books) new }
    recounted-is =
        book-state (with_connections f new r.homes) key b (with_counters b holders) at keeps parts.books.one_each
        ∙ ap (λ (s : State T U). record s { loans = (state_of (kept_of recounted_fields)).loans })
        (connections-are f new r.homes)
        ∙ ap (λ (loans : ℕ → Option (Loan T U)). record (state_of (kept_of f))
        { mailboxes = mailboxes_of (number_in_slot f.books) new; loans = loans }) loans-same
