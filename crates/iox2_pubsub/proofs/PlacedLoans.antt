-- Where messages lie in a domain, and that they stay there.
use Rattle.std.proofs.Common.{◌≡◌, ℕ, List, Option, None, Some, get_or, refl, ap, sym, subst, ◌∙◌, arith}
use Rattle.std.proofs.lemmas.Bool.{eq-eqb}
use Rattle.std.specs.Option.{option_and_then}
use Rattle.slab.specs.Slab.{get}
use Rattle.iox2_slots.specs.SlotBook.{Book}
use Rattle.iox2_machine.specs.machine.SingleCalls.{HoldsLoan}
use Rattle.iox2_domain.specs.Boxes.{DomainBoxes}
use Rattle.iox2_domain.specs.Fields.{Fields, keeping, kept_of, kept_book, messages_in, message_in, contents_at}
use Rattle.iox2_domain.specs.Invariant.{HasNumber, IsDomain}
use Rattle.iox2_domain.specs.Kept.{Kept, KeptBook, Lent_message, state_of}
use Rattle.iox2_domain.specs.KeptPlaces.{KeepsPlaces}
use Rattle.iox2_domain.specs.LoanSlots.{LiesInSlot}
use Rattle.iox2_domain.proofs.lemmas.loans.LoanSlots.{live-lies}
use Rattle.iox2_domain.proofs.lemmas.slots.Messages.{has_number, held-message, lies_at, loan-there, map_from_zero-at}
use Rattle.iox2_domain.proofs.lemmas.slots.Messages.{message_at-book, messages_in-at}
use Rattle.iox2_pubsub.specs.Live.{IsPlaced, IsUnwritten, IsWritten, MessageLiesAt, unwritten_key, written_key}
use Rattle.iox2_pubsub.specs.declared.sample_mut.SampleMut.{SampleMut}
use Rattle.iox2_pubsub.specs.declared.sample_mut_uninit.SampleMutUninit.{SampleMutUninit}
use Rattle.iox2_pubsub.proofs.LiveParts.{loan-parts}

module _ {T U : Type 0} (f : Fields T U) where
  -- all that is kept of books
  abbrev books : List (Option (KeptBook T U))
  books = (kept_of f).books

  -- what is kept of the book at a key
  book-kept : (key : ℕ) → get_or books key None ≡ kept_book f.contents key (get f.books key)
  book-kept key = map_from_zero-at (kept_book f.contents) None f.books.slots (λ i le. refl) key

  -- and of a slot of it
  slot-kept : (key : ℕ) (k : KeptBook T U) (slot : ℕ) → get_or books key None ≡ Some k
      → get_or k.slots slot None ≡ lies_at f key slot
  slot-kept key k slot at = by (get f.books key) (sym (book-kept key) ∙ at) where
    by : (o : Option Book) → kept_book f.contents key o ≡ Some k
        → get_or k.slots slot None ≡ option_and_then (λ b. message_in b (contents_at f.contents key) slot) o
    by None e = absurd cc
    by (Some b) e =
        let shown : KeptBook T U =
        record { publisher = b.publisher; slots = messages_in b (contents_at f.contents key) } in
        let same : Some shown ≡ Some k = e in
        let is : shown ≡ k = cc in
        ap (λ (j : KeptBook T U). get_or j.slots slot None) (sym is)
        ∙ messages_in-at b (contents_at f.contents key) slot

module _ {T U F G : Type 0} (boxes : DomainBoxes F G) (f : Fields T U) where
  -- a slot in which a message lies is in use, with its number
  pub lies-numbered : (key slot n : ℕ) → MessageLiesAt (keeping boxes f) key slot n → HasNumber f.books key slot n
  lies-numbered key slot n lies =
      has_number f.contents f.books key slot n lies.message
      (sym (slot-kept f key lies.book slot lies.has_book) ∙ lies.has_message) lies.numbered

  -- and in each slot in use lies one
  pub numbered-lies : IsDomain f → (key slot n : ℕ) → HasNumber f.books key slot n
      → MessageLiesAt (keeping boxes f) key slot n
  numbered-lies sound key slot n has =
      let m = held-message f.contents f.books key slot n (λ b at. sound.parts.books.books key b at) has in
      let there = message_at-book f.contents f.books key slot m.0 m.1 in
      let k : KeptBook T U =
      record { publisher = (there.0).publisher; slots = messages_in there.0 (contents_at f.contents key) } in
      let at : get_or (books f) key None ≡ Some k = book-kept f key ∙ ap (kept_book f.contents key) there.1 in
      record { book = k; message = m.0; has_book = at; has_message = slot-kept f key k slot at ∙ m.1; numbered = m.2 }

  -- a message lies where a slot in use has its number
  pub numbered-placed : IsDomain f → (key slot n : ℕ) → HasNumber f.books key slot n
      → IsPlaced (keeping boxes f) n key slot
  unfolding IsPlaced
  numbered-placed sound key slot n has = (
    sound.parts.numbered.below key slot n has,
    λ k s lies. sound.parts.numbered.one k key s slot n (lies-numbered k s n lies) has,
  )

  -- and so does a loan
  pub loan-placed : IsDomain f → (p key slot n : ℕ) → LiesInSlot f p n key slot → IsPlaced (keeping boxes f) n key slot
  loan-placed sound p key slot n lies =
      numbered-placed sound key slot n
      (record {
        book = lies.book;
        stands = lies.stands;
        in_use = lies.loan_slot.in_use;
        number = lies.loan_slot.numbered;
      })

-- each message stays where it is
pub placed-after : {T U F G : Type 0} {boxes : DomainBoxes F G} (boxes' : DomainBoxes F G) (f g : Fields T U)
    (kept : Kept T U F G) → keeping boxes f ≡ kept → IsDomain f → KeepsPlaces f g
    → (n key slot : ℕ) → IsPlaced kept n key slot → IsPlaced (keeping boxes' g) n key slot
unfolding IsPlaced
placed-after {T} {U} {F} {G} {boxes} boxes' f g kept view sound places n key slot =
    subst (λ (k : Kept T U F G). IsPlaced k n key slot → IsPlaced (keeping boxes' g) n key slot) view (λ was. (
      let low = was.0 in let rises = places.rises in omega (arith, low, rises),
      λ k s lies.
          was.1 k s (numbered-lies boxes f sound k s n (places.back k s n was.0 (lies-numbered boxes' g k s n lies))),
    ))

module _ {T U F G : Type 0} {boxes : DomainBoxes F G} (f : Fields T U) (sound : IsDomain f) (kept : Kept T U F G)
    (view : keeping boxes f ≡ kept) where
  -- what has a number lies where it is placed
  pub placed-number : (n key slot : ℕ) → IsPlaced kept n key slot → (k s : ℕ) → HasNumber f.books k s n
      → HasNumber f.books key slot n
  unfolding IsPlaced
  placed-number n key slot placed k s has =
      let here : IsPlaced (keeping boxes f) n key slot =
      subst (λ (it : Kept T U F G). IsPlaced it n key slot) (sym view) placed in
      let same = here.1 k s (numbered-lies boxes f sound k s n has) in
      subst (λ (j : ℕ). HasNumber f.books key j n) same.1 (subst (λ (j : ℕ). HasNumber f.books j s n) same.0 has)

  -- a loan that is out lies where it is placed
  pub placed-lies : (p n key slot : ℕ) → HoldsLoan (state_of (kept_of f)) p n → IsPlaced kept n key slot
      → LiesInSlot f p n key slot
  unfolding IsPlaced
  placed-lies p n key slot live placed =
      let there = loan-there f n live.0 live.1 in
      let has = has_number f.contents f.books there.0 there.1 n (Lent_message n live.0) there.2 (eq-eqb n n refl) in
      let here : IsPlaced (keeping boxes f) n key slot =
      subst (λ (k : Kept T U F G). IsPlaced k n key slot) (sym view) placed in
      let same = here.1 there.0 there.1 (numbered-lies boxes f sound there.0 there.1 n has) in
      subst (λ (s : ℕ). LiesInSlot f p n key s) same.1
      (subst (λ (k : ℕ). LiesInSlot f p n k there.1) same.0
      (live-lies f sound p n live there.0 there.1 has.book has.stands
      (record { in_use = has.in_use; number_is = has.number })))

  -- as a handle's does
  pub unwritten-lies : (loan : SampleMutUninit) → IsUnwritten kept loan
      → LiesInSlot f loan.loan.publisher loan.loan.number loan.loan.book loan.loan.slot
  unwritten-lies loan live =
      placed-lies loan.loan.publisher loan.loan.number loan.loan.book loan.loan.slot
      (subst (λ (k : Kept T U F G). HoldsLoan (state_of k) loan.loan.publisher loan.loan.number) (sym view)
      (loan-parts kept (unwritten_key loan) live.live).1) live.placed

  pub written-lies : (loan : SampleMut) → IsWritten kept loan
      → LiesInSlot f loan.loan.publisher loan.loan.number loan.loan.book loan.loan.slot
  written-lies loan live =
      placed-lies loan.loan.publisher loan.loan.number loan.loan.book loan.loan.slot
      (subst (λ (k : Kept T U F G). HoldsLoan (state_of k) loan.loan.publisher loan.loan.number) (sym view)
      (loan-parts kept (written_key loan) live.live).1) live.placed
