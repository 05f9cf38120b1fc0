-- A live sample lies where a slot in use has its number.
use Rattle.std.proofs.Common.{◌≡◌, ℕ, true, eqb, List, Some, Contains, refl, ap, sym, subst, ◌∙◌}
use Rattle.std.proofs.lemmas.Bool.{eqb-true, eq-eqb, and_from}
use Rattle.std.proofs.lemmas.Map.Views.{Contains-from_any}
use Rattle.slab.specs.Slab.{get}
use Rattle.iox2_connections.specs.Link.{Link}
use Rattle.iox2_slots.specs.SlotBook.{Book}
use Rattle.iox2_machine.specs.machine.Numbers.{contains}
use Rattle.iox2_machine.specs.machine.SingleCalls.{HoldsSample}
use Rattle.iox2_domain.specs.Kept.{state_of}
use Rattle.iox2_domain.specs.Fields.{Fields, kept_of, number_in_slot}
use Rattle.iox2_domain.specs.Invariant.{HasNumber, IsDomain}
use Rattle.iox2_domain.specs.SampleSlots.{LiesBorrowed, LiesBorrowedInSlot}
use Rattle.iox2_domain.specs.declared.sample_slots.SampleSlot.{SampleSlot}
use Rattle.iox2_domain.proofs.lemmas.slots.ConnectionSlots.{book-numbers}
use Rattle.iox2_domain.proofs.lemmas.slots.NumbersInUse.{contains-map_there}
use Rattle.iox2_domain.proofs.lemmas.samples.BorrowedNumbers.{live-borrows}
use Rattle.iox2_domain.proofs.lemmas.samples.SampleEntries.{its-slot}

-- what a list of numbers has stands in it
pub contained : (xs : List ℕ) (n : ℕ) → contains xs n ≡ true → Contains xs n
contained xs n has = Contains-from_any {eq = λ (a b : ℕ). eqb b a} (λ a b e. sym (eqb-true b a e)) n xs has

module _ {T U : Type 0} (f : Fields T U) (sound : IsDomain f) (q n : ℕ)
    (live : HoldsSample (state_of (kept_of f)) q n) where
  -- it lies somewhere
  live-lies : (at : SampleSlot) × LiesBorrowed f q n at
  live-lies =
      let there = live-borrows f sound q n live in
      let borrows = there.2 in
      let key : ℕ = (borrows.connection).home.book in
      let has = sound.parts.names.at there.0 borrows.connection borrows.stands in
      let slot = contains-map_there (number_in_slot f.books (borrows.connection).home.publisher)
      (borrows.connection).borrowed n borrows.is_borrowed in (
        record { connection = there.0; book = key; slot = slot.0 },
        record {
          connection = borrows.connection;
          book = has.book;
          has_connection = borrows.stands;
          has_book = has.stands;
          subscriber_is = borrows.subscriber_is;
          book_is = has.is_its;
          slot_is = record {
            borrowed = contained (borrows.connection).borrowed slot.0 slot.1;
            number_is =
                sym (book-numbers f sound there.0 key borrows.connection has.book borrows.stands has.stands has.is_its
                slot.0) ∙ slot.2;
          };
        },
      )

  -- so it lies in any slot in use that has its number
  pub lies-in-slot : (book slot : ℕ) → HasNumber f.books book slot n
      → LiesBorrowedInSlot f q n (record { book = book; slot = slot })
  lies-in-slot book slot has =
      let at = live-lies.0 in
      let lies = live-lies.1 in
      let same = sound.parts.numbered.one at.book book at.slot slot n (its-slot f sound q n at lies) has in
      let there : at ≡ record { connection = at.connection; book = book; slot = slot } =
      λ i. record { connection = at.connection; book = same.0 i; slot = same.1 i } in
      (at.connection, subst (LiesBorrowed f q n) there lies)

  -- and that is by its subscriber's connection with the slot's publisher
  pub lies-at-hint : (key book slot : ℕ) (c : Link) → get f.connections key ≡ Some c → c.home.subscriber ≡ q
      → c.home.book ≡ book → HasNumber f.books book slot n
      → LiesBorrowed f q n (record { connection = key; book = book; slot = slot })
  lies-at-hint key book slot c at mine book_is has =
      let found = lies-in-slot book slot has in
      let lies = found.1 in
      let named = sound.parts.names.at key c at in
      let books : Some lies.book ≡ Some named.book =
      sym lies.has_book ∙ ap (get f.books) (sym book_is) ∙ named.stands in
      let one_book : lies.book ≡ named.book = cc in
      let publisher : c.home.publisher ≡ (lies.connection).home.publisher =
      sym named.is_its ∙ ap (λ (d : Book). d.publisher) (sym one_book) ∙ lies.book_is in
      let keys : found.0 ≡ key =
      (sound.parts.apart.one (lies.connection).home.publisher q).one found.0 key lies.connection c lies.has_connection
      at
      (and_from _ _ (eq-eqb (lies.connection).home.publisher (lies.connection).home.publisher refl)
      (eq-eqb (lies.connection).home.subscriber q lies.subscriber_is))
      (and_from _ _ (eq-eqb c.home.publisher (lies.connection).home.publisher publisher)
      (eq-eqb c.home.subscriber q mine)) in
      subst (λ (k : ℕ). LiesBorrowed f q n (record { connection = k; book = book; slot = slot })) keys lies
