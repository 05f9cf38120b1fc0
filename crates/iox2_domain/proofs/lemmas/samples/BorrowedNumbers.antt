-- Whether a subscriber has borrowed a number.
use Rattle.std.proofs.Common.{◌≡◌, ◌↔◌, ℕ, ◌<◌, Bool, true, false, map, length, refl, ap, sym, subst, ◌∙◌, Option, Some}
use Rattle.std.proofs.Common.{None, is_some, IsTrue, MatchOption, Contains}
use Rattle.std.proofs.lemmas.Bool.{true≢false, eqb-true}
use Rattle.iox2_connections.specs.Link.{Link}
use Rattle.iox2_machine.specs.machine.Numbers.{contains}
use Rattle.iox2_machine.specs.machine.Mailbox.{is_borrowed}
use Rattle.iox2_machine.specs.machine.SingleCalls.{HoldsSample}
use Rattle.iox2_slots.specs.SlotBook.{Book}
use Rattle.iox2_connections.specs.LookUp.{look_up}
use Rattle.iox2_connections.specs.Mailboxes.{is_between, mailbox_if_any}
use Rattle.iox2_connections.proofs.Counts.{in_range}
use Rattle.iox2_connections.proofs.LookUps.{look_up-there}
use Rattle.iox2_connections.proofs.MailboxChanges.{both-true, mailbox-there, within_if_some}
use Rattle.iox2_domain.specs.Kept.{state_of}
use Rattle.iox2_domain.specs.Fields.{Fields, kept_of, number_in_slot}
use Rattle.iox2_domain.specs.Invariant.{IsDomain}
use Rattle.iox2_domain.specs.SampleSlots.{HasNoneNumbered, IsNumberedSlot, LiesBorrowed, BorrowsAt}
use Rattle.iox2_domain.specs.declared.sample_slots.SampleSlot.{SampleSlot}
use Rattle.iox2_domain.proofs.lemmas.slots.ConnectionSlots.{book-numbers, borrowed-in_use, contains-none, contains-one}
use Rattle.iox2_domain.proofs.lemmas.receives.ReceiptSteps.{HasItsBook}
use Rattle.iox2_domain.proofs.lemmas.fields.Views.{mailboxes-are}

module _ {T U : Type 0} (f : Fields T U) (sound : IsDomain f) (key book : ℕ) (c : Link) (b : Book)
    (has : HasItsBook f key book c b) where
  -- each borrowed slot is one of the book
  pub its-slots-within : (slot : ℕ) → Contains c.borrowed slot → slot < length b.holders
  its-slots-within slot borrowed =
      in_range b.holders slot (borrowed-in_use f sound key book c b has.stands has.has_book has.book_is slot borrowed)

  module _ (q n : ℕ) where
    -- whoever borrows there does so by this connection
    same-link : (borrows : BorrowsAt f key q n) → c ≡ borrows.connection
    same-link borrows =
        let one : Some c ≡ Some borrows.connection = sym has.stands ∙ borrows.stands in
        let same : c ≡ borrows.connection = cc in
        same

    -- no borrowed slot has the number
    pub none-borrows : HasNoneNumbered c b n → BorrowsAt f key q n → ⊥
    none-borrows none borrows = true≢false (sym borrows.is_borrowed ∙ absent) where
      absent : contains
          (map (number_in_slot f.books (borrows.connection).home.publisher) (borrows.connection).borrowed) n ≡ false
      absent =
          subst (λ (d : Link). contains (map (number_in_slot f.books d.home.publisher) d.borrowed) n ≡ false)
          (same-link borrows)
          (contains-none (number_in_slot f.books c.home.publisher) c.borrowed n (λ slot borrowed e.
          none slot borrowed (sym (book-numbers f sound key book c b has.stands has.has_book has.book_is slot) ∙ e)))

    -- a slot with it is where it lies
    pub lies-there : (slot : ℕ) → c.home.subscriber ≡ q → IsNumberedSlot c b n slot
        → LiesBorrowed f q n (record { connection = key; book = book; slot = slot })
    lies-there slot mine found = record {
      connection = c;
      book = b;
      has_connection = has.stands;
      has_book = has.has_book;
      subscriber_is = mine;
      book_is = has.book_is;
      slot_is = found;
    }

module _ {T U : Type 0} (f : Fields T U) (sound : IsDomain f) (q n : ℕ) where
  -- what is borrowed in a connection is in its mailbox
  in-its-mailbox : (key : ℕ) (borrows : BorrowsAt f key q n)
      → is_borrowed n ((state_of (kept_of f)).mailboxes (borrows.connection).home.publisher q) ≡ true
  in-its-mailbox key borrows =
      ap (is_borrowed n) (mailboxes-are f (borrows.connection).home.publisher q
      ∙ mailbox-there (number_in_slot f.books) f.connections key (borrows.connection).home.publisher q
      borrows.connection sound.parts.apart borrows.stands refl borrows.subscriber_is)
      ∙ borrows.is_borrowed

  -- a sample that is live is borrowed in some connection
  pub live-borrows : HoldsSample (state_of (kept_of f)) q n
      → (key : ℕ) × (key < length f.connections.slots) × BorrowsAt f key q n
  live-borrows live = by (look_up (is_between live.0 q) f.connections.slots) refl
      (sym (ap (is_borrowed n) (mailboxes-are f live.0 q)) ∙ live.1) where
        by : (o : Option Link) → look_up (is_between live.0 q) f.connections.slots ≡ o
            → is_borrowed n (mailbox_if_any (number_in_slot f.books live.0) o) ≡ true
            → (key : ℕ) × (key < length f.connections.slots) × BorrowsAt f key q n
        by None e is = absurd (true≢false (sym is))
        by (Some c) e is =
            let there = look_up-there (is_between live.0 q) f.connections.slots c e in
            let parts = both-true _ _ there.2 in
            let its : c.home.publisher ≡ live.0 = eqb-true c.home.publisher live.0 parts.0 in (
              there.0,
              within_if_some f.connections.slots there.0 c there.1,
              record {
                connection = c;
                stands = there.1;
                subscriber_is = eqb-true c.home.subscriber q parts.1;
                is_borrowed =
                    subst (λ (p : ℕ). contains (map (number_in_slot f.books p) c.borrowed) n ≡ true) (sym its) is;
              },
            )

  -- what lies somewhere is borrowed there
  pub lies-borrowed : (at : SampleSlot) (lies : LiesBorrowed f q n at)
      → is_borrowed n ((state_of (kept_of f)).mailboxes (lies.connection).home.publisher q) ≡ true
  lies-borrowed at lies = in-its-mailbox at.connection (record {
    connection = lies.connection;
    stands = lies.has_connection;
    subscriber_is = lies.subscriber_is;
    is_borrowed =
        subst (λ (m : ℕ). contains
        (map (number_in_slot f.books (lies.connection).home.publisher) (lies.connection).borrowed) m ≡ true)
        (book-numbers f sound at.connection at.book lies.connection lies.book lies.has_connection lies.has_book
        lies.book_is at.slot ∙ (lies.slot_is).number_is)
        (contains-one (number_in_slot f.books (lies.connection).home.publisher) (lies.connection).borrowed at.slot
        (lies.slot_is).borrowed);
  })

  -- and so it is live
  pub lies-live : (at : SampleSlot) → LiesBorrowed f q n at → HoldsSample (state_of (kept_of f)) q n
  lies-live at lies = ((lies.connection).home.publisher, lies-borrowed at lies)

  -- nothing is live where it is borrowed in no connection
  pub live-nowhere : ((key : ℕ) → key < length f.connections.slots → BorrowsAt f key q n → ⊥)
      → HoldsSample (state_of (kept_of f)) q n → ⊥
  live-nowhere none live = let there = live-borrows live in none there.0 there.1 there.2

-- where nothing was found in a connection, nothing is borrowed there
pub not-there : {T U : Type 0} (f : Fields T U) (key q n : ℕ) (o : Option SampleSlot)
    → MatchOption o (BorrowsAt f key q n → ⊥) (LiesBorrowed f q n) → (r : Bool) → r ≡ is_some o → r ≡ false
    → BorrowsAt f key q n → ⊥
not-there f key q n None none r is missed = none
not-there f key q n (Some at) lies r is missed = absurd (true≢false (sym is ∙ missed))

-- whether something was found says whether it is live
pub found-live : {T U : Type 0} (f : Fields T U) (sound : IsDomain f) (q n : ℕ) (o : Option SampleSlot)
    → MatchOption o (HoldsSample (state_of (kept_of f)) q n → ⊥) (LiesBorrowed f q n)
    → (r : Bool) → r ≡ is_some o → IsTrue r ↔ HoldsSample (state_of (kept_of f)) q n
found-live f sound q n None none r is = (λ yes. absurd (true≢false (sym yes ∙ is)), λ live. absurd (none live))
found-live f sound q n (Some at) lies r is = (λ yes. lies-live f sound q n at lies, λ live. is)
