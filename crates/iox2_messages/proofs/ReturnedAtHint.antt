-- A sample's message that the subscriber's end gives back where the sample says that it lies.
use Rattle.std.proofs.Common.{◌≡◌, ℕ, Option, None, Some, Contains, IsTrue, IsSomeAnd, length, slice_index, ◌<◌, refl}
use Rattle.std.proofs.Common.{ap, sym, subst, ◌∙◌}
use Rattle.std.proofs.lemmas.Bool.{true≢false}
use Rattle.slab.specs.Slab.{Slab, get, ContainsKey}
use Rattle.iox2_connections.specs.Link.{Link}
use Rattle.iox2_connections.specs.Takes.{HasItsSlots, IsLastAt, ReleasesSlot, ReturnsMessage}
use Rattle.iox2_connections.specs.declared.receiver.BorrowedMessage.{BorrowedMessage}
use Rattle.iox2_connections.proofs.MailboxChanges.{mailbox-there}
use Rattle.iox2_connections.proofs.Releases.{IsOnce-map}
use Rattle.iox2_machine.specs.machine.Mailbox.{Mailbox, is_borrowed}
use Rattle.iox2_machine.specs.machine.Numbers.{IsOnce}
use Rattle.iox2_machine.specs.machine.Releases.{released}
use Rattle.iox2_slots.specs.SlotBook.{Book}
use Rattle.iox2_domain.specs.Fields.{Fields, kept_of, number_in_slot}
use Rattle.iox2_domain.specs.Invariant.{IsDomain}
use Rattle.iox2_domain.specs.Kept.{state_of}
use Rattle.iox2_domain.specs.Reaches.{Reaches}
use Rattle.iox2_domain.specs.SampleSlots.{IsReturnable, LiesAtHint}
use Rattle.iox2_domain.specs.declared.sample_slots.SampleAt.{SampleAt}
use Rattle.iox2_domain.proofs.lemmas.fields.Standing.{some_is}
use Rattle.iox2_domain.proofs.lemmas.fields.Views.{mailboxes-are}
use Rattle.iox2_domain.proofs.lemmas.receives.ReceiptSteps.{HasItsBook, names-book, has-its-book}
use Rattle.iox2_domain.proofs.lemmas.samples.BorrowedNumbers.{its-slots-within, lies-there}
use Rattle.iox2_steps.proofs.releases.Released.{once-borrowed}
use Rattle.iox2_steps.proofs.releases.ReturnedHere.{is-returnable, returns-here, its-lender}

module _ {T U : Type 0} (f v : Fields T U) (view : v ≡ f) (sound : IsDomain f) (key : ℕ) where
  module _ (c : Link) (at : get v.connections key ≡ Some c) where
    stands : get f.connections key ≡ Some c
    stands = ap (λ (h : Fields T U). get h.connections key) (sym view) ∙ at

    -- no slot is borrowed there twice
    pub once-there : IsOnce c.borrowed
    once-there =
        IsOnce-map (number_in_slot f.books c.home.publisher) c.borrowed
        (subst (λ (box : Mailbox). IsOnce box.borrowed)
        (mailboxes-are f c.home.publisher c.home.subscriber ∙ mailbox-there
        (number_in_slot f.books) f.connections key c.home.publisher c.home.subscriber c sound.parts.apart stands refl
        refl)
        (once-borrowed ((state_of (kept_of f)).mailboxes c.home.publisher c.home.subscriber)
        (sound.well_formed.mailboxes c.home.publisher c.home.subscriber).within.once))

    -- and all are slots of its book
    pub slots-there : HasItsSlots v.books c
    slots-there = by (get v.books c.home.book) refl (names-book v f key c.home c view sound at refl) where
      by : (o : Option Book) → get v.books c.home.book ≡ o → ContainsKey v.books c.home.book
          → IsSomeAnd o (λ b. (slot : ℕ) → Contains c.borrowed slot → slot < length b.holders)
      by None e has = absurd (true≢false (sym (rw e at has)))
      by (Some b) e has =
          its-slots-within f sound key c.home.book c b (has-its-book v f key c.home c view sound at refl b e)

-- the fields with what the end left
abbrev left_by : {T U : Type 0} → Fields T U → Slab Link → Slab Book → Fields T U
left_by v new these = record v { connections = new; books = these }

-- the sample's message, as the end names it
abbrev message_named : SampleAt → BorrowedMessage
message_named sample =
    record { subscriber = sample.subscriber; book = sample.book; slot = sample.slot; number = sample.number }

-- nothing was given back
pub same-fields : {T U : Type 0} (f v : Fields T U) → v ≡ f → (new : Slab Link) (books : Slab Book) → books ≡ v.books
    → new ≡ v.connections → left_by v new books ≡ f
same-fields {T} {U} f v view new books same stays =
    ap (left_by v new) same ∙ ap (λ (slab : Slab Link). let g : Fields T U = record v { connections = slab } in g) stays
    ∙ view

module _ {T U : Type 0} (f v : Fields T U) (view : v ≡ f) (sound : IsDomain f) (sample : SampleAt)
    (message : BorrowedMessage) (named : message ≡ message_named sample) where
  -- what the end says of the message is so of the sample
  module _ (last : IsLastAt v.connections v.books sample.connection message) where
    its : IsLastAt v.connections v.books sample.connection (message_named sample)
    its = subst (IsLastAt v.connections v.books sample.connection) named last

    there : (b : Book) × (get v.books sample.book ≡ Some b) × (slice_index b.numbers sample.slot ≡ sample.number)
    there = some_is (λ (b : Book). slice_index b.numbers sample.slot ≡ sample.number)
        (get v.books sample.book) its.number_is

    has : HasItsBook f sample.connection sample.book its.link there.0
    has =
        subst (λ (book : ℕ). HasItsBook f sample.connection book its.link there.0) its.book_is
        (has-its-book v f sample.connection (its.link).home its.link view sound its.stands refl there.0
        (subst (λ (book : ℕ). get v.books book ≡ Some there.0) (sym its.book_is) there.1))

    lies : LiesAtHint f sample
    lies = lies-there f sound sample.connection sample.book its.link there.0 has sample.subscriber sample.number
        sample.slot its.subscriber_is (record { borrowed = its.borrowed; number_is = there.2 })

    pub returnable : IsReturnable f sample
    returnable = is-returnable f sample lies v view its.link its.stands its.marked

  module _ (new : Slab Link) (books : Slab Book) (same : books ≡ v.books)
      (returns : ReturnsMessage v.connections v.books sample.connection message new) where
    may : IsReturnable f sample
    may = returnable returns.is_last

    releases : ReleasesSlot v.connections sample.connection sample.slot new
    releases =
        subst (λ (m : BorrowedMessage). ReleasesSlot v.connections sample.connection m.slot new) named returns.releases

    -- the message was given back
    pub gives-back : (p : ℕ) → IsTrue (is_borrowed sample.number ((state_of (kept_of f)).mailboxes p sample.subscriber))
        → Reaches f (left_by v new books) (released (state_of (kept_of f)) p sample.subscriber sample.number)
    gives-back p borrowed =
        subst (λ (slab : Slab Book). Reaches f (left_by v new slab)
        (released (state_of (kept_of f)) p sample.subscriber sample.number)) (sym same)
        (returns-here f sound sample may v view new releases returns.homes returns.others returns.stay p borrowed)

    pub gives-back-soundly : IsDomain (left_by v new books)
    gives-back-soundly = (gives-back _ (its-lender f sound sample may)).agrees
