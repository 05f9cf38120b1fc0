-- Where borrowed messages lie.
use Rattle.std.specs.Prelude.{◌≡◌, ◌≢◌, ℕ, true, map, slice_index, Contains}
use Rattle.std.specs.declared.option.Option.TheVariants.{Some}
use Rattle.slab.specs.Slab.{get}
use Rattle.iox2_connections.specs.Link.{Link}
use Rattle.iox2_machine.specs.machine.Numbers.{contains}
use Rattle.iox2_slots.specs.SlotBook.{Book}
use Rattle.iox2_domain.specs.Fields.{Fields, number_in_slot}
use Rattle.iox2_domain.specs.declared.message_slots.MessageSlot.{MessageSlot}
use Rattle.iox2_domain.specs.declared.sample_slots.SampleAt.{SampleAt}
use Rattle.iox2_domain.specs.declared.sample_slots.SampleSlot.{SampleSlot}

-- No borrowed slot has this number.
abbrev pub HasNoneNumbered : Link → Book → (number : ℕ) → Type 0
HasNoneNumbered c book number = (slot : ℕ) → Contains c.borrowed slot → slice_index book.numbers slot ≢ number

-- A borrowed slot has this number.
pub record IsNumberedSlot (c : Link) (book : Book) (number slot : ℕ) : Type 0 where
  pub borrowed : Contains c.borrowed slot
  pub number_is : slice_index book.numbers slot ≡ number

-- A message with this number lies there, borrowed by the subscriber.
pub record LiesBorrowed {T U : Type 0} (f : Fields T U) (subscriber number : ℕ) (at : SampleSlot) : Type 0 where
  pub connection : Link
  pub book : Book
  pub has_connection : get f.connections at.connection ≡ Some connection
  pub has_book : get f.books at.book ≡ Some book
  pub subscriber_is : connection.home.subscriber ≡ subscriber
  pub book_is : book.publisher ≡ connection.home.publisher
  pub slot_is : IsNumberedSlot connection book number at.slot

-- The same of the slot alone: it lies there in some connection.
abbrev pub LiesBorrowedInSlot : {T U : Type 0} → Fields T U → (subscriber number : ℕ) → MessageSlot → Type 0
LiesBorrowedInSlot f subscriber number at =
    (key : ℕ) × LiesBorrowed f subscriber number (record { connection = key; book = at.book; slot = at.slot })

-- The sample lies where it says that it is looked for first.
abbrev pub LiesAtHint : {T U : Type 0} → Fields T U → SampleAt → Type 0
LiesAtHint f sample = LiesBorrowed f sample.subscriber sample.number
    (record { connection = sample.connection; book = sample.book; slot = sample.slot })

-- The sample lies where it says, in a connection that is marked as open.
pub record IsReturnable {T U : Type 0} (f : Fields T U) (sample : SampleAt) : Type 0 where
  pub lies : LiesAtHint f sample
  pub marked : (lies.connection).is_open ≡ true

-- The subscriber has borrowed a message with this number in the connection at the key.
pub record BorrowsAt {T U : Type 0} (f : Fields T U) (key subscriber number : ℕ) : Type 0 where
  pub connection : Link
  pub stands : get f.connections key ≡ Some connection
  pub subscriber_is : connection.home.subscriber ≡ subscriber
  pub is_borrowed : contains (map (number_in_slot f.books connection.home.publisher) connection.borrowed) number ≡ true
