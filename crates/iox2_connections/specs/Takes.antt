-- A subscriber's work on one connection of a slab, in the machine's words.
use Rattle.std.specs.Prelude.{◌≡◌, ◌≢◌, ◌<◌, ℕ, Bool, true, false, List, length, slice_index, Contains, IsSomeAnd}
use Rattle.std.specs.declared.option.Option.{Option}
use Rattle.std.specs.declared.option.Option.TheVariants.{None, Some}
use Rattle.std.specs.declared.result.Result.{Result}
use Rattle.std.specs.declared.result.Result.TheVariants.{Ok, Err}
use Rattle.slab.specs.Slab.{Slab, get}
use Rattle.iox2_connections.specs.Link.{Link, with_returned}
use Rattle.iox2_machine.specs.machine.Numbers.{IsOnce}
use Rattle.iox2_machine.specs.machine.Mailbox.{Mailbox, BorrowsFirst, with_released}
use Rattle.iox2_machine.specs.declared.errors.ReceiveError.{ReceiveError}
use Rattle.iox2_machine.specs.declared.errors.ReceiveError.TheVariants.{ExceedsMaxBorrows}
use Rattle.iox2_slots.specs.SlotBook.{Book}
use Rattle.iox2_connections.specs.Mailboxes.{mailboxes_of, with_box}
use Rattle.iox2_connections.specs.Counters.{CountersFollow}
use Rattle.iox2_connections.specs.Homes.{SameHomes}
use Rattle.iox2_connections.specs.Finds.{Finds}
use Rattle.iox2_connections.specs.declared.receiver.BorrowedMessage.{BorrowedMessage}
use Rattle.iox2_connections.specs.declared.receiver.Found.{Found}
use Rattle.iox2_connections.specs.declared.receiver.Taken.{Taken}

-- Every connection except the one at the key stays as it is.
pub record KeepsOtherKeys (key : ℕ) (old new : Slab Link) : Type 0 where
  pub others : (other : ℕ) → other ≢ key → get new other ≡ get old other

-- What was given back in the connection at the key and isn't reclaimed yet stays.
pub record KeepsReturned (key : ℕ) (old new : Slab Link) : Type 0 where
  pub at : (c d : Link) → get old key ≡ Some c → get new key ≡ Some d → d.returned ≡ c.returned

-- Each slot stands as often as before, so that no counter changes.
pub record SameStands (old new : Slab Link) : Type 0 where
  pub follows : (p : ℕ) (holders : List ℕ) → CountersFollow p holders old.slots holders new.slots

-- Whatever numbers the slots have, the message in this slot, which waits first in the connection at the key, is
-- borrowed.
pub record BorrowsSlot (old : Slab Link) (key slot : ℕ) (new : Slab Link) : Type 0 where
  pub takes : (c : Link) → get old key ≡ Some c → (number : ℕ → ℕ → ℕ)
      → (box : Mailbox)
      × BorrowsFirst (mailboxes_of number old c.home.publisher c.home.subscriber) (number c.home.publisher slot) box
      × (mailboxes_of number new ≡ with_box (mailboxes_of number old) c.home.publisher c.home.subscriber box)

-- This message, which waited in its connection, is borrowed there, and nothing else changes.
pub record TakesSlot (old : Slab Link) (taken : Taken) (new : Slab Link) : Type 0 where
  pub link : Link
  pub stands : get old taken.connection ≡ Some link
  pub home_is : taken.home ≡ link.home
  pub waited : Contains link.waiting taken.slot
  pub borrows : BorrowsSlot old taken.connection taken.slot new
  pub homes : SameHomes old new
  pub others : KeepsOtherKeys taken.connection old new
  pub returned : KeepsReturned taken.connection old new
  pub stay : SameStands old new

-- A subscriber with these keys receives: it takes a message from the connection that is found, or nothing changes.
abbrev pub ReceivesSlot : (old : Slab Link) (expired : List ℕ) (keys : List (Option ℕ))
    → Result (Option Taken) ReceiveError → (new : Slab Link) → Type 0
ReceivesSlot old expired keys (Ok (Some taken)) new =
    Finds old expired keys (Found.Ready taken.connection) × TakesSlot old taken new
ReceivesSlot old expired keys (Ok None) new = Finds old expired keys Found.Nothing × (new ≡ old)
ReceivesSlot old expired keys (Err e) new = (e ≡ ExceedsMaxBorrows) × Finds old expired keys Found.AtLimit × (new ≡ old)

-- The message in this slot is no longer borrowed in the connection at the key, where the borrowed messages have
-- different numbers.
pub record ReleasesSlot (old : Slab Link) (key slot : ℕ) (new : Slab Link) : Type 0 where
  pub releases : (c : Link) → get old key ≡ Some c → (number : ℕ → ℕ → ℕ)
      → IsOnce (mailboxes_of number old c.home.publisher c.home.subscriber).borrowed
      → mailboxes_of number new ≡ with_box (mailboxes_of number old) c.home.publisher c.home.subscriber
      (with_released (number c.home.publisher slot) (mailboxes_of number old c.home.publisher c.home.subscriber))

-- The book for whose slots the connection is stands at its key, and has each slot that is borrowed there.
abbrev pub HasItsSlots : Slab Book → Link → Type 0
HasItsSlots books c =
    IsSomeAnd (get books c.home.book) (λ b. (slot : ℕ) → Contains c.borrowed slot → slot < length b.holders)

-- The message was borrowed in the connection at the key, which is marked as open, and its slot has its number.
pub record IsLastAt (connections : Slab Link) (books : Slab Book) (key : ℕ) (message : BorrowedMessage) : Type 0 where
  pub link : Link
  pub stands : get connections key ≡ Some link
  pub subscriber_is : link.home.subscriber ≡ message.subscriber
  pub book_is : link.home.book ≡ message.book
  pub borrowed : Contains link.borrowed message.slot
  pub marked : link.is_open ≡ true
  pub number_is : IsSomeAnd (get books message.book) (λ b. slice_index b.numbers message.slot ≡ message.number)

-- Such a message is given back, and nothing else changes.
pub record ReturnsMessage (old : Slab Link) (books : Slab Book) (key : ℕ) (message : BorrowedMessage)
    (new : Slab Link) : Type 0 where
  pub is_last : IsLastAt old books key message
  pub releases : ReleasesSlot old key message.slot new
  pub returned : IsSomeAnd (get old key) (λ c. get new key ≡ Some (with_returned message.slot c))
  pub homes : SameHomes old new
  pub others : KeepsOtherKeys key old new
  pub stay : SameStands old new

-- The message is given back where the answer is yes, and else nothing changes.
abbrev pub ReleasesIfLast : (old : Slab Link) (books : Slab Book) (key : ℕ) → BorrowedMessage → Bool → (new : Slab Link)
    → Type 0
ReleasesIfLast old books key message true new = ReturnsMessage old books key message new
ReleasesIfLast old books key message false new = new ≡ old
