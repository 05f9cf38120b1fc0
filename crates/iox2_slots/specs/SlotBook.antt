-- What contracts see of a publisher's book: plain lists, with an entry for each slot.
use Rattle.std.specs.Prelude.{◌≡◌, ℕ, ◌<◌, List, ◌++◌, length, replicate, slice_index, slice_set}
use Rattle.iox2_machine.specs.declared.header.Header.{Header}
use Rattle.iox2_slots.specs.declared.slots.mark.SlotMark.{SlotMark}
use Rattle.iox2_slots.specs.declared.slots.mark.SlotMark.TheVariants.{Unwritten}

-- A publisher and its node, and for each of its slots the number, the header and the mark of the message in it, and how
-- many holders the slot has.
pub record Book : Type 0 where
  pub node : ℕ
  pub publisher : ℕ
  pub numbers : List ℕ
  pub headers : List Header
  pub marks : List SlotMark
  pub holders : List ℕ

-- Each list has an entry for each slot.
pub record IsAligned (book : Book) : Type 0 where
  pub numbers : length book.numbers ≡ length book.holders
  pub headers : length book.headers ≡ length book.holders
  pub marks : length book.marks ≡ length book.holders

-- How many holders the slot has.
abbrev pub holders_at : Book → (slot : ℕ) → ℕ
holders_at book slot = slice_index book.holders slot

-- The book with that many holders of the slot.
abbrev pub with_holders : Book → (slot count : ℕ) → Book
with_holders book slot count = record book { holders = slice_set book.holders slot count }

-- The slot is in use: it has a holder.
pub record IsInUse (book : Book) (slot : ℕ) : Type 0 where
  pub in_bounds : slot < length book.holders
  pub in_use : 0 < holders_at book slot

-- The slot is in use for the message with this number.
pub record IsUsedFor (book : Book) (number slot : ℕ) : Type 0 where
  pub in_use : 0 < holders_at book slot
  pub number_is : slice_index book.numbers slot ≡ number

-- The header of a message of the book's publisher, with that many elements.
abbrev pub header_in : Book → (len : ℕ) → Header
header_in book len = record { node_id = book.node; publisher_id = book.publisher; number_of_elements = len }

-- A slot that wasn't in use has this number and header, isn't written, and has one holder. Nothing else changes.
pub record TakesFreeSlot (old new : Book) (slot number : ℕ) (header : Header) : Type 0 where
  pub in_bounds : slot < length old.holders
  pub was_unused : holders_at old slot ≡ 0
  pub taken : new ≡ record old {
    numbers = slice_set old.numbers slot number;
    headers = slice_set old.headers slot header;
    marks = slice_set old.marks slot Unwritten;
    holders = slice_set old.holders slot 1;
  }

-- The book with that many more slots behind its own, none of them in use.
abbrev pub with_more_slots : (more : ℕ) → Book → Book
with_more_slots more book = record book {
  numbers = book.numbers ++ replicate more 0;
  headers = book.headers ++ replicate more (header_in book 0);
  marks = book.marks ++ replicate more Unwritten;
  holders = book.holders ++ replicate more 0;
}
