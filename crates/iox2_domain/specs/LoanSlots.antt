-- The slots in which loans lie.
use Rattle.std.specs.Prelude.{◌≡◌, ℕ, true, false, ◌<◌, List, length, slice_get, slice_index}
use Rattle.std.specs.declared.option.Option.TheVariants.{Some}
use Rattle.std.specs.Option.{option_map_or}
use Rattle.slab.specs.Slab.{get}
use Rattle.iox2_slots.specs.SlotBook.{Book, holders_at}
use Rattle.iox2_machine.specs.machine.Records.{Loan}
use Rattle.iox2_domain.specs.Kept.{Lent_message, state_of}
use Rattle.iox2_domain.specs.Fields.{Fields, kept_of, message_in, contents_at}
use Rattle.iox2_domain.specs.Invariant.{is_lent}

-- A loan with this number lies in the slot.
pub record IsLoanSlot (book : Book) (slot number : ℕ) : Type 0 where
  pub in_bounds : slot < length book.holders
  pub in_use : 0 < holders_at book slot
  pub lent : option_map_or is_lent (slice_get book.marks slot) false ≡ true
  pub numbered : slice_index book.numbers slot ≡ number

-- A loan with this number lies in none of these slots.
abbrev pub IsInNoSlot : Book → (slots : List ℕ) → (number : ℕ) → Type 0
IsInNoSlot book slots number = (i : ℕ) → i < length slots → IsLoanSlot book (slice_index slots i) number → ⊥

-- A loan with this number lies in no slot of the book.
abbrev pub HasNoLoan : Book → (number : ℕ) → Type 0
HasNoLoan book number = (slot : ℕ) → IsLoanSlot book slot number → ⊥

-- The book at the key is this publisher's, and in a slot of it lies the loan with this number.
pub record LendsAt {T U : Type 0} (f : Fields T U) (key publisher number : ℕ) : Type 0 where
  pub book : Book
  pub stands : get f.books key ≡ Some book
  pub is_its : book.publisher ≡ publisher
  pub slot : ℕ
  pub loan_slot : IsLoanSlot book slot number

-- In this slot of the book at the key lies the publisher's loan with this number, which is out.
pub record LiesInSlot {T U : Type 0} (f : Fields T U) (publisher number key slot : ℕ) : Type 0 where
  pub book : Book
  pub stands : get f.books key ≡ Some book
  pub is_its : book.publisher ≡ publisher
  pub loan_slot : IsLoanSlot book slot number
  pub loan : Loan T U
  pub lies : message_in book (contents_at f.contents key) slot ≡ Some (Lent_message number loan)
  pub is_out : (state_of (kept_of f)).loans number ≡ Some loan
