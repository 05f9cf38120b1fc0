-- A loan is given back unsent.
use Rattle.std.specs.Prelude.{◌≡◌, ℕ, ◌-◌, slice_set}
use Rattle.std.specs.declared.option.Option.TheVariants.{Some}
use Rattle.slab.specs.Slab.{with_value}
use Rattle.iox2_machine.specs.machine.Loans.{loan_discarded}
use Rattle.iox2_machine.specs.machine.Records.{Loan}
use Rattle.iox2_slots.specs.SlotBook.{Book, with_holders, holders_at}
use Rattle.iox2_contents.specs.SlotContents.{with_changed, ended_content}
use Rattle.iox2_domain.specs.Deliveries.{with_loan_out}
use Rattle.iox2_domain.specs.Fields.{Fields, kept_of, contents_at}
use Rattle.iox2_domain.specs.Kept.{state_of}
use Rattle.iox2_domain.specs.Ports.{PublisherFields}
use Rattle.iox2_domain.specs.Reaches.{Reaches}

-- The book with one holder less of the slot.
abbrev pub with_holder_gone : (slot : ℕ) → Book → Book
with_holder_gone slot book = with_holders book slot (holders_at book slot - 1)

-- The fields after the publisher x, which stands at that place, has taken back the loan in the slot of its book. The
-- slot has no cells any more.
abbrev pub with_loan_discarded : {T U : Type 0} → Fields T U → (place : ℕ) → PublisherFields → (slot : ℕ) → Book
    → Fields T U
with_loan_discarded f place x slot book = record f {
  publishers = slice_set f.publishers place (Some (with_loan_out slot x));
  books = with_value f.books x.book (with_holder_gone slot book);
  contents = slice_set f.contents x.book (Some (with_changed (contents_at f.contents x.book) slot ended_content));
}

-- The fields reach the state after the machine's discard of the loan n.
abbrev pub DiscardsLoan : {T U : Type 0} → (old new : Fields T U) → (n : ℕ) → Type 0
DiscardsLoan {T} {U} old new n =
    (l : Loan T U) × ((state_of (kept_of old)).loans n ≡ Some l)
    × Reaches old new (loan_discarded (state_of (kept_of old)) n l)
