-- One cell of a loan, or one value of a message, of however many it has.
use Rattle.std.specs.Prelude.{ℕ, Bool, if◌then◌else◌, length, nat_lt, slice_get, ◌≡◌}
use Rattle.std.specs.declared.option.Option.{Option}
use Rattle.std.specs.declared.option.Option.TheVariants.{Some}
use Rattle.iox2_machine.specs.machine.Loans.{with_cell}
use Rattle.iox2_machine.specs.machine.Records.{Entry, Loan}
use Rattle.iox2_machine.specs.machine.State.{State, Messages, with_loan}
use Rattle.iox2_domain.specs.Kept.{Kept as Domain}
use Rattle.iox2_domain.specs.Shows.{Shows}

module _ {T U F G : Type 0} where
  -- The loan n has this in its cell at the index, or no cell there.
  abbrev pub LoanHasAt : Domain T U F G → (n at : ℕ) → Option (Option T) → Type 0
  LoanHasAt domain n at cell =
      (m : Messages T U) (s : State T U) → Shows domain m s
      → (l : Loan T U) × (s.loans n ≡ Some l) × (slice_get l.cells at ≡ cell)

  -- The message n has this value at the index, or no value there.
  abbrev pub MessageHasAt : Domain T U F G → (n at : ℕ) → Option T → Type 0
  MessageHasAt domain n at value =
      (m : Messages T U) (s : State T U) → Shows domain m s
      → (entry : Entry T U) × (m n ≡ Some entry) × (slice_get entry.values at ≡ value)

  -- The loan n has a cell at the index, and this value is in it afterwards; or it has none there, and nothing changes.
  abbrev pub WritesAt : (old new : Domain T U F G) → (n at : ℕ) → T → (is_there : Bool) → Type 0
  WritesAt old new n at value is_there =
      (m : Messages T U) (s : State T U) → Shows old m s
      → (l : Loan T U) × (s.loans n ≡ Some l) × (nat_lt at (length l.cells) ≡ is_there)
      × Shows new m (if is_there then with_loan s n (Some (with_cell l at value)) else s)
