-- Calls on a loan that is out.
use Rattle.std.specs.Prelude.{◌≡◌, ℕ, Bool, true, false, List, [], ◌∷◌, length, map, slice_index_or, slice_set}
use Rattle.std.specs.Bool.{MatchBool}
use Rattle.std.specs.List.{refill}
use Rattle.std.specs.declared.option.Option.{Option}
use Rattle.std.specs.declared.option.Option.TheVariants.{None, Some}
use Rattle.slab.specs.Slab.{with_value}
use Rattle.iox2_machine.specs.machine.Records.{Loan}
use Rattle.iox2_machine.specs.machine.State.{State, with_loan}
use Rattle.iox2_machine.specs.machine.Loans.{is_initialized, initialized}
use Rattle.iox2_slots.specs.SlotBook.{Book}
use Rattle.iox2_contents.specs.SlotContents.{ContentState, SomeAt, with_changed}
use Rattle.iox2_machine.specs.declared.header.Header.{Header}
use Rattle.iox2_slots.specs.declared.slots.mark.SlotMark.{SlotMark}
use Rattle.iox2_domain.specs.Kept.{state_of}
use Rattle.iox2_domain.specs.Fields.{Fields, kept_of, contents_at}
use Rattle.iox2_domain.specs.Reaches.{Reaches}

module _ {T U : Type 0} where
  -- The publisher's loan n is out and isn't written.
  abbrev pub HoldsUnwritten : State T U → (publisher n : ℕ) → Type 0
  HoldsUnwritten s publisher n =
      (l : Loan T U) × (s.loans n ≡ Some l) × (l.publisher ≡ publisher) × (l.is_written ≡ false)

  -- The publisher's loan n is out and written.
  abbrev pub HoldsWritten : State T U → (publisher n : ℕ) → Type 0
  HoldsWritten s publisher n = (l : Loan T U) × (s.loans n ≡ Some l) × (l.publisher ≡ publisher) × (l.is_written ≡ true)

  -- ---- reads

  -- The loan n has these cells.
  abbrev pub HasCells : State T U → (n : ℕ) → List (Option T) → Type 0
  HasCells s n cells = (l : Loan T U) × (s.loans n ≡ Some l) × (l.cells ≡ cells)

  -- The loan n has this one cell.
  abbrev pub HasCell : State T U → (n : ℕ) → Option T → Type 0
  HasCell s n cell = HasCells s n (cell ∷ [])

  -- The loan n has this header.
  abbrev pub HasLoanHeader : State T U → (n : ℕ) → Header → Type 0
  HasLoanHeader s n header = (l : Loan T U) × (s.loans n ≡ Some l) × (l.header ≡ header)

  -- The loan n has this user header.
  abbrev pub HasLoanUserHeader : State T U → (n : ℕ) → U → Type 0
  HasLoanUserHeader s n user_header = (l : Loan T U) × (s.loans n ≡ Some l) × (l.user_header ≡ user_header)

  -- ---- writes

  -- The contents at the key are there.
  abbrev pub HasContents : Fields T U → (key : ℕ) → Type 0
  HasContents f key = (contents : List (ContentState T U)) × (slice_index_or f.contents key None ≡ Some contents)

  -- The contents at the key are there, and P holds of what lies in the slot.
  abbrev pub HasContentIn : Fields T U → (key slot : ℕ) → (ContentState T U → Type 0) → Type 0
  HasContentIn f key slot P = (contents : List (ContentState T U))
      × (slice_index_or f.contents key None ≡ Some contents) × SomeAt contents slot P

  -- What lies in the slot of the book at the key is changed so.
  abbrev pub with_content_in_slot : Fields T U → (key slot : ℕ) → (ContentState T U → ContentState T U) → Fields T U
  with_content_in_slot f key slot change =
      record f { contents = slice_set f.contents key (Some (with_changed (contents_at f.contents key) slot change)) }

  -- The slot of the book at the key is marked so.
  abbrev pub with_slot_mark : Fields T U → (key slot : ℕ) → Book → SlotMark → Fields T U
  with_slot_mark f key slot book mark =
      record f { books = with_value f.books key (record book { marks = slice_set book.marks slot mark }) }

  -- ---- what a reference into a loan leaves

  -- The loan with its first cell changed.
  abbrev pub first_cell_changed : (cell : Option T) → Loan T U → Loan T U
  first_cell_changed cell l = record l { cells = slice_set l.cells 0 cell }

  -- The loan with its cells changed. They stay as many.
  abbrev pub cells_changed : (cells : List (Option T)) → Loan T U → Loan T U
  cells_changed cells l = record l { cells = refill (length l.cells) l.cells cells }

  -- The loan with its user header changed.
  abbrev pub user_header_changed : (user_header : U) → Loan T U → Loan T U
  user_header_changed user_header l = record l { user_header = user_header }

  -- ---- what writes do

  -- The loan n with these values, which makes it a written one.
  abbrev pub with_values_written : State T U → (n : ℕ) → Loan T U → (values : List T) → State T U
  with_values_written s n l values = with_loan s n (Some (record l { cells = map Some values; is_written = true }))

  -- The fields reach the state after the machine's write of these values into the cells of the loan n.
  abbrev pub WritesLoan : (old new : Fields T U) → (n : ℕ) → (values : List T) → Type 0
  WritesLoan old new n values =
      (l : Loan T U) × ((state_of (kept_of old)).loans n ≡ Some l) × (length values ≡ length l.cells)
      × Reaches old new (with_values_written (state_of (kept_of old)) n l values)

  -- The loan n is taken as written, or nothing changes since some cell of it isn't.
  abbrev pub AssumesLoan : (old new : Fields T U) → (n : ℕ) → (is_written : Bool) → Type 0
  AssumesLoan old new n is_written =
      (l : Loan T U) × ((state_of (kept_of old)).loans n ≡ Some l) × (is_written ≡ is_initialized l)
      × MatchBool is_written (Reaches old new (initialized (state_of (kept_of old)) n l)) (new ≡ old)
