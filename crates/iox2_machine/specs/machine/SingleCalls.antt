-- Loans that are written at once; what no command does as it stands: writes of many values, and loans of slices of
-- default values; and the tests of handles.
use Rattle.std.specs.Prelude.{ℕ, Bool, true, List, map, length, ◌≡◌, MatchOption, IsTrue}
use Rattle.std.specs.List.{All}
use Rattle.std.specs.declared.option.Option.{Option}
use Rattle.std.specs.declared.option.Option.TheVariants.{Some}
use Rattle.iox2_machine.specs.machine.Mailbox.{is_borrowed}
use Rattle.iox2_machine.specs.machine.Records.{Loan, Publisher, Subscriber, BlockedSend, Environment}
use Rattle.iox2_machine.specs.machine.State.{State, with_loan}
use Rattle.iox2_machine.specs.machine.Loans.{GrantLoan, written}
use Rattle.iox2_machine.specs.declared.errors.LoanError.{LoanError}

module _ {T U : Type 0} where
  -- A loan is asked of the publisher p. If it is granted, `Then` says what becomes of it at once.
  abbrev GrantLoanThen : Environment → (default_header : U) → (checks_length : Bool) → (len : ℕ) → State T U → (p : ℕ)
      → State T U → Option LoanError → (Then : State T U → Loan T U → Type 0) → Type 0
  GrantLoanThen environment default_header checks_length len s p s' refusal Then =
      (mid : State T U) × GrantLoan environment default_header checks_length len s p mid refusal
      × MatchOption refusal
      (MatchOption (mid.loans s.next_message) ⊥ (λ l. Then mid l))
      (λ e. s' ≡ mid)

  -- `loan` and `send_copy`: a loan with that value in its cells, if it is granted; they loan a single value.
  -- (`loan_custom_payload` is `GrantLoan` as it is, with the length checked; `receive_custom_payload` is `Receive`.)
  abbrev pub GrantWrittenLoan : Environment → (default_value : T) → (default_header : U) → (checks_length : Bool)
      → (len : ℕ) → State T U → (p : ℕ) → State T U → Option LoanError → Type 0
  GrantWrittenLoan environment default_value default_header checks_length len s p s' refusal =
      GrantLoanThen environment default_header checks_length len s p s' refusal
      (λ mid l. s' ≡ with_loan mid s.next_message (Some (written l default_value)))

  -- `write_from_fn` and `write_from_slice`: every cell of the loan n is written, in order, and it is a `SampleMut` now.
  abbrev pub WriteAllFrom : State T U → (n : ℕ) → Loan T U → (values : List T) → State T U → Type 0
  WriteAllFrom s n l values s' =
      (length values ≡ length l.cells)
      × (s' ≡ with_loan s n (Some (record l { cells = map Some values; is_written = true })))

  -- `loan_slice`: a loan in whose cells these default values lie, one made for each cell, if it is granted. The values
  -- need not be alike, for they aren't copied.
  abbrev pub GrantDefaultSlice : Environment → (IsDefaultValue : T → Type 0) → (values : List T) → (default_header : U)
      → (len : ℕ) → State T U → (p : ℕ) → State T U → Option LoanError → Type 0
  GrantDefaultSlice environment IsDefaultValue values default_header len s p s' refusal =
      All IsDefaultValue values
      × GrantLoanThen environment default_header true len s p s' refusal
      (λ mid l. WriteAllFrom mid s.next_message l values s')

  -- ---- the tests of handles

  -- A publisher's handle is live: it wasn't closed.
  abbrev pub HoldsPublisher : State T U → (p : ℕ) → Type 0
  HoldsPublisher s p = (x : Publisher) × (s.publishers p ≡ Some x)

  -- A subscriber's handle is live: it wasn't closed.
  abbrev pub HoldsSubscriber : State T U → (q : ℕ) → Type 0
  HoldsSubscriber s q = (y : Subscriber) × (s.subscribers q ≡ Some y) × (y.is_open ≡ true)

  -- A loan's handle is live: it wasn't sent or discarded.
  abbrev pub HoldsLoan : State T U → (p n : ℕ) → Type 0
  HoldsLoan s p n = (l : Loan T U) × (s.loans n ≡ Some l) × (l.publisher ≡ p)

  -- A sample's handle is live: its message is borrowed.
  abbrev pub HoldsSample : State T U → (q n : ℕ) → Type 0
  HoldsSample s q n = (p : ℕ) × IsTrue (is_borrowed n (s.mailboxes p q))

  -- A blocked send's handle is live: its publisher waits with that message.
  abbrev pub HoldsBlocked : State T U → (p n : ℕ) → Type 0
  HoldsBlocked s p n =
      (x : Publisher) × (b : BlockedSend) × (s.publishers p ≡ Some x) × (x.blocked ≡ Some b) × (b.message ≡ n)
