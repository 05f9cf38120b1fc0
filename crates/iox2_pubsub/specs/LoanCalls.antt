-- What calls on a loan make of it.
use Rattle.std.specs.Prelude.{ℕ, List, length, ◌≡◌}
use Rattle.std.specs.declared.option.Option.{Option}
use Rattle.std.specs.declared.option.Option.TheVariants.{Some}
use Rattle.iox2_machine.specs.declared.header.Header.{Header}
use Rattle.iox2_machine.specs.declared.key.Key.{Key}
use Rattle.iox2_machine.specs.machine.Loans.{loan_discarded}
use Rattle.iox2_machine.specs.machine.Records.{Loan}
use Rattle.iox2_machine.specs.machine.SingleCalls.{WriteAllFrom}
use Rattle.iox2_machine.specs.machine.State.{State, Messages}
use Rattle.iox2_domain.specs.Kept.{Kept}
use Rattle.iox2_domain.specs.Shows.{Shows}
use Rattle.iox2_pubsub.specs.Handles.{unwritten_number, written_number}
use Rattle.iox2_pubsub.specs.Leaves.{LeavesBut}
use Rattle.iox2_pubsub.specs.Live.{A_loan, HasLender, IsLoanKey, IsUnblocked, IsWritten, IsWrittenLoan, LoanHasHeader}
use Rattle.iox2_pubsub.specs.Live.{LoanHasUserHeader, NeverWaits, unwritten_key, unwritten_loan, written_key}
use Rattle.iox2_pubsub.specs.LoansLeft.{HasOneMoreLeft}
use Rattle.iox2_pubsub.specs.Slices.{HasUnwrittenCells, HasValues}
use Rattle.iox2_pubsub.specs.declared.sample_mut.SampleMut.{SampleMut}
use Rattle.iox2_pubsub.specs.declared.sample_mut_uninit.SampleMutUninit.{SampleMutUninit}

module _ {T U F G : Type 0} where
  -- The loan with this key was given back unsent, and all else is left as it was: the machine discards it, it's out no
  -- more, and its publisher, if it wasn't closed, has one loan more left.
  pub record IsDiscarded (loan : Key) (old new : Kept T U F G) : Type 0 where
    pub discarded : (m : Messages T U) (s : State T U) (l : Loan T U) → Shows old m s → s.loans loan.message ≡ Some l
        → Shows new m (loan_discarded s loan.message l)
    pub spent : IsLoanKey new loan → ⊥
    pub given_back : HasOneMoreLeft loan.port old new
    pub leaves : LeavesBut (A_loan loan.message) old new

  -- The machine writes these values into the loan with this number, one into each cell, in each state that the domain
  -- showed.
  abbrev pub WritesAll : (number : ℕ) → List T → (old new : Kept T U F G) → Type 0
  WritesAll number values old new =
      (m : Messages T U) (s : State T U) → Shows old m s
      → (l : Loan T U) × (s.loans number ≡ Some l) × (s' : State T U) × WriteAllFrom s number l values s'
      × Shows new m s'

  -- The unwritten loan became this written one, which may be sent, and all else is left as it was: the loan has the
  -- same key, headers and number of elements, its publisher is there if it was, and no send of that one is blocked, or
  -- ever is, if none was.
  pub record BecomesWritten (loan : SampleMutUninit) (written : SampleMut) (old new : Kept T U F G) : Type 0 where
    pub out : IsWritten new written
    pub live : NeverWaits old (unwritten_key loan) → IsWrittenLoan new written
    pub unblocked : IsUnblocked old (unwritten_key loan) → IsUnblocked new (written_key written)
    pub key : written_key written ≡ unwritten_key loan
    pub lent : HasLender old (unwritten_key loan) → HasLender new (written_key written)
    pub lengths : (cells : List (Option T)) (values : List T) → HasUnwrittenCells old (unwritten_number loan) cells
        → HasValues new (written_number written) values
        → length values ≡ length cells
    pub header : (header : Header) → LoanHasHeader old (unwritten_key loan) header
        → LoanHasHeader new (written_key written) header
    pub user_header : (header : U) → LoanHasUserHeader old (unwritten_key loan) header
        → LoanHasUserHeader new (written_key written) header
    pub leaves : LeavesBut (unwritten_loan loan) old new
