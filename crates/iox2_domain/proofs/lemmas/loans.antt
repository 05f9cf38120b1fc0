-- A loan is granted, found, read and written.
pub mod Taken
pub mod PublisherChanges
pub mod Granted
pub mod GrownSegments
pub mod GrowingLoans
pub mod GrantedAgrees
pub mod LendingSteps
pub mod Lent
pub mod Loaned
pub mod LoanSlots
pub mod LoansOut
pub mod LoanChanges
pub mod LoanCalls
pub mod ChangedLoan
pub mod KeptLoan
pub mod LentLoans
