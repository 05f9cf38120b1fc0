-- A loan is given back unsent.
pub mod Returned
pub mod LeftLoan
pub mod DiscardSteps
