-- A message is received.
pub mod SenderEnds
pub mod Reconnected
pub mod BorrowedSlots
pub mod Received
pub mod ReceiptSteps
pub mod Reception
pub mod Questions
