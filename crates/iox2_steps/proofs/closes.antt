-- A publisher leaves.
pub mod ClosingPorts
pub mod LeftConnections
pub mod LoansLeft
pub mod LeftKeys
pub mod LeftParts
pub mod LeftMailboxes
pub mod LeftPublishers
pub mod LeftSubscribers
pub mod LeftState
pub mod LeaveSteps
pub mod CloseSteps
