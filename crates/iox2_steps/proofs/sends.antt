-- A loan is sent, and its message is delivered.
pub mod LoanAlone
pub mod Reach
pub mod DeliverySteps
pub mod AskedBoxes
pub mod AnySends
pub mod SentSlots
pub mod SendEnded
pub mod Trimmed
pub mod Publishing
pub mod Published
pub mod GoneOn
pub mod BlockedSteps
pub mod Begun
pub mod NobodyThere
pub mod SendSteps
pub mod FailedUpdates
