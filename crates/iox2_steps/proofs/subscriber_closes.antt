-- A subscriber closes.
pub mod OwnedParts
pub mod ClosedSubscribers
pub mod KeptMessages
pub mod LeftRecounts
pub mod Sheds
pub mod CloseSteps
pub mod CloseWalk
pub mod CloseKeys
pub mod CloseEnds
pub mod CloseReads
pub mod FreedBooks
