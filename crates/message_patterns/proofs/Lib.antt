pub mod Middles
pub mod Waits
pub mod VotesWait
pub mod Moved
pub mod Recordings
pub mod QueueItems
pub mod FullQueues
