pub mod Values
pub mod Moves
pub mod Votes
pub mod Queues
pub mod Recordings
