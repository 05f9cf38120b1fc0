pub mod Ends
pub mod Holders
pub mod Marks
