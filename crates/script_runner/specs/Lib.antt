pub mod Endings
pub mod Reading
pub mod Script
pub mod Writing
