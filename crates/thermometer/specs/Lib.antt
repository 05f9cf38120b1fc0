pub mod Changes
pub mod Ports
