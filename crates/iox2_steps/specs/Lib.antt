pub mod Agreement
pub mod Closes
