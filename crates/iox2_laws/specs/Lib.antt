pub mod Laws
pub mod Sendings
