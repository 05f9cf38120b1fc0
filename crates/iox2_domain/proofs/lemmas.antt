-- What the proofs of several functions use, by the call or the part that they serve.
pub mod boxes
pub mod containers
pub mod fields
pub mod slots
pub mod loans
pub mod receives
pub mod samples
