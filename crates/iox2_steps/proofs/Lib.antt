-- What the proofs of several steps use, by the call that they serve.
pub mod creations
pub mod updates
pub mod sends
pub mod discards
pub mod releases
pub mod closes
pub mod subscriber_closes
pub mod receivers
