pub mod Handlers
pub mod Leaves
pub mod Settings
