pub mod Fills
pub mod FillingCommands
