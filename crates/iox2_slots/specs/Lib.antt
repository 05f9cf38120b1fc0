pub mod SlotFree
pub mod SlotHeaders
pub mod SlotBook
