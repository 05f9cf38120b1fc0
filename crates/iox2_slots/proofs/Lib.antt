pub mod EachOnce
pub mod FreeSlots
pub mod LaterSlots
pub mod RecountedSlots
pub mod SlotRecords
pub mod SlotHeaders
