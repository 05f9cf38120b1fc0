pub mod Defaults
pub mod machine
pub mod Backpressure
pub mod BackpressureHandlers
pub mod DegradationHandlers
pub mod ErrorTexts
pub mod SingleValues
pub mod Stored
