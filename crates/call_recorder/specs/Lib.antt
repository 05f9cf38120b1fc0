pub mod Recorder
pub mod RecorderFields
pub mod Bytes
pub mod Messages
