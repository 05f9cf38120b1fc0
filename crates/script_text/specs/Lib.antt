pub mod Calls
pub mod Commands
pub mod Failures
pub mod Numbers
pub mod Replies
pub mod ScriptText
pub mod Warnings
pub mod Words
