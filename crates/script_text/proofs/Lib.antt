pub mod CallLines
pub mod LineFeeds
pub mod LineLemmas
pub mod ReplyLines
pub mod ScriptTextLemmas
pub mod WordLemmas
