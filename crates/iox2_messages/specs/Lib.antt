pub mod BlockedPublishers
-- Words of sends, receives and questions, and of what ports ask about channels and change of them.
pub mod ChannelChanges
pub mod KeyChannels
pub mod SendEnds
pub mod ReadySlots
pub mod OlderSlots
pub mod CatchingUp
