pub mod AllChannels
pub mod AskedChannels
pub mod ChangedChannels
pub mod ChangedLinks
pub mod ReceivedChannels
pub mod SentChannels
pub mod StandingPlaces
mod ReturnedAtHint
mod StaticPass
mod LoanPass
mod ClearedSlots
mod OlderSlots
mod FilledSlots
mod CountedPass
mod ReadyPass
mod GrowthPass
mod GrowingPass
pub mod SentEnds
mod ClearedSends
mod ToConnection
mod WaitingChannels
mod TakenUp
mod BlockingReceivers
