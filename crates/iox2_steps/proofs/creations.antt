-- Ports enter a domain.
pub mod SubscriberEntered
pub mod SubscriberEnteredAgrees
pub mod SubscriberAdmitted
pub mod SubscriberEntries
pub mod SubscriberCreations
pub mod PublishersDue
pub mod PublisherEntered
pub mod PublisherEnteredAgrees
pub mod PublisherAdmitted
pub mod PublisherEntries
pub mod PublisherCreations
pub mod SubscribersDue
pub mod FirstUpdates
