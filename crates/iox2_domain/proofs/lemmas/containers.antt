-- Lists, places and slabs, whatever is in them.
pub mod LookUps
pub mod ChangedRecords
pub mod RemovedPorts
pub mod MappedPorts
pub mod SetRecords
pub mod MapSteps
pub mod Placed
pub mod FreePlaces
pub mod ConnectionKeys
pub mod ForgottenKeys
pub mod KeyWalks
pub mod FewerSums
pub mod Extensions
pub mod MadeConnections
