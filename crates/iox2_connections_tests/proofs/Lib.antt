pub mod FirstConnections
