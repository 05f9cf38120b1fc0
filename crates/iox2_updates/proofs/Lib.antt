pub mod EndKeys
pub mod GainedHolders
pub mod ReclaimedUpdates
