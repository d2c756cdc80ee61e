pub mod DelayedCapture
pub mod BridgeRuns
pub mod Rounds
pub mod Delivery
pub mod InputCaptures
pub mod EndedRuns
