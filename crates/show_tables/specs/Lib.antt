pub mod FrameTable
pub mod Losses
pub mod PortBounds
pub mod GroupBounds
pub mod DelayTable
pub mod Examples
