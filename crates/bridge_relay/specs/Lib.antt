pub mod Recorders
pub mod PortStates
pub mod Ports
pub mod Records
pub mod Counting
pub mod RelayState
pub mod RelayedFrames
pub mod Finish
