pub mod Reach
pub mod Windows
pub mod Faults
pub mod Acceptable
pub mod ReachTables
pub mod FrameInput
pub mod FaultCodes
pub mod Examples
